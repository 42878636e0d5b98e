-- The tests 33 and 34, read.
-- Assumes nothing.
use Rattle.laws.proofs.Prelude.{ℕ, ◌*◌, ◌^◌, ◌≤◌, ◌<◌, ◌≡◌, refl, Bool, true, false, not, ◌&&◌, ◌||◌, List, eqb, ltb, leb, length, eqb-true, eqb-false, ltb-true}
use Rattle.laws.proofs.Prelude.{ltb-false, leb-true, eq-eqb, le-leb, not-true, arith, split, and_parts, implied, all_below, all_at, all_from, bit, bits_below}
use Rattle.position.proofs.Rules.{count, payees, is_contract, coin_of, shares_to, block_limit}
use Rattle.endings.specs.Earliest.{earliest}
use Rattle.endings.specs.Plan.{planned}
use Rattle.claim_earliest.proofs.Possible.{Possible}
use Rattle.endings.specs.Ending.{destination_of, paying_named, ending_right, coins_apart, in_time, is_possible}

pub implies : (a b : Bool) → (a ≡ true → b ≡ true) → (not a || b) ≡ true
implies true b h = h refl
implies false b h = refl

module _ (s : List ℕ) (per_day mask : ℕ) where
  apart_at : (x y : ℕ) → coins_apart s mask x y ≡ true → bit mask x ≡ true → bit mask y ≡ true → coin_of s x ≡ coin_of s y → x ≡ y
  unfolding coins_apart
  apart_at x y h bx by q =
      eqb-true x y (implied (bit mask x && (bit mask y && eqb (coin_of s x) (coin_of s y))) (eqb x y) h (rw (bx, by, eq-eqb (coin_of s x) (coin_of s y) q)))

  at_apart : (x y : ℕ) → (bit mask x ≡ true → bit mask y ≡ true → coin_of s x ≡ coin_of s y → x ≡ y) → coins_apart s mask x y ≡ true
  unfolding coins_apart
  at_apart x y f =
      implies (bit mask x && (bit mask y && eqb (coin_of s x) (coin_of s y))) (eqb x y)
      (λ h.
      let w = and_parts (bit mask x) (bit mask y && eqb (coin_of s x) (coin_of s y)) h in
      let v = and_parts (bit mask y) (eqb (coin_of s x) (coin_of s y)) w.1 in
      eq-eqb x y (f w.0 v.0 (eqb-true (coin_of s x) (coin_of s y) v.1)))

  pub possible_says : is_possible s per_day mask ≡ true → Possible s per_day mask block_limit
  unfolding is_possible in_time
  possible_says h =
      let w = and_parts (all_below (count s) (λ x. all_below (count s) (coins_apart s mask x))) (all_below (count s) (in_time s per_day mask)) h in
      record {
        apart = λ x y lx ly. apart_at x y (all_at (count s) (coins_apart s mask x) (all_at (count s) (λ x. all_below (count s) (coins_apart s mask x)) w.0 x lx) y ly);
        within = λ t l p. leb-true (earliest s per_day t) block_limit (implied (planned s mask t) (leb (earliest s per_day t) block_limit) (all_at (count s) (in_time s per_day mask) w.1 t l) p);
      }

  pub says_possible : Possible s per_day mask block_limit → is_possible s per_day mask ≡ true
  unfolding is_possible in_time
  says_possible can =
      rw (all_from (count s) (λ x. all_below (count s) (coins_apart s mask x)) (λ x lx. all_from (count s) (coins_apart s mask x) (λ y ly. at_apart x y (can.apart x y lx ly))))
      (all_from (count s) (in_time s per_day mask)
      (λ t l. implies (planned s mask t) (leb (earliest s per_day t) block_limit) (λ p. le-leb (earliest s per_day t) block_limit (can.within t l p))))

module _ (s : List ℕ) (mask : ℕ) (dests : List ℕ) (h : ending_right s mask dests ≡ true) (x : ℕ) (l : x < count s) (b : bit mask x ≡ true) where
  named_at : (not (is_contract s x) ≡ true) × (shares_to s x (destination_of mask dests x) ≡ true)
  unfolding ending_right paying_named
  named_at =
      let w = and_parts (ltb mask (2 ^ count s)) (eqb (length dests) (4 * bits_below (count s) mask) && all_below (count s) (paying_named s mask dests)) h in
      let v = and_parts (eqb (length dests) (4 * bits_below (count s) mask)) (all_below (count s) (paying_named s mask dests)) w.1 in
      and_parts (not (is_contract s x)) (shares_to s x (destination_of mask dests x))
      (implied (bit mask x) (not (is_contract s x) && shares_to s x (destination_of mask dests x)) (all_at (count s) (paying_named s mask dests) v.1 x l) b)

  pub named_paying : 1 ≤ payees s x
  unfolding is_contract
  named_paying =
      split (ltb 0 (payees s x)) (λ y. omega (arith, ltb-true 0 (payees s x) y))
      (λ y. absurd (eqb-false (payees s x) 0 (not-true (eqb (payees s x) 0) named_at.0) (omega (arith, ltb-false 0 (payees s x) y))))

  pub named_to : shares_to s x (destination_of mask dests x) ≡ true
  named_to = named_at.1
