-- The tests of an ending, from what the code finds.
-- Assumes nothing.
use Rattle.laws.proofs.Prelude.{ℕ, ◌*◌, ◌^◌, ◌≡◌, sym, ◌∙◌, Bool, true, false, not, ◌&&◌, List, eqb, ltb, leb, length, eq-eqb, ne_eqb, not-true, not-false, all_below}
use Rattle.laws.proofs.Prelude.{split, bit, bits_below}
use Rattle.position.proofs.Rules.{count, per_day, is_party, is_payee, is_contract, coin_of, shares_to}
use Rattle.endings.specs.Earliest.{earliest}
use Rattle.endings.specs.Plan.{planned}
use Rattle.endings.specs.Ending.{destination_of, paying_named, ending_right, coins_apart, in_time, is_possible}

-- what was found of the sheet's own count n, and of the setup's blocks per day d
pub mask_by : (s : List ℕ) (mask n : ℕ) (w : Bool) → n ≡ count s → w ≡ ltb mask (2 ^ n) → w ≡ ltb mask (2 ^ count s)
mask_by s mask n w e h = rw e at h

pub ones_by : (s : List ℕ) (mask n k : ℕ) → n ≡ count s → k ≡ bits_below n mask → k ≡ bits_below (count s) mask
ones_by s mask n k e h = rw e at h

pub size_by : (s : List ℕ) (mask n k size : ℕ) → n ≡ count s → k ≡ bits_below n mask → size ≡ 4 * k → size ≡ 4 * bits_below (count s) mask
size_by s mask n k size e h f = rw (← e, ← h) f

pub possible_by : (s u : List ℕ) (mask d : ℕ) (r : Bool) → d ≡ per_day u → r ≡ is_possible s d mask → r ≡ is_possible s (per_day u) mask
possible_by s u mask d r e h = rw e at h

-- a payee is a party
pub payee_party : (s : List ℕ) (t to : ℕ) → (is_party s to && is_payee s t to) ≡ is_payee s t to
unfolding is_payee
payee_party s t to = split (is_party s to) (λ y. rw y) (λ y. rw y)

module _ (s : List ℕ) (mask : ℕ) (dests : List ℕ) where
  -- one transaction, where r is whether it is in the mask and p what was found of its destination
  pub named_out : (t : ℕ) (r : Bool) → r ≡ bit mask t → not r ≡ true → true ≡ paying_named s mask dests t
  unfolding paying_named
  named_out t r e n = rw (sym e ∙ not-true r n)

  pub named_in : (t : ℕ) (r p : Bool) (to : ℕ) → r ≡ bit mask t → not r ≡ false → p ≡ (not (is_contract s t) && shares_to s t to) → to ≡ destination_of mask dests t → p ≡ paying_named s mask dests t
  unfolding paying_named
  named_in t r p to e n h q = rw (sym e ∙ not-false r n, ← q) h

  -- all, where w is whether the mask is within, k the number of its bits, a the answer over all
  module _ (w : Bool) (e : w ≡ ltb mask (2 ^ count s)) where
    pub right_outside : not w ≡ true → false ≡ ending_right s mask dests
    unfolding ending_right
    right_outside n = rw (sym e ∙ not-true w n)

    module _ (k : ℕ) (f : k ≡ bits_below (count s) mask) (n : not w ≡ false) where
      pub right_short : (length dests ≡ 4 * k → ⊥) → false ≡ ending_right s mask dests
      unfolding ending_right
      right_short m = rw (sym e ∙ not-false w n, ne_eqb (length dests) (4 * bits_below (count s) mask) (λ z. m (rw f z)))

      pub right_all : (a : Bool) → length dests ≡ 4 * k → a ≡ all_below (count s) (paying_named s mask dests) → a ≡ ending_right s mask dests
      unfolding ending_right
      right_all a m g = rw (sym e ∙ not-false w n, eq-eqb (length dests) (4 * bits_below (count s) mask) (rw (← f) m)) g

-- two transactions, where p and q are whether they are in the mask, a and b their coins
module _ (s : List ℕ) (mask x y : ℕ) (p : Bool) (e : p ≡ bit mask x) where
  pub apart_first : not p ≡ true → true ≡ coins_apart s mask x y
  unfolding coins_apart
  apart_first n = rw (sym e ∙ not-true p n)

  module _ (q : Bool) (f : q ≡ bit mask y) (n : not p ≡ false) where
    pub apart_second : not q ≡ true → true ≡ coins_apart s mask x y
    unfolding coins_apart
    apart_second m = rw (sym e ∙ not-false p n, sym f ∙ not-true q m)

    module _ (a b : ℕ) (g : a ≡ coin_of s x) (h : b ≡ coin_of s y) (m : not q ≡ false) where
      pub apart_coins : (a ≡ b → ⊥) → true ≡ coins_apart s mask x y
      unfolding coins_apart
      apart_coins d = rw (sym e ∙ not-false p n, sym f ∙ not-false q m, ne_eqb (coin_of s x) (coin_of s y) (λ z. d (g ∙ z ∙ sym h)))

      pub apart_same : a ≡ b → eqb x y ≡ coins_apart s mask x y
      unfolding coins_apart
      apart_same d = rw (sym e ∙ not-false p n, sym f ∙ not-false q m, eq-eqb (coin_of s x) (coin_of s y) (sym g ∙ d ∙ h))

-- one block, where p is whether t is planned and b its block
module _ (s : List ℕ) (per_day mask t : ℕ) (p : Bool) (e : p ≡ planned s mask t) where
  pub time_out : not p ≡ true → true ≡ in_time s per_day mask t
  unfolding in_time
  time_out n = rw (sym e ∙ not-true p n)

  pub time_in : (b : ℕ) → not p ≡ false → b ≡ earliest s per_day t → leb b 10000 ≡ in_time s per_day mask t
  unfolding in_time
  time_in b n f = rw (sym e ∙ not-false p n, f)
