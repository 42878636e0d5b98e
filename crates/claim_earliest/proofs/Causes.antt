-- Why an ending is impossible.
-- Assumes nothing.
use Rattle.laws.proofs.Prelude.{ℕ, ◌<◌, ◌≡◌, false, not, ◌&&◌, List, eqb, leb, eqb-true, eqb-false, leb-false, not-false, split, and_parts, or_neither, all_below, bit}
use Rattle.position.proofs.Rules.{count, coin_of, block_limit}
use Rattle.laws.specs.Below.{all_fails}
use Rattle.endings.specs.Earliest.{earliest}
use Rattle.endings.specs.Plan.{planned}
use Rattle.endings.specs.Ending.{coins_apart, in_time, is_possible}
use Rattle.claim_earliest.specs.Claim.{Cause, one_coin, too_late}

module _ (s : List ℕ) (per_day mask : ℕ) where
  not_apart : (x y : ℕ) → x < count s → y < count s → coins_apart s mask x y ≡ false → Cause s per_day mask
  unfolding coins_apart
  not_apart x y lx ly e =
      let w = or_neither (not (bit mask x && (bit mask y && eqb (coin_of s x) (coin_of s y)))) (eqb x y) e in
      let v = and_parts (bit mask x) (bit mask y && eqb (coin_of s x) (coin_of s y)) (not-false (bit mask x && (bit mask y && eqb (coin_of s x) (coin_of s y))) w.0) in
      let z = and_parts (bit mask y) (eqb (coin_of s x) (coin_of s y)) v.1 in
      one_coin x y lx ly v.0 z.0 (eqb-false x y w.1) (eqb-true (coin_of s x) (coin_of s y) z.1)

  not_in_time : (t : ℕ) → t < count s → in_time s per_day mask t ≡ false → Cause s per_day mask
  unfolding in_time
  not_in_time t l e =
      let w = or_neither (not (planned s mask t)) (leb (earliest s per_day t) block_limit) e in
      too_late t l (not-false (planned s mask t) w.0) (leb-false (earliest s per_day t) block_limit w.1)

  pub impossible_cause : is_possible s per_day mask ≡ false → Cause s per_day mask
  unfolding is_possible
  impossible_cause e =
      split (all_below (count s) (λ x. all_below (count s) (coins_apart s mask x)))
      (λ y. let w = all_fails (count s) (in_time s per_day mask) (rw y at e) in not_in_time w.0 w.1 w.2)
      (λ y.
      let w = all_fails (count s) (λ x. all_below (count s) (coins_apart s mask x)) y in
      let v = all_fails (count s) (coins_apart s mask w.0) w.2 in
      not_apart w.0 v.0 w.1 v.1 v.2)
