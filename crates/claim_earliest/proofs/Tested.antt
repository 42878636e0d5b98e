-- The words of the claims by tests, for computed examples.
-- Assumes nothing.
use Rattle.laws.proofs.Prelude.{ℕ, ◌<◌, ◌≡◌, Bool, true, not, ◌&&◌, ◌||◌, List, eqb, length, eqb-true, leb-true, eq-eqb, arith, and_parts, all_below, any_below, all_at}
use Rattle.laws.proofs.Prelude.{any_found, any_some, bit}
use Rattle.position.proofs.Rules.{count, Entry, coin_of, block_limit}
use Rattle.claim_ledger.proofs.Tested.{entry_at, place_low, place_at}
use Rattle.endings.specs.Earliest.{earliest}
use Rattle.endings.specs.Ending.{coins_apart, in_time, is_possible}
use Rattle.claim_earliest.specs.Words.{ConfirmsTo}
use Rattle.claim_earliest.specs.Claim.{Cause, one_coin, too_late}

module _ (s : List ℕ) (mask : ℕ) (to : ℕ → ℕ) (l : List Entry) where
  -- the entry at a place is x's, to its destination
  unfoldable pub goes_at : ℕ → ℕ → Bool
  goes_at x i = eqb (entry_at l i).transaction x && eqb (entry_at l i).destination (to x)

  -- x is not named, or has such an entry
  unfoldable pub goes : ℕ → Bool
  goes x = not (bit mask x) || any_below (length l) (goes_at x)

  pub confirms_by : all_below (count s) goes ≡ true → ConfirmsTo s mask to l
  unfolding goes goes_at
  confirms_by h x b m =
      let v = any_some (length l) (goes_at x) (rw m at (all_at (count s) goes h x b)) in
      let q = and_parts (eqb (entry_at l v.0).transaction x) (eqb (entry_at l v.0).destination (to x)) v.2 in (
        v.0,
        entry_at l v.0,
        place_at l v.0 v.1,
        eqb-true (entry_at l v.0).transaction x q.0,
        eqb-true (entry_at l v.0).destination (to x) q.1,
      )

  pub confirms_says : ConfirmsTo s mask to l → (x : ℕ) → x < count s → bit mask x ≡ true → any_below (length l) (goes_at x) ≡ true
  unfolding goes_at
  confirms_says h x b m =
      let w = h x b m in
      let v = place_low l w.0 w.1 w.2 in
      any_found (length l) w.0 (goes_at x) v.0
      (rw (v.1, eq-eqb w.1.transaction x w.3) (eq-eqb w.1.destination (to x) w.4))

-- a possible ending has no cause to be none
pub no_cause : (s : List ℕ) (per_day mask : ℕ) → is_possible s per_day mask ≡ true → Cause s per_day mask → ⊥
unfolding is_possible coins_apart in_time
no_cause s per_day mask h (one_coin x y lx ly bx by n c) =
    let w = and_parts (all_below (count s) (λ k. all_below (count s) (coins_apart s mask k))) (all_below (count s) (in_time s per_day mask)) h in
    let row = all_at (count s) (λ k. all_below (count s) (coins_apart s mask k)) w.0 x lx in
    n (eqb-true x y (rw (bx, by, eq-eqb (coin_of s x) (coin_of s y) c) at (all_at (count s) (coins_apart s mask x) row y ly)))
no_cause s per_day mask h (too_late t l p b) =
    let w = and_parts (all_below (count s) (λ k. all_below (count s) (coins_apart s mask k))) (all_below (count s) (in_time s per_day mask)) h in
    omega (arith, leb-true (earliest s per_day t) block_limit (rw p at (all_at (count s) (in_time s per_day mask) w.1 t l)))
