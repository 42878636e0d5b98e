-- Two chains, the second no earlier: what is confirmed stays in its block, and what is new stands above the blocks mined before.
-- Assumes nothing.
use Rattle.laws.proofs.Prelude.{ℕ, zero, suc, ◌+◌, ◌≤◌, ◌<◌, ◌≡◌, refl, List, ◌⊎◌, ltb, ltb-true, ltb-false, arith, not-suc-le-zero, split, either}
use Rattle.position.proofs.Rules.{count, parent, opening, Checked}
use Rattle.slots.proofs.Parents.{parent_lower, parent_below}
use Rattle.claim_ledger.proofs.Sound.{Settled}
use Rattle.soonest.specs.Soonest.{greater, lock_at, soonest_block, soonest_parent}
use Rattle.soonest.proofs.Bounds.{greater_le, greater_mono}
use Rattle.soonest.proofs.Locks.{lock_is_lem, lock_rises, lock_opening}
use Rattle.soonest.proofs.SoonestParents.{soonest_there, soonest_open, parent_soonest, opening_none, parent_there, parent_some}

pub record Later (s : List ℕ) (block : ℕ → ℕ) (mined : ℕ) (block' : ℕ → ℕ) (mined' : ℕ) : Type 0 where
  pub time : mined ≤ mined'
  pub blocks : (t : ℕ) → t < count s → (block' t ≡ block t) ⊎ ((block t ≡ 0) × (mined < block' t))

module _ {s : List ℕ} (ok : Checked s) (per_day : ℕ) where
  -- what is confirmed has its lock height, with the parent in its soonest block, below its block, and the parent no later
  there_lock : (block : ℕ → ℕ) (mined : ℕ) → Settled s per_day block mined → (t : ℕ) → t < count s → 0 < block t
      → (soonest_parent s per_day block mined t ≤ block t) × (lock_at s per_day (soonest_parent s per_day block mined t) t < block t)
  there_lock block mined st t l c =
      let low = rw (lock_is_lem s per_day block t) at (st.locks t l c) in
      split (opening s t)
      (λ o.
      rw (opening_none ok per_day block mined t l o)
      (omega arith, rw (lock_opening ok per_day t l o 0 (block (parent s t))) low))
      (λ o.
      let w = st.parents t l c o in
      rw (parent_there ok per_day block mined t l o w.0) (w.1, low))

  module _ (block : ℕ → ℕ) (mined : ℕ) (block' : ℕ → ℕ) (mined' : ℕ) (later : Later s block mined block' mined') (st : Settled s per_day block' mined') where
    abbrev before : ℕ → ℕ
    before = soonest_parent s per_day block mined

    abbrev after : ℕ → ℕ
    after = soonest_parent s per_day block' mined'

    -- a lock height does not fall where the parent's soonest block does not
    pub lock_at_rises : (k t : ℕ) → t < count s → before t ≤ after t → parent s k ≡ parent s t → k < count s → lock_at s per_day (before t) k ≤ lock_at s per_day (after t) k
    lock_at_rises k t l h q lk =
        split (opening s t)
        (λ o. rw (opening_none ok per_day block mined t l o, opening_none ok per_day block' mined' t l o) (omega arith))
        (λ o. lock_rises ok per_day k lk (before t) (after t) (parent_some ok per_day block mined t l o) h)

    rises_here : (t : ℕ) → t < count s → before t ≤ after t → soonest_block s per_day block mined t ≤ soonest_block s per_day block' mined' t
    rises_here t l h =
        let r = lock_at_rises t t l h refl l in
        split (ltb 0 (block' t))
        (λ y.
        let c = ltb-true 0 (block' t) y in
        let w = there_lock block' mined' st t l c in
        rw (soonest_there s per_day block' mined' t c)
        (either (later.blocks t l)
        (λ q. rw (soonest_there s per_day block mined t (rw q at c)) (omega arith))
        (λ q.
        rw (soonest_open s per_day block mined t q.0)
        (greater_le (mined + 1) (greater (before t) (lock_at s per_day (before t) t + 1)) (block' t) (omega (arith, q.1))
        (greater_le (before t) (lock_at s per_day (before t) t + 1) (block' t) (omega (arith, w.0)) (omega (arith, w.1)))))))
        (λ y.
        let z : block' t ≡ 0 = omega (arith, ltb-false 0 (block' t) y) in
        let x : block t ≡ 0 = either (later.blocks t l) (λ q. omega arith) (λ q. q.0) in
        let m = later.time in
        rw (soonest_open s per_day block mined t x, soonest_open s per_day block' mined' t z)
        (greater_mono (mined + 1) (greater (before t) (lock_at s per_day (before t) t + 1)) (mined' + 1) (greater (after t) (lock_at s per_day (after t) t + 1))
        (omega arith)
        (greater_mono (before t) (lock_at s per_day (before t) t + 1) (after t) (lock_at s per_day (after t) t + 1) h (omega arith))))

    up_rises : (t : ℕ) → t < count s → (parent s t < t → parent s t < count s → soonest_block s per_day block mined (parent s t) ≤ soonest_block s per_day block' mined' (parent s t))
        → before t ≤ after t
    up_rises t l h =
        split (opening s t)
        (λ o. rw (opening_none ok per_day block mined t l o, opening_none ok per_day block' mined' t l o) (omega arith))
        (λ o.
        let low = parent_lower ok t l o in
        rw (parent_soonest s per_day block mined t low, parent_soonest s per_day block' mined' t low) (h low (parent_below ok t l o)))

    rises_below : (n t : ℕ) → t < n → t < count s → soonest_block s per_day block mined t ≤ soonest_block s per_day block' mined' t
    rises_below zero t h l = absurd (not-suc-le-zero h)
    rises_below (suc n) t h l = rises_here t l (up_rises t l (λ low lp. rises_below n (parent s t) (omega arith) lp))

    -- no soonest block falls
    pub soonest_rises : (t : ℕ) → t < count s → soonest_block s per_day block mined t ≤ soonest_block s per_day block' mined' t
    soonest_rises t l = rises_below (suc t) t (omega arith) l

    pub parent_rises : (t : ℕ) → t < count s → before t ≤ after t
    parent_rises t l = up_rises t l (λ low lp. soonest_rises (parent s t) lp)
