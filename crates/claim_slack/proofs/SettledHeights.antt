-- The heights of the settled position: the soonest blocks are those of the position, the locks met are, and no deadline comes sooner.
-- Assumes nothing.
use Rattle.laws.proofs.Prelude.{ℕ, zero, suc, ◌+◌, ◌≤◌, ◌<◌, ◌≡◌, sym, ap, ◌∙◌, true, false, List, arith, not-suc-le-zero, split, either, le_antisymm, inl, inr, ltb, ltb-true, ltb-false}
use Rattle.position.proofs.Rules.{count, parent, opening, lock_height, never, sheet_refusal, per_day, setup_refusal, Checked, is_party, in_block, block_of}
use Rattle.position.specs.declared.Position.{Position}
use Rattle.position.proofs.Rules.{lock_height_in, deadline_in}
use Rattle.sheet.proofs.Theorems.{sheet_checked, setup_checked}
use Rattle.slots.proofs.Conflicts.{conflict_self}
use Rattle.slots.proofs.Parents.{parent_lower, parent_below}
use Rattle.soonest.specs.Soonest.{greater, lock_at, soonest_block, soonest_parent}
use Rattle.soonest.proofs.Bounds.{greater_left, greater_le}
use Rattle.soonest.proofs.Locks.{lock_is_lem, lock_opening, lock_reached}
use Rattle.soonest.proofs.SoonestParents.{soonest_there, soonest_open, parent_soonest, opening_none, parent_there}
use Rattle.claim_ledger.proofs.Sound.{Sound}
use Rattle.claim_ledger.proofs.EachKind.{wide}
use Rattle.slack.specs.Settled.{settles, settled}
use Rattle.slack.proofs.Onward.{soonest_above}
use Rattle.claim_slack.proofs.Dues.{due_after}
use Rattle.claim_slack.proofs.SettledSlots.{settles_in, settled_mined, new_block, old_block}
use Rattle.claim_slack.proofs.SettledStays.{settles_new}

module _ (s u : List ℕ) (h : sheet_refusal s ≡ 0) (k : setup_refusal s u ≡ 0) (p : Position) (g : Sound s u p) where
  abbrev ok : Checked s
  ok = sheet_checked s h

  abbrev soonest : ℕ → ℕ
  soonest = soonest_block s (per_day u) (block_of p) p.mined

  -- the soonest block of what is open, where its parent comes in time and its lock is met
  next_by : (t : ℕ) → block_of p t ≡ 0 → soonest_above s u p t ≤ p.mined + 1 → lock_at s (per_day u) (soonest_above s u p t) t ≤ p.mined → soonest t ≡ p.mined + 1
  next_by t z a b =
      let e = soonest_above s u p t in
      let low = greater_left (p.mined + 1) (greater e (lock_at s (per_day u) e t + 1)) in
      let high = greater_le (p.mined + 1) (greater e (lock_at s (per_day u) e t + 1)) (p.mined + 1) (omega arith)
      (greater_le e (lock_at s (per_day u) e t + 1) (p.mined + 1) a (omega (arith, b))) in
      soonest_open s (per_day u) (block_of p) p.mined t z ∙ le_antisymm high low

  -- an entry of the block comes in the next block, by falling number
  block_next : (n t : ℕ) → t < n → t < count s → in_block p t ≡ true → soonest t ≡ p.mined + 1
  block_next zero t a l i = absurd (not-suc-le-zero a)
  block_next (suc n) t a l i =
      let new = g.block.free t t l l i (conflict_self s t) in
      let met = rw (lock_is_lem s (per_day u) (block_of p) t) at (g.block.locks t l i) in
      split (opening s t)
      (λ o.
      let none = opening_none ok (per_day u) (block_of p) p.mined t l o in
      next_by t new (rw none (omega arith)) (rw (none, lock_opening ok (per_day u) t l o 0 (block_of p (parent s t))) met))
      (λ o.
      let low = parent_below ok t l o in
      either (g.block.parents t l i o)
      (λ y.
      let up = parent_soonest s (per_day u) (block_of p) p.mined t (parent_lower ok t l o) ∙ block_next n (parent s t) (omega (arith, a, parent_lower ok t l o)) low y in
      let bare : lock_at s (per_day u) 0 t ≤ p.mined = rw (g.block.free (parent s t) (parent s t) low low y (conflict_self s (parent s t))) at met in
      let reached = lock_reached ok (per_day u) t l (p.mined + 1) (omega (arith, bare, g.settled.limit)) in
      next_by t new (omega (arith, up)) (rw (up, reached) bare))
      (λ y.
      let there = parent_there ok (per_day u) (block_of p) p.mined t l o y in
      next_by t new (omega (arith, there, g.settled.numbered (parent s t) low)) (rw there met)))

  module _ (x : ℕ) (who : is_party s x ≡ true) where
    abbrev then : Position
    then = settled s u p x

    -- the block of each, by whether it settles
    block_settled : (t : ℕ) → settles s u p x t ≡ true → block_of then t ≡ p.mined + 1
    block_settled t y = new_block s u p x (wide s u ok p g) g.beyond t y

    block_else : (t : ℕ) → settles s u p x t ≡ false → block_of then t ≡ block_of p t
    block_else t y = old_block s u p x (wide s u ok p g) g.beyond t y

    -- no soonest block changes
    above_by : (t : ℕ) → t < count s → (parent s t < t → soonest_block s (per_day u) (block_of then) p.mined (parent s t) ≡ soonest (parent s t))
        → soonest_parent s (per_day u) (block_of then) p.mined t ≡ soonest_above s u p t
    above_by t l e =
        split (opening s t)
        (λ o. opening_none ok (per_day u) (block_of then) p.mined t l o ∙ sym (opening_none ok (per_day u) (block_of p) p.mined t l o))
        (λ o.
        let low = parent_lower ok t l o in
        parent_soonest s (per_day u) (block_of then) p.mined t low ∙ e low ∙ sym (parent_soonest s (per_day u) (block_of p) p.mined t low))

    soonest_by : (n t : ℕ) → t < n → t < count s → soonest_block s (per_day u) (block_of then) p.mined t ≡ soonest t
    soonest_by zero t a l = absurd (not-suc-le-zero a)
    soonest_by (suc n) t a l =
        split (settles s u p x t)
        (λ y.
        let b = block_settled t y in
        soonest_there s (per_day u) (block_of then) p.mined t (omega (arith, b)) ∙ b ∙ sym (block_next (suc t) t (omega arith) l (settles_in s u p x t y)))
        (λ n'.
        let b = block_else t n' in
        split (ltb 0 (block_of p t))
        (λ y.
        let c = ltb-true 0 (block_of p t) y in
        soonest_there s (per_day u) (block_of then) p.mined t (rw b c) ∙ b ∙ sym (soonest_there s (per_day u) (block_of p) p.mined t c))
        (λ y.
        let z : block_of p t ≡ 0 = omega (arith, ltb-false 0 (block_of p t) y) in
        let up = above_by t l (λ low. soonest_by n (parent s t) (omega (arith, low, a)) (omega (arith, low, l))) in
        soonest_open s (per_day u) (block_of then) p.mined t (b ∙ z)
        ∙ ap (λ e. greater (p.mined + 1) (greater e (lock_at s (per_day u) e t + 1))) up
        ∙ sym (soonest_open s (per_day u) (block_of p) p.mined t z)))

    pub soonest_settled : (t : ℕ) → t < count s → soonest_above s u then t ≡ soonest_above s u p t
    soonest_settled t l =
        ap (λ m. soonest_parent s (per_day u) (block_of then) m t) (settled_mined s u p x)
        ∙ above_by t l (λ low. soonest_by (suc (parent s t)) (parent s t) (omega arith) (omega (arith, low, l)))

    -- an entry that settles comes in the next block
    pub settles_next : (t : ℕ) → t < count s → in_block p t ≡ true → soonest_block s (per_day u) (block_of p) p.mined t ≡ p.mined + 1
    settles_next t l i = block_next (suc t) t (omega arith) l i

    -- a lock height by the parent, whether it settles
    abbrev lock : ℕ → ℕ
    lock = lock_height s (per_day u) (block_of p)

    abbrev lock' : ℕ → ℕ
    lock' = lock_height s (per_day u) (block_of then)

    module _ (t : ℕ) where
      lock_same : settles s u p x (parent s t) ≡ false → lock' t ≡ lock t
      lock_same n =
          lock_is_lem s (per_day u) (block_of then) t ∙ ap (λ e. lock_at s (per_day u) e t) (block_else (parent s t) n) ∙ sym (lock_is_lem s (per_day u) (block_of p) t)

      lock_then : settles s u p x (parent s t) ≡ true → lock' t ≡ lock_at s (per_day u) (p.mined + 1) t
      lock_then y = lock_is_lem s (per_day u) (block_of then) t ∙ ap (λ e. lock_at s (per_day u) e t) (block_settled (parent s t) y)

      lock_now : settles s u p x (parent s t) ≡ true → lock t ≡ lock_at s (per_day u) 0 t
      lock_now y = lock_is_lem s (per_day u) (block_of p) t ∙ ap (λ e. lock_at s (per_day u) e t) (settles_new s u h k p g x who (parent s t) y)

      -- one that is reached stays
      lock_stays : t < count s → lock t < never → lock' t ≡ lock t
      lock_stays l e =
          split (settles s u p x (parent s t))
          (λ y. lock_then y ∙ lock_reached ok (per_day u) t l (p.mined + 1) (rw (lock_now y) at e) ∙ sym (lock_now y))
          lock_same

    -- the locks that are met
    pub lock_met : (t : ℕ) → t < count s → lock_height_in s u p t ≤ p.mined → lock_height_in s u then t ≤ p.mined
    unfolding lock_height_in
    lock_met t l e = omega (arith, lock_stays t l (omega (arith, e, g.settled.limit)), e)

    -- the deadlines that are ahead
    pub deadline_ahead : (t : ℕ) → t < count s → p.mined < deadline_in s u p t → p.mined < deadline_in s u then t
    unfolding deadline_in
    deadline_ahead t l e =
        due_after ok (per_day u) (setup_checked s u k).blocks_some p.mined (omega (arith, g.settled.limit)) t l (block_of p) (block_of then)
        (inr
        (split (settles s u p x (parent s t))
        (λ y. inr (settles_new s u h k p g x who (parent s t) y, rw (block_settled (parent s t) y) (omega arith)))
        (λ n. inl (block_else (parent s t) n))))
        e
