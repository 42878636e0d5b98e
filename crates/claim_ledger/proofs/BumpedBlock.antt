-- A bump: the block being filled with some of a line put in, and without what these put out.
-- Assumes nothing.
use Rattle.laws.proofs.Prelude.{ℕ, ◌<◌, ◌≡◌, Bool, true, false, not, ◌&&◌, ◌||◌, List, ◌⊎◌, inl, inr, not-true, arith, split, either, clash, and_parts, or_parts}
use Rattle.laws.proofs.Prelude.{or_right, fails_by}
use Rattle.position.proofs.Rules.{count, parent, opening, Checked, is_self_or_ancestor, meets_conflict}
use Rattle.slots.proofs.Parents.{parent_lower, parent_below, parent_has}
use Rattle.slots.proofs.Conflicts.{conflict_self, conflict_sym}
use Rattle.slots.proofs.Ancestors.{Above, here, up, above_all, holds_above, ancestor_above, above_ancestor, meets_find, meets_none, meets_none_up, line_conflict}
use Rattle.claim_ledger.proofs.Sound.{Settled, Waits}

-- what is above a settled transaction is settled
pub settled_up : {s : List ℕ} {per_day : ℕ} {block : ℕ → ℕ} {mined : ℕ} → Checked s → Settled s per_day block mined → {x k : ℕ} → Above s x k → k < count s → 0 < block k → 0 < block x
settled_up {block = block} ok st = holds_above (λ k. 0 < block k) (λ k l h c. (st.parents k l c (parent_has ok k l h)).0)

-- what is above one that waits waits too, or is settled
pub waits_up : {s : List ℕ} {per_day : ℕ} {members : ℕ → Bool} {block : ℕ → ℕ} {mined : ℕ} → Checked s → Settled s per_day block mined → Waits s per_day members block mined
    → {x k : ℕ} → Above s x k → k < count s → members k ≡ true → (members x ≡ true) ⊎ (0 < block x)
waits_up {members = members} {block = block} ok st w r lk b =
    holds_above (λ k. (members k ≡ true) ⊎ (0 < block k))
    (λ k lk h c. either c (λ y. w.parents k lk y (parent_has ok k lk h)) (λ y. inr (st.parents k lk y (parent_has ok k lk h)).0))
    r lk (inl b)

module _ (s : List ℕ) (per_day : ℕ) (ok : Checked s) (pool members : ℕ → Bool) (block : ℕ → ℕ) (mined : ℕ)
    (st : Settled s per_day block mined) (wb : Waits s per_day members block mined) (wp : Waits s per_day pool block mined) (t : ℕ) (l : t < count s) where
  abbrev enter : ℕ → Bool
  enter k = (pool k && not (members k)) && is_self_or_ancestor s k t

  -- what enters waits in the pool, outside the block, on t's line
  enters_says : (k : ℕ) → enter k ≡ true → (pool k ≡ true) × (members k ≡ false) × Above s k t
  enters_says k h =
      let g = and_parts (pool k && not (members k)) (is_self_or_ancestor s k t) h in
      let a = and_parts (pool k) (not (members k)) g.0 in
      (a.0, not-true (members k) a.1, ancestor_above s k t g.1)

  enters_by : (k : ℕ) → pool k ≡ true → members k ≡ false → Above s k t → enter k ≡ true
  enters_by k a b r = rw (a, b, above_ancestor s r)

  -- what is in the block on t's line stays
  stays : (q : ℕ) → q < count s → members q ≡ true → Above s q t → meets_conflict s enter q ≡ false
  stays q lq b r =
      fails_by (meets_conflict s enter q) (λ h.
      let g = meets_find s enter q h in
      let u = enters_says g.1 g.5 in
      let e = line_conflict ok u.2 (above_all g.2 r) l g.4 in
      let free = wp.free g.1 g.1 g.3 g.3 u.0 (conflict_self s g.1) in
      either (waits_up ok st wb g.2 lq b) (λ y. clash (rw (← e) at y) u.1) (λ c. let z = rw (← e) at c in omega arith))

  kept : (k : ℕ) → (members k && not (meets_conflict s enter k)) ≡ true → (members k ≡ true) × (meets_conflict s enter k ≡ false)
  kept k h = let g = and_parts (members k) (not (meets_conflict s enter k)) h in (g.0, not-true (meets_conflict s enter k) g.1)

  parent_entered : (a : ℕ) → a < count s → opening s a ≡ false → Above s a t → pool (parent s a) ≡ true
      → (enter (parent s a) || (members (parent s a) && not (meets_conflict s enter (parent s a)))) ≡ true
  parent_entered a la o r p =
      let q = above_all (up (parent_lower ok a la o) here) r in
      split (members (parent s a))
      (λ b. or_right (enter (parent s a)) (members (parent s a) && not (meets_conflict s enter (parent s a))) (rw (b, stays (parent s a) (parent_below ok a la o) b q)))
      (λ b. rw (enters_by (parent s a) p b q))

  pub waits_bumped : Waits s per_day (λ k. enter k || (members k && not (meets_conflict s enter k))) block mined
  waits_bumped =
      record {
        free = λ a k la lk x h.
            either (or_parts (enter a) (members a && not (meets_conflict s enter a)) x)
            (λ e. wp.free a k la lk (enters_says a e).0 h)
            (λ e. wb.free a k la lk (kept a e).0 h);
        alone = λ a k la lk x y h.
            either (or_parts (enter a) (members a && not (meets_conflict s enter a)) x)
            (λ e.
            either (or_parts (enter k) (members k && not (meets_conflict s enter k)) y)
            (λ f. line_conflict ok (enters_says k f).2 (enters_says a e).2 l h)
            (λ f. clash e (meets_none s enter k (kept k f).1 a la (conflict_sym s k a h))))
            (λ e.
            either (or_parts (enter k) (members k && not (meets_conflict s enter k)) y)
            (λ f. clash f (meets_none s enter a (kept a e).1 k lk h))
            (λ f. wb.alone a k la lk (kept a e).0 (kept k f).0 h));
        parents = λ a la x o.
            either (or_parts (enter a) (members a && not (meets_conflict s enter a)) x)
            (λ e. let u = enters_says a e in either (wp.parents a la u.0 o) (λ p. inl (parent_entered a la o u.2 p)) inr)
            (λ e.
            let g = kept a e in
            either (wb.parents a la g.0 o)
            (λ b. inl (or_right (enter (parent s a)) (members (parent s a) && not (meets_conflict s enter (parent s a))) (rw (b, meets_none_up s enter a (parent_lower ok a la o) g.1))))
            inr);
        locks = λ a la x.
            either (or_parts (enter a) (members a && not (meets_conflict s enter a)) x)
            (λ e. wp.locks a la (enters_says a e).0)
            (λ e. wb.locks a la (kept a e).0);
      }
