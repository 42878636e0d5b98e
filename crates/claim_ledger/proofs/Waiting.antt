-- Who waits: nobody, or one transaction more whose tests passed.
-- Assumes nothing.
use Rattle.laws.proofs.Prelude.{ℕ, ◌≤◌, ◌<◌, ◌≡◌, sym, ◌∙◌, Bool, true, false, ◌||◌, false≢true, List, ◌⊎◌, inl, inr, eqb, ltb, eqb-true, ltb-true, ltb-false, arith}
use Rattle.laws.proofs.Prelude.{either, clash, or_parts, or_right, or_neither}
use Rattle.position.proofs.Rules.{count, parent, opening, lock_height, conflict, no_conflict, has_parent}
use Rattle.slots.proofs.Conflicts.{conflict_sym, no_conflict_lem, parent_member}
use Rattle.claim_ledger.proofs.Sound.{Waits}

pub waits_none : (s : List ℕ) (per_day : ℕ) (block : ℕ → ℕ) (mined : ℕ) → Waits s per_day (λ k. false) block mined
waits_none s per_day block mined =
    record {
      free = λ t k lt lk x c. absurd (false≢true x);
      alone = λ t k lt lk x y c. absurd (false≢true x);
      parents = λ t lt x o. absurd (false≢true x);
      locks = λ t lt x. absurd (false≢true x);
    }

-- a send to the pool, a hand-in to the block, an inclusion
module _ (s : List ℕ) (per_day : ℕ) (members : ℕ → Bool) (block : ℕ → ℕ) (mined : ℕ) (w : Waits s per_day members block mined) (t : ℕ) (l : t < count s)
    (alone : no_conflict s (λ k. members k || ltb 0 (block k)) t ≡ true) (stands : has_parent s (λ k. members k || ltb 0 (block k)) t ≡ true)
    (lock : lock_height s per_day block t ≤ mined) where
  clear : (k : ℕ) → k < count s → conflict s k t ≡ true → (members k ≡ false) × (block k ≡ 0)
  clear k lk c =
      let g = or_neither (members k) (ltb 0 (block k)) (no_conflict_lem s (λ j. members j || ltb 0 (block j)) t alone k lk c) in
      (g.0, omega (arith, ltb-false 0 (block k) g.1))

  stands_here : opening s t ≡ false → ((eqb (parent s t) t || members (parent s t)) ≡ true) ⊎ (0 < block (parent s t))
  stands_here o =
      either (or_parts (members (parent s t)) (ltb 0 (block (parent s t))) (parent_member s (λ j. members j || ltb 0 (block j)) t stands o))
      (λ y. inl (or_right (eqb (parent s t) t) (members (parent s t)) y))
      (λ y. inr (ltb-true 0 (block (parent s t)) y))

  pub waits_more : Waits s per_day (λ k. eqb k t || members k) block mined
  waits_more =
      record {
        free = λ a k la lk x c.
            either (or_parts (eqb a t) (members a) x) (λ e. (clear k lk (rw (eqb-true a t e) at c)).1) (λ e. w.free a k la lk e c);
        alone = λ a k la lk x y c.
            either (or_parts (eqb a t) (members a) x)
            (λ e.
            either (or_parts (eqb k t) (members k) y)
            (λ f. eqb-true k t f ∙ sym (eqb-true a t e))
            (λ f. clash f (clear k lk (rw (eqb-true a t e) at c)).0))
            (λ e.
            either (or_parts (eqb k t) (members k) y)
            (λ f. clash e (clear a la (rw (eqb-true k t f) at (conflict_sym s k a c))).0)
            (λ f. w.alone a k la lk e f c));
        parents = λ a la x o.
            either (or_parts (eqb a t) (members a) x)
            (λ e. let q = eqb-true a t e in rw q (stands_here (rw q at o)))
            (λ e. either (w.parents a la e o) (λ y. inl (or_right (eqb (parent s a) t) (members (parent s a)) y)) inr);
        locks = λ a la x. either (or_parts (eqb a t) (members a) x) (λ e. rw (eqb-true a t e) lock) (λ e. w.locks a la e);
      }
