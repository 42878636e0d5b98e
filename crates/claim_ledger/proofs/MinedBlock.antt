-- A mined block: what was in it is settled, and the pool waits on.
-- Assumes nothing.
use Rattle.laws.proofs.Prelude.{ℕ, ◌+◌, ◌≤◌, ◌<◌, ◌≡◌, sym, ◌∙◌, Bool, true, false, not, ◌&&◌, ◌||◌, List, ◌⊎◌, inl, inr, eqb, eqb-true, eqb-false, eq-eqb, ne_eqb}
use Rattle.laws.proofs.Prelude.{not-true, arith, pick, split, either, and_parts, or_neither}
use Rattle.position.proofs.Rules.{count, parent, opening, lock_type, lock_blocks, since_parent, lock_height, Checked, LockPair, absolute, since, meets_other, conflict}
use Rattle.position.proofs.Rules.{block_limit, leaves_pool}
use Rattle.sheet.specs.Checked.{none}
use Rattle.slots.proofs.Parents.{parent_lower, parent_below}
use Rattle.slots.proofs.Conflicts.{conflict_self, conflict_sym}
use Rattle.slots.proofs.Ancestors.{other_none, other_none_up}
use Rattle.claim_ledger.proofs.Sound.{Settled, Waits}

-- a lock height hangs on no block, or on the parent's alone
pub data LockHangs (s : List ℕ) (per_day t : ℕ) : Type 0 where
  fixed : (h : ℕ) → ((block : ℕ → ℕ) → lock_height s per_day block t ≡ h) → LockHangs s per_day t
  hangs : (h : ℕ) → opening s t ≡ false → ((block : ℕ → ℕ) → lock_height s per_day block t ≡ since_parent (block (parent s t)) h) → LockHangs s per_day t

hangs_by : (s : List ℕ) (per_day t : ℕ) → LockPair s t → LockHangs s per_day t
unfolding lock_height
hangs_by s per_day t (none e d) = fixed 0 (λ block. rw (eq-eqb (lock_type s t) 0 e))
hangs_by s per_day t (absolute e a b) =
    fixed (lock_blocks s per_day t) (λ block. rw (ne_eqb (lock_type s t) 0 (λ z. omega arith), eq-eqb (lock_type s t) 1 e))
hangs_by s per_day t (since e a b o) =
    hangs (lock_blocks s per_day t) o (λ block. rw (ne_eqb (lock_type s t) 0 (λ z. omega arith), ne_eqb (lock_type s t) 1 (λ z. omega arith)))

module _ (s : List ℕ) (per_day : ℕ) (ok : Checked s) (members : ℕ → Bool) (block : ℕ → ℕ) (mined : ℕ) (st : Settled s per_day block mined) (w : Waits s per_day members block mined) where
  abbrev after : ℕ → ℕ
  after k = pick (members k) (mined + 1) (block k)

  -- what was settled keeps its block
  pub kept : (k : ℕ) → k < count s → 0 < block k → after k ≡ block k
  kept k l c = split (members k) (λ e. absurd (omega (arith, w.free k k l l e (conflict_self s k)))) (λ e. rw e)

  lock_by : (t : ℕ) → t < count s → lock_height s per_day block t ≤ mined → LockHangs s per_day t → lock_height s per_day after t ≡ lock_height s per_day block t
  unfolding since_parent
  lock_by t l h (fixed b e) = e after ∙ sym (e block)
  lock_by t l h (hangs b o e) =
      split (eqb (block (parent s t)) 0)
      (λ y. let z = rw y at (e block) in absurd (omega (arith, st.limit)))
      (λ y. e after ∙ rw (kept (parent s t) (parent_below ok t l o) (omega (arith, eqb-false (block (parent s t)) 0 y))) (sym (e block)))

  lock_same : (t : ℕ) → t < count s → lock_height s per_day block t ≤ mined → lock_height s per_day after t ≡ lock_height s per_day block t
  lock_same t l h = lock_by t l h (hangs_by s per_day t (ok.entries t l).lock_pair_lem)

  pub settled_mined : mined < block_limit → Settled s per_day after (mined + 1)
  settled_mined lim =
      record {
        limit = omega arith;
        numbered = λ t l. split (members t) (λ e. rw e (omega arith)) (λ e. rw e (omega (arith, st.numbered t l)));
        parents = λ t l c o.
            let lq = parent_below ok t l o in
            split (members t)
            (λ e.
            either (w.parents t l e o)
            (λ y. rw (e, y) (omega arith))
            (λ y. rw (e, kept (parent s t) lq y) (omega (arith, st.numbered (parent s t) lq))))
            (λ e. let g = st.parents t l (rw e at c) o in rw (e, kept (parent s t) lq g.0) g);
        locks = λ t l c.
            split (members t)
            (λ e. let h = w.locks t l e in rw (lock_same t l h, e) (omega arith))
            (λ e. let h = st.locks t l (rw e at c) in rw (lock_same t l (omega (arith, st.numbered t l)), e) h);
        alone = λ t k lt lk ct ck h.
            split (members t)
            (λ e.
            split (members k)
            (λ f. w.alone t k lt lk e f h)
            (λ f. let c = rw f at ck in absurd (omega (arith, w.free t k lt lk e h))))
            (λ e.
            let c = rw e at ct in
            split (members k)
            (λ f. absurd (omega (arith, w.free k t lk lt f (conflict_sym s k t h))))
            (λ f. st.alone t k lt lk c (rw f at ck) h));
      }

  -- the pool, without the mined ones and those whose line meets a different rival of one
  module _ (pool : ℕ → Bool) where
    both : (t : ℕ) → (pool t && not (leaves_pool s members t)) ≡ true → (pool t ≡ true) × (members t ≡ false) × (meets_other s members t ≡ false)
    unfolding leaves_pool
    both t x =
        let g = and_parts (pool t) (not (members t || meets_other s members t)) x in
        let w = or_neither (members t) (meets_other s members t) (not-true (members t || meets_other s members t) g.1) in
        (g.0, w.0, w.1)

    out : (t k : ℕ) → (members t ≡ false) × (meets_other s members t ≡ false) → k < count s → conflict s k t ≡ true → members k ≡ false
    out t k g lk h = split (eqb k t) (λ e. rw (eqb-true k t e) g.0) (λ e. other_none s members t g.1 k lk h (eqb-false k t e))

    -- a parent that waits is mined, or waits on
    up_stays : (t : ℕ) → t < count s → opening s t ≡ false → pool (parent s t) ≡ true → meets_other s members t ≡ false
        → ((pool (parent s t) && not (leaves_pool s members (parent s t))) ≡ true) ⊎ (0 < after (parent s t))
    unfolding leaves_pool
    up_stays t l o y m =
        split (members (parent s t))
        (λ e. inr (rw e (omega arith)))
        (λ e. inl (rw (y, e, other_none_up s members t (parent_lower ok t l o) m)))

    pub waits_mined : Waits s per_day pool block mined → Waits s per_day (λ k. pool k && not (leaves_pool s members k)) after (mined + 1)
    waits_mined wp =
        record {
          free = λ t k lt lk x h. let g = both t x in rw (out t k (g.1, g.2) lk h) (wp.free t k lt lk g.0 h);
          alone = λ t k lt lk x y h. wp.alone t k lt lk (both t x).0 (both k y).0 h;
          parents = λ t l x o.
              let g = both t x in
              either (wp.parents t l g.0 o)
              (λ y. up_stays t l o y g.2)
              (λ c. inr (rw (kept (parent s t) (parent_below ok t l o) c) c));
          locks = λ t l x. let h = wp.locks t l (both t x).0 in rw (lock_same t l h) (omega arith);
        }
