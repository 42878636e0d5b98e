-- The soonest deadline rises, the deadline falls, and the first is at most the second.
-- Assumes nothing.
use Rattle.laws.proofs.Prelude.{ℕ, ◌+◌, ◌≤◌, ◌<◌, ◌≡◌, refl, sym, ap, ◌∙◌, true, false, not, ◌&&◌, false≢true, List, ◌⊎◌, inl, inr, eqb, ltb, eqb-true, eqb-false}
use Rattle.laws.proofs.Prelude.{ltb-true, ltb-false, eq-eqb, lt-ltb, le-ltb, not-true, arith, le_antisymm, split, either, clash, and_parts, least_top, least_le}
use Rattle.laws.proofs.Prelude.{least_from}
use Rattle.position.proofs.Rules.{count, parent, opening, lock_height, never, Checked, conflict, deadline}
use Rattle.slots.proofs.Conflicts.{conflict_parent, conflict_opening}
use Rattle.slots.proofs.Parents.{parent_below}
use Rattle.claim_ledger.proofs.Sound.{Settled}
use Rattle.soonest.specs.Soonest.{greater, lock_at, since_locked, may_rise, counts_at, soonest_parent, soonest_deadline}
use Rattle.soonest.proofs.Bounds.{greater_left, greater_le, greater_mono}
use Rattle.laws.specs.Least.{least_reached}
use Rattle.soonest.proofs.Locks.{Form, fixed, hangs, form, lock_is_lem, rival_lock}
use Rattle.soonest.proofs.Deadlines.{deadline_top, deadline_le, deadline_from}
use Rattle.soonest.proofs.SoonestParents.{parent_there, parent_some}
use Rattle.claim_outage.proofs.Chain.{Later, lock_at_rises, parent_rises}

-- a rival counts: its lock height stands above t's with the parent in block e, or may rise
pub data Counts (s : List ℕ) (per_day : ℕ) (block : ℕ → ℕ) (e t k : ℕ) : Type 0 where
  above : lock_at s per_day e t < lock_at s per_day e k → Counts s per_day block e t k
  rises : block (parent s t) ≡ 0 → since_locked s k ≡ true → since_locked s t ≡ false → Counts s per_day block e t k

module _ (s : List ℕ) (per_day : ℕ) (block : ℕ → ℕ) (e t k : ℕ) where
  rise_by : block (parent s t) ≡ 0 → since_locked s k ≡ true → since_locked s t ≡ false → may_rise s block t k ≡ true
  unfolding may_rise
  rise_by h a b = rw (eq-eqb (block (parent s t)) 0 h, a, b)

  rise_parts : may_rise s block t k ≡ true → Counts s per_day block e t k
  unfolding may_rise
  rise_parts y =
      let w = and_parts (eqb (block (parent s t)) 0) (not (since_locked s t) && since_locked s k) y in
      let v = and_parts (not (since_locked s t)) (since_locked s k) w.1 in
      rises (eqb-true (block (parent s t)) 0 w.0) v.1 (not-true (since_locked s t) v.0)

  -- what counts there is the greater of its lock height and the next one above t's; else never
  counts_is : Counts s per_day block e t k → counts_at s per_day block e t k ≡ greater (lock_at s per_day e k) (lock_at s per_day e t + 1)
  unfolding counts_at greater
  counts_is (above h) = rw (lt-ltb (lock_at s per_day e t) (lock_at s per_day e k) h, le-ltb (lock_at s per_day e k) (lock_at s per_day e t + 1) (omega arith))
  counts_is (rises z a b) =
      split (ltb (lock_at s per_day e t) (lock_at s per_day e k))
      (λ y. rw (y, le-ltb (lock_at s per_day e k) (lock_at s per_day e t + 1) (omega (arith, ltb-true (lock_at s per_day e t) (lock_at s per_day e k) y))))
      (λ y. rw (y, rise_by z a b, lt-ltb (lock_at s per_day e k) (lock_at s per_day e t + 1) (omega (arith, ltb-false (lock_at s per_day e t) (lock_at s per_day e k) y))))

  counts_or : Counts s per_day block e t k ⊎ (counts_at s per_day block e t k ≡ never)
  unfolding counts_at
  counts_or =
      split (ltb (lock_at s per_day e t) (lock_at s per_day e k))
      (λ y. inl (above (ltb-true (lock_at s per_day e t) (lock_at s per_day e k) y)))
      (λ y. split (may_rise s block t k) (λ z. inl (rise_parts z)) (λ z. inr (rw (y, z))))

-- no transaction counts against itself
pub counts_other : (s : List ℕ) (per_day : ℕ) (block : ℕ → ℕ) (e t k : ℕ) → Counts s per_day block e t k → k ≡ t → ⊥
counts_other s per_day block e t k (above y) q = let z : lock_at s per_day e t < lock_at s per_day e t = rw q at y in omega (arith, z)
counts_other s per_day block e t k (rises z a b) q = false≢true (sym b ∙ ap (since_locked s) (sym q) ∙ a)

-- the soonest deadline is at most never and what counts at each rival, and no lower than all of these
module _ (s : List ℕ) (per_day : ℕ) (block : ℕ → ℕ) (mined t : ℕ) where
  abbrev own : ℕ
  own = soonest_parent s per_day block mined t

  pub soonest_top : soonest_deadline s per_day block mined t ≤ never
  unfolding soonest_deadline
  soonest_top =
      least_top (λ k. conflict s k t) (counts_at s per_day block own t) never (count s)

  pub soonest_le : (k : ℕ) → k < count s → conflict s k t ≡ true → Counts s per_day block own t k
      → soonest_deadline s per_day block mined t ≤ greater (lock_at s per_day own k) (lock_at s per_day own t + 1)
  unfolding soonest_deadline
  soonest_le k l c h =
      rw (← (counts_is s per_day block own t k h)) (least_le (λ k. conflict s k t) (counts_at s per_day block own t) never (count s) k l c)

  pub soonest_from : (x : ℕ) → x ≤ never
      → ((k : ℕ) → k < count s → conflict s k t ≡ true → Counts s per_day block own t k → x ≤ greater (lock_at s per_day own k) (lock_at s per_day own t + 1))
      → x ≤ soonest_deadline s per_day block mined t
  unfolding soonest_deadline
  soonest_from x h g =
      least_from (λ k. conflict s k t) (counts_at s per_day block own t) never x (count s) h
      (λ k l y. either (counts_or s per_day block own t k) (λ z. rw (counts_is s per_day block own t k z) (g k l y z)) (λ z. rw z h))

  -- where it is below never, a rival counts with it
  pub soonest_counted : soonest_deadline s per_day block mined t < never
      → (k : ℕ) × (k < count s) × (conflict s k t ≡ true) × Counts s per_day block own t k
      × (lock_at s per_day own t < lock_at s per_day own k → lock_at s per_day own k ≡ soonest_deadline s per_day block mined t)
      × (lock_at s per_day own k ≤ lock_at s per_day own t → lock_at s per_day own t + 1 ≡ soonest_deadline s per_day block mined t)
  unfolding soonest_deadline greater
  soonest_counted h =
      let w = least_reached (λ k. conflict s k t) (counts_at s per_day block own t) never (count s) h in
      let k = w.0 in
      either (counts_or s per_day block own t k)
      (λ y.
      let e = sym (counts_is s per_day block own t k y) ∙ w.3 in (
        k,
        w.1,
        w.2,
        y,
        (λ z. rw (le-ltb (lock_at s per_day own k) (lock_at s per_day own t + 1) (omega arith)) at e),
        (λ z. rw (lt-ltb (lock_at s per_day own k) (lock_at s per_day own t + 1) (omega arith)) at e),
      ))
      (λ y. absurd (omega (arith, y, w.3, h)))

module _ {s : List ℕ} (ok : Checked s) (per_day : ℕ) where
  -- rivals that count are no openings
  pub rival_spends : (t k : ℕ) → conflict s k t ≡ true → (k ≡ t → ⊥) → opening s t ≡ false
  rival_spends t k c n = split (opening s t) (λ o. absurd (n (conflict_opening s k t o c))) (λ o. o)

  apart : (block : ℕ → ℕ) (t k : ℕ) → lock_height s per_day block t < lock_height s per_day block k → k ≡ t → ⊥
  apart block t k h q = let z : lock_height s per_day block t < lock_height s per_day block t = rw q at h in omega (arith, z)

  -- a lock height of an unconfirmed parent is the fixed one, or never
  module _ (block : ℕ → ℕ) (mined t : ℕ) (l : t < count s) where
    abbrev soonest : ℕ
    soonest = soonest_parent s per_day block mined t

    -- above an unconfirmed parent: a lock height above one's own is never, or both are fixed
    fixed_both : (b : ℕ) (k : ℕ) → lock_at s per_day 0 t < lock_at s per_day 0 k → Form s per_day t → Form s per_day k
        → (never ≤ lock_at s per_day 0 k) ⊎ ((lock_at s per_day b t ≡ lock_at s per_day 0 t) × (lock_at s per_day b k ≡ lock_at s per_day 0 k))
    fixed_both b k h (fixed n f x) (fixed m g y) = inr (f b ∙ sym (f 0), g b ∙ sym (g 0))
    fixed_both b k h (fixed n f x) (hangs m g z y o) = inl (omega arith)
    fixed_both b k h (hangs n f w x q) e = inl (omega arith)

    under : (k : ℕ) → k < count s → conflict s k t ≡ true → lock_height s per_day block t < lock_height s per_day block k
        → soonest_deadline s per_day block mined t ≤ lock_height s per_day block k
    under k lk c h =
        let o = rival_spends t k c (apart block t k h) in
        let a = lock_is_lem s per_day block t in
        let b = rival_lock s per_day block t k c in
        let top = soonest_top s per_day block mined t in
        let via : lock_at s per_day soonest t ≡ lock_height s per_day block t → lock_at s per_day soonest k ≡ lock_height s per_day block k → soonest_deadline s per_day block mined t ≤ lock_height s per_day block k
        = λ x y.
        let z = soonest_le s per_day block mined t k lk c (above (omega arith)) in
        let w = greater_le (lock_at s per_day soonest k) (lock_at s per_day soonest t + 1) (lock_height s per_day block k) (omega arith) (omega arith) in
        omega arith in
        split (eqb (block (parent s t)) 0)
        (λ y.
        let q = eqb-true (block (parent s t)) 0 y in
        let a0 : lock_height s per_day block t ≡ lock_at s per_day 0 t = rw q at a in
        let b0 : lock_height s per_day block k ≡ lock_at s per_day 0 k = rw q at b in
        either (fixed_both soonest k (omega arith) (form ok per_day t l) (form ok per_day k lk))
        (λ z. omega arith)
        (λ z. via (z.0 ∙ sym a0) (z.1 ∙ sym b0)))
        (λ y.
        let e = parent_there ok per_day block mined t l o (omega (arith, eqb-false (block (parent s t)) 0 y)) in
        via (rw e (sym a)) (rw e (sym b)))

    -- the soonest deadline is at most the deadline
    pub soonest_under : soonest_deadline s per_day block mined t ≤ deadline s per_day block t
    soonest_under = deadline_from s per_day block t (soonest_deadline s per_day block mined t) (soonest_top s per_day block mined t) under

    over : (opening s t ≡ true) ⊎ (0 < block (parent s t)) → (k : ℕ) → k < count s → conflict s k t ≡ true → Counts s per_day block soonest t k
        → deadline s per_day block t ≤ greater (lock_at s per_day soonest k) (lock_at s per_day soonest t + 1)
    over there k lk c h =
        let o = rival_spends t k c (counts_other s per_day block soonest t k h) in
        either there
        (λ y. clash y o)
        (λ y.
        let e = parent_there ok per_day block mined t l o y in
        let a : lock_height s per_day block t ≡ lock_at s per_day soonest t = rw e (lock_is_lem s per_day block t) in
        let b : lock_height s per_day block k ≡ lock_at s per_day soonest k = rw e (rival_lock s per_day block t k c) in
        met h a b y)
      where
        met : Counts s per_day block soonest t k → lock_height s per_day block t ≡ lock_at s per_day soonest t → lock_height s per_day block k ≡ lock_at s per_day soonest k → 0 < block (parent s t)
            → deadline s per_day block t ≤ greater (lock_at s per_day soonest k) (lock_at s per_day soonest t + 1)
        met (above z) a b y =
            let w = deadline_le s per_day block t k lk c (omega arith) in
            let v = greater_left (lock_at s per_day soonest k) (lock_at s per_day soonest t + 1) in
            omega arith
        met (rises z f g) a b y = absurd (omega (arith, z))

    -- and equal to it once the parent is confirmed, or for an opening
    pub soonest_meets : (opening s t ≡ true) ⊎ (0 < block (parent s t)) → soonest_deadline s per_day block mined t ≡ deadline s per_day block t
    soonest_meets there =
        le_antisymm soonest_under (soonest_from s per_day block mined t (deadline s per_day block t) (deadline_top s per_day block t) (over there))

  module _ (block : ℕ → ℕ) (mined : ℕ) (block' : ℕ → ℕ) (mined' : ℕ) (later : Later s block mined block' mined') (st : Settled s per_day block' mined') (t : ℕ) (l : t < count s) where
    abbrev before : ℕ
    before = soonest_parent s per_day block mined t

    abbrev after : ℕ
    after = soonest_parent s per_day block' mined' t

    -- what counts later counts before
    counted : (k : ℕ) → opening s t ≡ false → Form s per_day t → Form s per_day k → Counts s per_day block' after t k → Counts s per_day block before t k
    counted k o a b (rises z x y) = rises (either (later.blocks (parent s t) (parent_below ok t l o)) (λ q. sym q ∙ z) (λ q. q.0)) x y
    counted k o a b (above h) = ways (parent_some ok per_day block mined t l o) (parent_rises ok per_day block mined block' mined' later st t l) a b
      where
        ways : 0 < before → before ≤ after → Form s per_day t → Form s per_day k → Counts s per_day block before t k
        ways some rise (fixed n f x) (fixed m g y) = above (omega (arith, f before, f after, g before, g after))
        ways some rise (hangs n f w x q) (fixed m g y) = above (omega (arith, f before some, f after (omega arith), g before, g after))
        ways some rise (hangs n f w x q) (hangs m g v y r) = above (omega (arith, f before some, f after (omega arith), g before some, g after (omega arith)))
        ways some rise (fixed n f x) (hangs m g v y r) =
            split (eqb (block (parent s t)) 0)
            (λ z. rises (eqb-true (block (parent s t)) 0 z) y x)
            (λ z.
            let c : 0 < block (parent s t) = omega (arith, eqb-false (block (parent s t)) 0 z) in
            let same : block' (parent s t) ≡ block (parent s t) = either (later.blocks (parent s t) (parent_below ok t l o)) (λ q. q) (λ q. absurd (omega (arith, q.0))) in
            let e : after ≡ before = parent_there ok per_day block' mined' t l o (rw same c) ∙ same ∙ sym (parent_there ok per_day block mined t l o c) in
            above (rw e at h))

    -- no soonest deadline falls
    pub soonest_deadline_rises : soonest_deadline s per_day block mined t ≤ soonest_deadline s per_day block' mined' t
    soonest_deadline_rises =
        soonest_from s per_day block' mined' t (soonest_deadline s per_day block mined t) (soonest_top s per_day block mined t)
        (λ k lk c h.
        let o = rival_spends t k c (counts_other s per_day block' after t k h) in
        let rise = parent_rises ok per_day block mined block' mined' later st t l in
        let w = soonest_le s per_day block mined t k lk c (counted k o (form ok per_day t l) (form ok per_day k lk) h) in
        let x = lock_at_rises ok per_day block mined block' mined' later st k t l rise (conflict_parent s k t c) lk in
        let y = lock_at_rises ok per_day block mined block' mined' later st t t l rise refl l in
        let v = greater_mono (lock_at s per_day before k) (lock_at s per_day before t + 1) (lock_at s per_day after k) (lock_at s per_day after t + 1) x (omega arith) in
        omega arith)

    fallen : (k : ℕ) → k < count s → conflict s k t ≡ true → lock_height s per_day block t < lock_height s per_day block k
        → deadline s per_day block' t ≤ lock_height s per_day block k
    fallen k lk c h =
        let o = rival_spends t k c (apart block t k h) in
        let a = lock_is_lem s per_day block t in
        let b = rival_lock s per_day block t k c in
        let a' = lock_is_lem s per_day block' t in
        let b' = rival_lock s per_day block' t k c in
        let top = deadline_top s per_day block' t in
        let via : lock_at s per_day (block' (parent s t)) t ≡ lock_height s per_day block t → lock_at s per_day (block' (parent s t)) k ≡ lock_height s per_day block k → deadline s per_day block' t ≤ lock_height s per_day block k
        = λ x y. let z = deadline_le s per_day block' t k lk c (omega arith) in omega arith in
        either (later.blocks (parent s t) (parent_below ok t l o))
        (λ q. via (rw q (sym a)) (rw q (sym b)))
        (λ q.
        let a0 : lock_height s per_day block t ≡ lock_at s per_day 0 t = rw q.0 at a in
        let b0 : lock_height s per_day block k ≡ lock_at s per_day 0 k = rw q.0 at b in
        either (fixed_both block mined t l (block' (parent s t)) k (omega arith) (form ok per_day t l) (form ok per_day k lk))
        (λ z. omega arith)
        (λ z. via (z.0 ∙ sym a0) (z.1 ∙ sym b0)))

    -- and no deadline rises
    pub deadline_falls : deadline s per_day block' t ≤ deadline s per_day block t
    deadline_falls = deadline_from s per_day block t (deadline s per_day block' t) (deadline_top s per_day block' t) fallen

    -- a rival that is confirmed with a lock height above t's
    pub no_surprise : (r : ℕ) → r < count s → conflict s r t ≡ true → 0 < block' r → lock_height s per_day block' t < lock_height s per_day block' r
        → soonest_deadline s per_day block mined t + 1 ≤ block' r
    no_surprise r lr c y h =
        let a = soonest_deadline_rises in
        let b = soonest_under block' mined' t l in
        let e = deadline_le s per_day block' t r lr c h in
        let f = st.locks r lr y in
        omega arith
