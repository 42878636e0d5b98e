-- The lock heights of a transaction and its rivals with the parent in its soonest block: a later one lifts them alike, one that is reached is
-- the position's, and those of a parent that is there are small.
-- Assumes nothing.
use Rattle.laws.proofs.Prelude.{ℕ, ◌+◌, ◌≤◌, ◌<◌, ◌≡◌, sym, ◌∙◌, true, false, List, ◌⊎◌, inl, inr, eqb, eqb-true, eqb-false, eq-eqb, ne_eqb, arith, mul-le-mul, split}
use Rattle.laws.proofs.Prelude.{either, clash}
use Rattle.position.proofs.Rules.{count, parent, opening, lock_type, per_day, never, lock_blocks, since_parent, lock_height, Checked, SetupChecked, LockPair, absolute, since}
use Rattle.position.proofs.Rules.{conflict, block_of, lock_height_in}
use Rattle.position.specs.declared.Position.{Position}
use Rattle.sheet.specs.Field.{days}
use Rattle.sheet.specs.Checked.{none}
use Rattle.slots.proofs.Conflicts.{conflict_opening}
use Rattle.slots.proofs.Parents.{parent_below}
use Rattle.soonest.specs.Soonest.{lock_at, since_locked}
use Rattle.soonest.proofs.Locks.{Form, fixed, hangs, form, rival_lock, lock_opening, lock_reached}
use Rattle.soonest.proofs.SoonestParents.{opening_none, parent_there}
use Rattle.slack.specs.Beaten.{lock_beside}
use Rattle.slack.proofs.Onward.{soonest_above}
use Rattle.slack.proofs.Ahead.{Linked}
use Rattle.slack.proofs.Heights.{Shift}

-- the parent in a later block
module _ (s : List ℕ) (d a b t r : ℕ) (l : 0 < a) (h : a ≤ b) where
  shift_by : Form s d t → Form s d r → Shift (since_locked s t) (since_locked s r) (lock_at s d a t) (lock_at s d a r) (lock_at s d b t) (lock_at s d b r)
  shift_by (fixed n f x) (fixed m g y) =
      record {
        own_rises = omega (arith, f a, f b);
        his_rises = omega (arith, g a, g b);
        own_same = λ z. f b ∙ sym (f a);
        his_same = λ z. g b ∙ sym (g a);
        alike = λ z w. clash z x;
      }
  shift_by (fixed n f x) (hangs m g y z o) =
      record {
        own_rises = omega (arith, f a, f b);
        his_rises = omega (arith, g a l, g b (omega arith));
        own_same = λ z. f b ∙ sym (f a);
        his_same = λ w. clash z w;
        alike = λ z w. clash z x;
      }
  shift_by (hangs n f w x o) (fixed m g y) =
      record {
        own_rises = omega (arith, f a l, f b (omega arith));
        his_rises = omega (arith, g a, g b);
        own_same = λ z. clash x z;
        his_same = λ z. g b ∙ sym (g a);
        alike = λ z w. clash w y;
      }
  shift_by (hangs n f w x o) (hangs m g v y k) =
      record {
        own_rises = omega (arith, f a l, f b (omega arith));
        his_rises = omega (arith, g a l, g b (omega arith));
        own_same = λ z. clash x z;
        his_same = λ z. clash y z;
        alike = λ z w. omega (arith, f a l, f b (omega arith), g a l, g b (omega arith));
      }

pub shift : {s : List ℕ} → Checked s → (d a b t r : ℕ) → t < count s → r < count s → 0 < a → a ≤ b
    → Shift (since_locked s t) (since_locked s r) (lock_at s d a t) (lock_at s d a r) (lock_at s d b t) (lock_at s d b r)
shift {s} ok d a b t r lt lr l h = shift_by s d a b t r l h (form ok d t lt) (form ok d r lr)

-- a rival whose lock height is below never
module _ (s u : List ℕ) (ok : Checked s) (p : Position) (t k : ℕ) (lt : t < count s) (lk : k < count s) (c : conflict s k t ≡ true)
    (h : lock_height_in s u p k < never) where
  at_parent : lock_height_in s u p k ≡ lock_at s (per_day u) (block_of p (parent s t)) k
  unfolding lock_height_in
  at_parent = rival_lock s (per_day u) (block_of p) t k c

  at_none : block_of p (parent s t) ≡ 0 → lock_at s (per_day u) 0 k < never
  at_none z = let e = rw z at at_parent in omega (arith, e, h)

  pub lock_met : lock_beside s u p t k ≡ lock_height_in s u p k
  unfolding lock_beside
  lock_met =
      let d = per_day u in
      let e = soonest_above s u p t in
      split (opening s t)
      (λ o. lock_opening ok d k lk (rw (conflict_opening s k t o c) o) e (block_of p (parent s t)) ∙ sym at_parent)
      (λ o.
      split (eqb (block_of p (parent s t)) 0)
      (λ y.
      let z = eqb-true (block_of p (parent s t)) 0 y in
      lock_reached ok d k lk e (at_none z) ∙ sym (rw z at at_parent))
      (λ y. rw (parent_there ok d (block_of p) p.mined t lt o (omega (arith, eqb-false (block_of p (parent s t)) 0 y))) (sym at_parent)))

  fixed_by : Form s (per_day u) k → lock_at s (per_day u) 0 k < never → since_locked s k ≡ false
  fixed_by (fixed n f x) l = x
  fixed_by (hangs n f w x o) l = absurd (omega arith)

  -- below a parent that is not there it is not locked since it
  pub not_since : block_of p (parent s t) ≡ 0 → since_locked s k ≡ false
  not_since z = fixed_by (form ok (per_day u) k lk) (at_none z)

-- a lock height with the parent there
small_by : (s : List ℕ) (d e t : ℕ) → d ≤ 1000 → LockPair s t → (opening s t ≡ true) ⊎ (0 < e) → lock_at s d e t ≤ e + 255000
unfolding lock_at lock_height since_parent lock_blocks
small_by s d e t h (none a b) there = rw (eq-eqb (lock_type s t) 0 a) (omega arith)
small_by s d e t h (absolute a b c) there =
    let m = mul-le-mul {n₁ = days s t} {m₁ = d} {n₂ = 255} {m₂ = 1000} c h in
    rw (ne_eqb (lock_type s t) 0 (λ z. omega arith), eq-eqb (lock_type s t) 1 a) (omega (arith, m))
small_by s d e t h (since a b c o) there =
    let m = mul-le-mul {n₁ = days s t} {m₁ = d} {n₂ = 255} {m₂ = 1000} c h in
    either there
    (λ y. clash y o)
    (λ y. rw (ne_eqb (lock_type s t) 0 (λ z. omega arith), ne_eqb (lock_type s t) 1 (λ z. omega arith), ne_eqb e 0 (λ z. omega arith)) (omega (arith, m)))

pub own_small : (s u : List ℕ) (ok : Checked s) → SetupChecked s u → (p : Position) → Linked s p → (t : ℕ) → t < count s
    → (opening s t ≡ true) ⊎ (0 < block_of p (parent s t)) → lock_beside s u p t t ≤ 265001
unfolding lock_beside
own_small s u ok fit p linked t l there =
    let d = per_day u in
    split (opening s t)
    (λ o.
    let w = small_by s d 0 t fit.blocks_few (ok.entries t l).lock_pair_lem (inl o) in
    rw (opening_none ok d (block_of p) p.mined t l o) (omega (arith, w)))
    (λ o.
    either there
    (λ y. clash y o)
    (λ y.
    let w = small_by s d (block_of p (parent s t)) t fit.blocks_few (ok.entries t l).lock_pair_lem (inr y) in
    let m = linked.numbered (parent s t) (parent_below ok t l o) in
    rw (parent_there ok d (block_of p) p.mined t l o y) (omega (arith, w, m, linked.limit))))
