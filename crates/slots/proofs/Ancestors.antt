-- Ancestry as a derivation, to recurse on, and what meets a conflict along it.
-- Assumes nothing.
use Rattle.laws.proofs.Prelude.{ℕ, zero, suc, ◌≤◌, ◌<◌, ◌≡◌, refl, sym, ◌∙◌, Bool, true, false, not, ◌&&◌, ◌||◌, false≢true, List, eqb, ltb, eqb-true, ltb-true, eq-eqb}
use Rattle.laws.proofs.Prelude.{ne_eqb, lt-ltb, not-true, arith, pick, split, either, and_parts, or_right, or_neither, any_found, climb_in, climb}
use Rattle.sheet.specs.Field.{count, parent}
use Rattle.sheet.specs.Checked.{Checked}
use Rattle.slots.specs.Conflict.{conflict, conflict_in, other_conflict_in}
use Rattle.slots.specs.Ancestry.{in_ancestry, is_self_or_ancestor, meets_conflict, meets_other}
use Rattle.slots.proofs.AncestrySets.{line_step}
use Rattle.slots.proofs.Parents.{parent_lower}
use Rattle.slots.proofs.Conflicts.{conflict_parts, same_opening, none_in, some_in}

-- x is t, or above it
pub data Above (s : List ℕ) (x : ℕ) : ℕ → Type 0 where
  here : Above s x x
  up : {t : ℕ} → parent s t < t → Above s x (parent s t) → Above s x t

pub above_all : {s : List ℕ} {x q t : ℕ} → Above s x q → Above s q t → Above s x t
above_all r here = r
above_all r (up l q) = up l (above_all r q)

pub above_le : {s : List ℕ} {x t : ℕ} → Above s x t → x ≤ t
above_le here = omega arith
above_le (up l r) = let h = above_le r in omega arith

-- what holds of a transaction's parent with it holds of all above it
pub holds_above : {s : List ℕ} (P : ℕ → Type 0) → ((t : ℕ) → t < count s → parent s t < t → P t → P (parent s t)) → {x k : ℕ} → Above s x k → k < count s → P k → P x
holds_above P f here l c = c
holds_above P f (up {t = k} h r) l c = holds_above P f r (omega arith) (f k l h c)

module _ (s : List ℕ) (passes : ℕ → Bool) where
  pub line_here : (t : ℕ) → passes t ≡ true → in_ancestry s passes t ≡ true
  line_here t h = rw (line_step s passes t, h)

  pub line_up : (t : ℕ) → parent s t < t → in_ancestry s passes (parent s t) ≡ true → in_ancestry s passes t ≡ true
  line_up t l h = line_step s passes t ∙ rw (lt-ltb (parent s t) t l, h) (or_right (passes t) true refl)

  pub line_at_lem : {x t : ℕ} → Above s x t → passes x ≡ true → in_ancestry s passes t ≡ true
  line_at_lem {x} here e = line_here x e
  line_at_lem (up {t} l r) e = line_up t l (line_at_lem r e)

  pub off_here : (t : ℕ) → in_ancestry s passes t ≡ false → passes t ≡ false
  off_here t h = (or_neither (passes t) (pick (ltb (parent s t) t) (in_ancestry s passes (parent s t)) false) (sym (line_step s passes t) ∙ h)).0

  pub off_up : (t : ℕ) → parent s t < t → in_ancestry s passes t ≡ false → in_ancestry s passes (parent s t) ≡ false
  off_up t l h = (or_neither (passes t) (in_ancestry s passes (parent s t)) (sym (line_step s passes t ∙ rw (lt-ltb (parent s t) t l)) ∙ h)).1

  find_in : (k t : ℕ) → climb_in (parent s) (λ j above. passes j || above) false k t ≡ true → (x : ℕ) × Above s x t × (passes x ≡ true)
  unfolding climb_in
  find_in zero t h = absurd (false≢true h)
  find_in (suc k) t h =
      split (passes t)
      (λ e. (t, here, e))
      (λ e.
      split (ltb (parent s t) t)
      (λ l. let r = find_in k (parent s t) (rw (e, l) at h) in (r.0, up (ltb-true (parent s t) t l) r.1, r.2))
      (λ l. absurd (false≢true (rw (e, l) at h))))

  pub line_find : (t : ℕ) → in_ancestry s passes t ≡ true → (x : ℕ) × Above s x t × (passes x ≡ true)
  unfolding in_ancestry climb
  line_find t h = find_in (suc t) t h

pub ancestor_above : (s : List ℕ) (x t : ℕ) → is_self_or_ancestor s x t ≡ true → Above s x t
unfolding is_self_or_ancestor
ancestor_above s x t h = let r = line_find s (eqb x) t h in rw (eqb-true x r.0 r.2) r.1

pub above_ancestor : (s : List ℕ) {x t : ℕ} → Above s x t → is_self_or_ancestor s x t ≡ true
unfolding is_self_or_ancestor
above_ancestor s {x} r = line_at_lem s (eqb x) r (eq-eqb x x refl)

-- a rival of a member on the line of t
pub meets_find : (s : List ℕ) (member : ℕ → Bool) (t : ℕ) → meets_conflict s member t ≡ true
    → (x : ℕ) × (k : ℕ) × Above s x t × (k < count s) × (conflict s k x ≡ true) × (member k ≡ true)
unfolding meets_conflict
meets_find s member t h =
    let r = line_find s (conflict_in s member) t h in
    let w = some_in s member r.0 r.2 in
    (r.0, w.0, r.1, w.1, w.2, w.3)

pub meets_none : (s : List ℕ) (member : ℕ → Bool) (t : ℕ) → meets_conflict s member t ≡ false → (k : ℕ) → k < count s → conflict s k t ≡ true → member k ≡ false
unfolding meets_conflict
meets_none s member t h = none_in s member t (off_here s (conflict_in s member) t h)

pub meets_none_up : (s : List ℕ) (member : ℕ → Bool) (t : ℕ) → parent s t < t → meets_conflict s member t ≡ false → meets_conflict s member (parent s t) ≡ false
unfolding meets_conflict
meets_none_up s member t l h = off_up s (conflict_in s member) t l h

-- the same with a rival other than the member
pub other_find : (s : List ℕ) (member : ℕ → Bool) (t : ℕ) → meets_other s member t ≡ true
    → (x : ℕ) × (k : ℕ) × Above s x t × (k < count s) × (conflict s k x ≡ true) × (member k ≡ true) × (eqb k x ≡ false)
unfolding meets_other other_conflict_in
other_find s member t h =
    let r = line_find s (other_conflict_in s member) t h in
    let w = some_in s (λ k. not (eqb k r.0) && member k) r.0 r.2 in
    let g = and_parts (not (eqb w.0 r.0)) (member w.0) w.3 in
    (r.0, w.0, r.1, w.1, w.2, g.1, not-true (eqb w.0 r.0) g.0)

-- such a rival above t is met
pub other_met : (s : List ℕ) (member : ℕ → Bool) {x t : ℕ} (k : ℕ) → Above s x t → k < count s → conflict s k x ≡ true → member k ≡ true → eqb k x ≡ false
    → meets_other s member t ≡ true
unfolding meets_other other_conflict_in conflict_in
other_met s member {x} k a l c m e =
    line_at_lem s (other_conflict_in s member) a (any_found (count s) k (λ j. conflict s j x && (not (eqb j x) && member j)) l (rw (c, e, m)))

pub other_none : (s : List ℕ) (member : ℕ → Bool) (t : ℕ) → meets_other s member t ≡ false → (k : ℕ) → k < count s → conflict s k t ≡ true → (k ≡ t → ⊥) → member k ≡ false
unfolding meets_other other_conflict_in
other_none s member t h k l c n =
    let g = none_in s (λ j. not (eqb j t) && member j) t (off_here s (other_conflict_in s member) t h) k l c in
    rw (ne_eqb k t n) at g

pub other_none_up : (s : List ℕ) (member : ℕ → Bool) (t : ℕ) → parent s t < t → meets_other s member t ≡ false → meets_other s member (parent s t) ≡ false
unfolding meets_other
other_none_up s member t l h = off_up s (other_conflict_in s member) t l h

-- two of one line with one parent are one
siblings : {s : List ℕ} {x y t : ℕ} → Above s x t → Above s y t → parent s x < x → parent s y < y → parent s x ≡ parent s y → x ≡ y
siblings here here a b e = refl
siblings here (up l r) a b e = absurd (omega (arith, above_le r))
siblings (up l r) here a b e = absurd (omega (arith, above_le r))
siblings (up l r) (up m q) a b e = siblings r q a b e

-- two rivals of one line are one
pub line_conflict : {s : List ℕ} → Checked s → {x y t : ℕ} → Above s x t → Above s y t → t < count s → conflict s x y ≡ true → x ≡ y
line_conflict {s} ok {x} {y} a b l h =
    either (conflict_parts s x y h) (λ e. e)
    (λ w.
    let lx : x < count s = omega (arith, above_le a) in
    let ly : y < count s = omega (arith, above_le b) in
    siblings a b (parent_lower ok x lx w.0) (parent_lower ok y ly (sym (same_opening s x y w.1) ∙ w.0)) w.1)
