-- Conflicts: a symmetric relation, by parents, and what the tests over a set say.
-- Assumes nothing.
use Rattle.laws.proofs.Prelude.{ℕ, ◌<◌, ◌≡◌, refl, sym, ap, ◌∙◌, Bool, true, false, not, ◌&&◌, List, ◌⊎◌, inl, inr, eqb, eqb-true, eq-eqb, ne_eqb, not-true, split}
use Rattle.laws.proofs.Prelude.{either, clash, and_parts, or_parts, or_right, fails_by, any_some, any_none}
use Rattle.sheet.specs.Field.{count, parent, opening}
use Rattle.slots.specs.Conflict.{conflict, conflict_in, no_conflict}
use Rattle.slots.specs.Ancestry.{has_parent}

pub conflict_self : (s : List ℕ) (t : ℕ) → conflict s t t ≡ true
unfolding conflict
conflict_self s t = rw (eq-eqb t t refl)

pub conflict_parts : (s : List ℕ) (k t : ℕ) → conflict s k t ≡ true → (k ≡ t) ⊎ ((opening s k ≡ false) × (parent s k ≡ parent s t))
unfolding conflict
conflict_parts s k t h =
    either (or_parts (eqb k t) (not (opening s k) && eqb (parent s k) (parent s t)) h)
    (λ e. inl (eqb-true k t e))
    (λ e.
    let w = and_parts (not (opening s k)) (eqb (parent s k) (parent s t)) e in
    inr (not-true (opening s k) w.0, eqb-true (parent s k) (parent s t) w.1))

pub same_opening : (s : List ℕ) (k t : ℕ) → parent s k ≡ parent s t → opening s k ≡ opening s t
unfolding opening
same_opening s k t e = ap (λ (q : ℕ). eqb q 255) e

pub siblings_conflict : (s : List ℕ) (k t : ℕ) → opening s k ≡ false → parent s k ≡ parent s t → conflict s k t ≡ true
unfolding conflict
siblings_conflict s k t o e = rw (o, eq-eqb (parent s k) (parent s t) e) (or_right (eqb k t) true refl)

-- rivals have one parent
pub conflict_parent : (s : List ℕ) (k t : ℕ) → conflict s k t ≡ true → parent s k ≡ parent s t
conflict_parent s k t h = either (conflict_parts s k t h) (ap (parent s)) (λ w. w.1)

-- the rivals of one that is no opening are the children of its parent
pub conflict_siblings : (s : List ℕ) (k t : ℕ) → opening s t ≡ false → conflict s k t ≡ eqb (parent s t) (parent s k)
conflict_siblings s k t o =
    split (conflict s k t)
    (λ y. y ∙ sym (eq-eqb (parent s t) (parent s k) (sym (conflict_parent s k t y))))
    (λ y.
    y ∙ sym (ne_eqb (parent s t) (parent s k) (λ q. clash (siblings_conflict s k t (sym (same_opening s t k q) ∙ o) (sym q)) y)))

-- "an opening rivals only itself"
pub conflict_opening : (s : List ℕ) (k t : ℕ) → opening s t ≡ true → conflict s k t ≡ true → k ≡ t
conflict_opening s k t o h =
    either (conflict_parts s k t h) (λ e. e) (λ w. clash (same_opening s k t w.1 ∙ o) w.0)

pub conflict_sym : (s : List ℕ) (k t : ℕ) → conflict s k t ≡ true → conflict s t k ≡ true
conflict_sym s k t h =
    either (conflict_parts s k t h)
    (λ e. rw e (conflict_self s t))
    (λ w. siblings_conflict s t k (sym (same_opening s k t w.1) ∙ w.0) (sym w.1))

-- a set with no rival of t
pub none_in : (s : List ℕ) (member : ℕ → Bool) (t : ℕ) → conflict_in s member t ≡ false → (k : ℕ) → k < count s → conflict s k t ≡ true → member k ≡ false
unfolding conflict_in
none_in s member t h k l c =
    fails_by (member k) (λ y. clash {b = conflict s k t && member k} (rw (c, y)) (any_none (count s) (λ j. conflict s j t && member j) h k l))

-- a set with some rival of t
pub some_in : (s : List ℕ) (member : ℕ → Bool) (t : ℕ) → conflict_in s member t ≡ true → (k : ℕ) × (k < count s) × (conflict s k t ≡ true) × (member k ≡ true)
unfolding conflict_in
some_in s member t h =
    let w = any_some (count s) (λ j. conflict s j t && member j) h in
    let c = and_parts (conflict s w.0 t) (member w.0) w.2 in
    (w.0, w.1, c.0, c.1)

-- 14 passed
pub no_conflict_lem : (s : List ℕ) (member : ℕ → Bool) (t : ℕ) → no_conflict s member t ≡ true → (k : ℕ) → k < count s → conflict s k t ≡ true → member k ≡ false
unfolding no_conflict
no_conflict_lem s member t h = none_in s member t (not-true (conflict_in s member t) h)

-- 15 passed
pub parent_member : (s : List ℕ) (member : ℕ → Bool) (t : ℕ) → has_parent s member t ≡ true → opening s t ≡ false → member (parent s t) ≡ true
unfolding has_parent
parent_member s member t h o = either (or_parts (opening s t) (member (parent s t)) h) (λ y. clash y o) (λ y. y)
