-- A lock height by its kind: fixed, or so many blocks since the parent's.
-- Assumes nothing.
use Rattle.laws.proofs.Prelude.{ℕ, ◌+◌, ◌≤◌, ◌<◌, ◌≡◌, refl, sym, ap, ◌∙◌, true, false, List, ◌⊎◌, inl, inr, eq-eqb, ne_eqb, arith, mul-le-mul, clash}
use Rattle.position.proofs.Rules.{count, parent, opening, lock_type, never, lock_blocks, since_parent, lock_height, Checked, LockPair, absolute, since, conflict}
use Rattle.sheet.specs.Field.{days}
use Rattle.sheet.specs.Checked.{none}
use Rattle.slots.proofs.Conflicts.{conflict_parent}
use Rattle.slots.proofs.Since.{lock_height_since}
use Rattle.soonest.specs.Soonest.{lock_at, since_locked}

pub data Form (s : List ℕ) (per_day t : ℕ) : Type 0 where
  fixed : (h : ℕ) → ((e : ℕ) → lock_at s per_day e t ≡ h) → since_locked s t ≡ false → Form s per_day t
  hangs : (h : ℕ) → ((e : ℕ) → 0 < e → lock_at s per_day e t ≡ e + h) → lock_at s per_day 0 t ≡ never → since_locked s t ≡ true → opening s t ≡ false → Form s per_day t

form_by : (s : List ℕ) (per_day t : ℕ) → LockPair s t → Form s per_day t
unfolding lock_at lock_height since_locked since_parent
form_by s per_day t (none e d) =
    fixed 0 (λ b. rw (eq-eqb (lock_type s t) 0 e)) (ne_eqb (lock_type s t) 2 (λ z. omega arith))
form_by s per_day t (absolute e a b) =
    fixed (lock_blocks s per_day t) (λ b. rw (ne_eqb (lock_type s t) 0 (λ z. omega arith), eq-eqb (lock_type s t) 1 e)) (ne_eqb (lock_type s t) 2 (λ z. omega arith))
form_by s per_day t (since e a b o) =
    hangs (lock_blocks s per_day t)
    (λ b l. rw (ne_eqb (lock_type s t) 0 (λ z. omega arith), ne_eqb (lock_type s t) 1 (λ z. omega arith), ne_eqb b 0 (λ z. omega arith)))
    (rw (ne_eqb (lock_type s t) 0 (λ z. omega arith), ne_eqb (lock_type s t) 1 (λ z. omega arith)))
    (eq-eqb (lock_type s t) 2 e)
    o

pub form : {s : List ℕ} → Checked s → (per_day t : ℕ) → t < count s → Form s per_day t
form {s} ok per_day t l = form_by s per_day t (ok.entries t l).lock_pair_lem

-- the lock height at the parent's block
pub lock_is_lem : (s : List ℕ) (per_day : ℕ) (block : ℕ → ℕ) (t : ℕ) → lock_height s per_day block t ≡ lock_at s per_day (block (parent s t)) t
unfolding lock_at
lock_is_lem s per_day block t = lock_height_since s per_day block (block (parent s t)) t refl

-- a rival's lock height hangs on the same parent
pub rival_lock : (s : List ℕ) (per_day : ℕ) (block : ℕ → ℕ) (t k : ℕ) → conflict s k t ≡ true → lock_height s per_day block k ≡ lock_at s per_day (block (parent s t)) k
rival_lock s per_day block t k c = lock_is_lem s per_day block k ∙ ap (λ q. lock_at s per_day (block q) k) (conflict_parent s k t c)

-- a later block of the parent, no lower lock height
rises_by : (s : List ℕ) (per_day t a b : ℕ) → 0 < a → a ≤ b → Form s per_day t → lock_at s per_day a t ≤ lock_at s per_day b t
rises_by s per_day t a b l h (fixed n f x) = omega (arith, f a, f b)
rises_by s per_day t a b l h (hangs n f z x o) = omega (arith, f a l, f b (omega arith))

pub lock_rises : {s : List ℕ} → Checked s → (per_day t : ℕ) → t < count s → (a b : ℕ) → 0 < a → a ≤ b → lock_at s per_day a t ≤ lock_at s per_day b t
lock_rises {s} ok per_day t l a b x y = rises_by s per_day t a b x y (form ok per_day t l)

-- an opening's is fixed
opening_by : (s : List ℕ) (per_day t a b : ℕ) → opening s t ≡ true → Form s per_day t → lock_at s per_day a t ≡ lock_at s per_day b t
opening_by s per_day t a b p (fixed n f x) = f a ∙ sym (f b)
opening_by s per_day t a b p (hangs n f z x o) = clash p o

pub lock_opening : {s : List ℕ} → Checked s → (per_day t : ℕ) → t < count s → opening s t ≡ true → (a b : ℕ) → lock_at s per_day a t ≡ lock_at s per_day b t
lock_opening {s} ok per_day t l o a b = opening_by s per_day t a b o (form ok per_day t l)

-- with the parent in block b, what it is without one, or above b
after_by : (s : List ℕ) (per_day t b : ℕ) → 0 < per_day → 0 < b → LockPair s t → (lock_at s per_day b t ≡ lock_at s per_day 0 t) ⊎ (b < lock_at s per_day b t)
unfolding lock_at lock_height since_parent lock_blocks
after_by s per_day t b p l (none e d) = inl (rw (eq-eqb (lock_type s t) 0 e))
after_by s per_day t b p l (absolute e x y) = inl (rw (ne_eqb (lock_type s t) 0 (λ z. omega arith), eq-eqb (lock_type s t) 1 e))
after_by s per_day t b p l (since e x y o) =
    let m = mul-le-mul {n₁ = 1} {m₁ = 1} {n₂ = days s t} {m₂ = per_day} x p in
    inr (rw (ne_eqb (lock_type s t) 0 (λ z. omega arith), ne_eqb (lock_type s t) 1 (λ z. omega arith), ne_eqb b 0 (λ z. omega arith)) (omega (arith, m)))

pub lock_after : {s : List ℕ} → Checked s → (per_day t : ℕ) → 0 < per_day → t < count s → (b : ℕ) → 0 < b
    → (lock_at s per_day b t ≡ lock_at s per_day 0 t) ⊎ (b < lock_at s per_day b t)
lock_after {s} ok per_day t p l b h = after_by s per_day t b p h (ok.entries t l).lock_pair_lem

-- below an unconfirmed parent, one that is reached is fixed
reached_by : (s : List ℕ) (per_day t b : ℕ) → lock_at s per_day 0 t < never → Form s per_day t → lock_at s per_day b t ≡ lock_at s per_day 0 t
reached_by s per_day t b h (fixed n f x) = f b ∙ sym (f 0)
reached_by s per_day t b h (hangs n f z x o) = absurd (omega arith)

pub lock_reached : {s : List ℕ} → Checked s → (per_day t : ℕ) → t < count s → (b : ℕ) → lock_at s per_day 0 t < never → lock_at s per_day b t ≡ lock_at s per_day 0 t
lock_reached {s} ok per_day t l b h = reached_by s per_day t b h (form ok per_day t l)
