-- Members of lists that are made one after the other, and lists in rising order.
-- Assumes nothing.
use Prim.Native.Nat.{ℕ, zero, suc, ◌<◌}
use Rattle.std.proofs.Common.{not-suc-le-zero, le_of_suc-le-suc, eq-or-lt_of_le, ap, subst}
use native.Mathlib.Omega.{arith}
use Rattle.std.specs.Prelude.{◌≡◌, refl, Bool, true}
use mathlib.Core.List.Memᴰ
use mathlib.Core.List.{List, [], ◌∷◌, ◌++◌, map, Memᴰ}
use Rattle.laws.specs.Booleans.{either}
use Rattle.laws.specs.Gather.{gather}

module _ {A : Type 0} where
  pub gather_member : {x : A} (n i : ℕ) (f : ℕ → List A) → i < n → Memᴰ x (f i) → Memᴰ x (gather n f)
  unfolding gather
  gather_member zero i f l m = absurd (not-suc-le-zero l)
  gather_member {x} (suc n) i f l m =
      either (eq-or-lt_of_le (le_of_suc-le-suc l))
      (λ e. Memᴰ.append_right (gather n f) (subst (λ (k : ℕ). Memᴰ x (f k)) e m))
      (λ h. Memᴰ.append_left (f n) (gather_member n i f h m))

  pub member_gather : {x : A} (n : ℕ) (f : ℕ → List A) → Memᴰ x (gather n f) → (i : ℕ) × (i < n) × Memᴰ x (f i)
  unfolding gather
  member_gather zero f m = absurd (Memᴰ.not-nil m)
  member_gather (suc n) f m =
      either (Memᴰ.append_cases (gather n f) m)
      (λ a. let w = member_gather n f a in (w.0, omega (arith, w.1), w.2))
      (λ b. (n, omega arith, b))

  -- each element stands before every later one
  unfoldable pub Rising : (A → A → Bool) → List A → Type 0
  Rising before [] = Unit {0}
  Rising before (x ∷ l) = ((y : A) → Memᴰ y l → before x y ≡ true) × Rising before l

  pub rising_append : (before : A → A → Bool) (a b : List A) → Rising before a → Rising before b
      → ((x y : A) → Memᴰ x a → Memᴰ y b → before x y ≡ true) → Rising before (a ++ b)
  unfolding Rising
  rising_append before [] b r t h = t
  rising_append before (x ∷ a) b r t h = (
    λ y m. either (Memᴰ.append_cases a m) (r.0 y) (λ n. h x y (Memᴰ.head refl) n),
    rising_append before a b r.1 t (λ z y m n. h z y (Memᴰ.tail m) n),
  )

  pub rising_gather : (before : A → A → Bool) (n : ℕ) (f : ℕ → List A) → ((i : ℕ) → i < n → Rising before (f i))
      → ((i j : ℕ) → i < j → j < n → (x y : A) → Memᴰ x (f i) → Memᴰ y (f j) → before x y ≡ true)
      → Rising before (gather n f)
  unfolding gather Rising
  rising_gather before zero f r h = tt
  rising_gather before (suc n) f r h =
      rising_append before (gather n f) (f n)
      (rising_gather before n f (λ i l. r i (omega arith)) (λ i j l m. h i j l (omega arith)))
      (r n (omega arith))
      (λ x y a b. let w = member_gather n f a in h w.0 n w.1 (omega arith) x y w.2 b)

module _ {A B : Type 0} where
  pub map_member : (f : A → B) {x : A} (l : List A) → Memᴰ x l → Memᴰ (f x) (map f l)
  map_member f [] m = absurd (Memᴰ.not-nil m)
  map_member f (y ∷ l) m =
      either (Memᴰ.cases_cons m) (λ e. Memᴰ.head (ap f e)) (λ n. Memᴰ.tail (map_member f l n))

  pub member_map : (f : A → B) {y : B} (l : List A) → Memᴰ y (map f l) → (x : A) × (y ≡ f x) × Memᴰ x l
  member_map f [] m = absurd (Memᴰ.not-nil m)
  member_map f (x ∷ l) m =
      either (Memᴰ.cases_cons m)
      (λ e. (x, e, Memᴰ.head refl))
      (λ n. let w = member_map f l n in (w.0, w.1, Memᴰ.tail w.2))

  pub rising_map : (before : B → B → Bool) (f : A → B) (l : List A) → Rising (λ x y. before (f x) (f y)) l → Rising before (map f l)
  unfolding Rising
  rising_map before f [] r = tt
  rising_map before f (x ∷ l) r =
      (λ y m. let w = member_map f l m in rw w.1 (r.0 w.0 w.2), rising_map before f l r.1)
