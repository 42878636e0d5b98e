-- Lists made one after the other.
-- Assumes nothing.
use Prim.Native.Nat.{ℕ, zero, suc, ◌+◌, ◌*◌, ◌≤◌, ◌<◌}
use native.Mathlib.Omega.{arith}
use Rattle.std.specs.Prelude.{◌≡◌, Bool, true, ◌&&◌, length, get_or}
use Rattle.std.proofs.Math.Path.{refl, sym}
use Rattle.std.proofs.Common.{◌∙◌, get_or-append-add, add-one, not-suc-le-zero, le_of_suc-le-suc, eq-or-lt_of_le, mul-suc, mul-zero, mul-le-mul_left}
use mathlib.Core.List.{List, [], ◌∷◌, ◌++◌, flat_map, append_assoc}
use Rattle.std.proofs.Math.ListN.{length-append, get_or-append}
use Rattle.laws.specs.Booleans.{either, and_parts}

-- f 0, f 1, .. f (n - 1), end to end
unfoldable pub gather : {A : Type 0} → ℕ → (ℕ → List A) → List A
gather zero f = []
gather (suc n) f = gather n f ++ f n

-- a loop that makes it: its start, a turn, and the room for a turn where all has room
module _ {A : Type 0} (f : ℕ → List A) where
  pub gather_none : gather 0 f ≡ []
  unfolding gather
  gather_none = refl

  pub gather_more : (n : ℕ) (w : List A) → f n ≡ w → gather (n + 1) f ≡ gather n f ++ w
  unfolding gather
  gather_more n w e = rw (add-one, e)

  gather_mono : (k n : ℕ) → k ≤ n → length (gather k f) ≤ length (gather n f)
  unfolding gather
  gather_mono k zero h = let z : k ≡ 0 = omega arith in rw z (omega arith)
  gather_mono k (suc n) h =
      either (eq-or-lt_of_le h)
      (λ e. rw e (omega arith))
      (λ l. omega (arith, gather_mono k n (le_of_suc-le-suc l), length-append (gather n f) (f n)))

  pub gather_room : (t n m : ℕ) → t < n → length (gather n f) ≤ m → length (gather t f ++ f t) ≤ m
  gather_room t n m h l = rw (← (gather_more t (f t) refl)) (omega (arith, gather_mono (t + 1) n (omega arith)))

  -- empty lists only
  pub gather_empty : (n : ℕ) → ((k : ℕ) → f k ≡ []) → gather n f ≡ []
  unfolding gather
  gather_empty zero e = refl
  gather_empty (suc n) e = rw (gather_empty n e, e n)

-- lists that agree below n
pub gather_same : {A : Type 0} (n : ℕ) (f g : ℕ → List A) → ((k : ℕ) → k < n → f k ≡ g k) → gather n f ≡ gather n g
unfolding gather
gather_same zero f g h = refl
gather_same (suc n) f g h = rw (gather_same n f g (λ k l. h k (omega arith)), h n (omega arith))

-- p holds of every element
unfoldable pub every : {A : Type 0} → (A → Bool) → List A → Bool
every p [] = true
every p (x ∷ l) = p x && every p l

-- what holds of every element holds of each
pub every_at : {A : Type 0} (p : A → Bool) (l : List A) (d : A) → every p l ≡ true → (i : ℕ) → i < length l → p (get_or l i d) ≡ true
unfolding every
every_at p [] d e i h = absurd (not-suc-le-zero h)
every_at p (x ∷ l) d e zero h = (and_parts (p x) (every p l) e).0
every_at p (x ∷ l) d e (suc i) h = every_at p l d (and_parts (p x) (every p l) e).1 i (le_of_suc-le-suc h)

-- elements that become w each
pub length_flat : {A B : Type 0} (f : A → List B) (w : ℕ) → ((x : A) → length (f x) ≡ w) → (l : List A) → length (flat_map f l) ≡ w * length l
unfolding flat_map
length_flat f w wide [] = sym (mul-zero w)
length_flat f w wide (x ∷ l) = length-append (f x) (flat_map f l) ∙ rw (wide x, length_flat f w wide l, mul-suc) (omega arith)

-- lists of one length w: the whole length, and the element at place j of list t
module _ {A : Type 0} (f : ℕ → List A) (w : ℕ) (wide : (k : ℕ) → length (f k) ≡ w) where
  pub length_gather : (n : ℕ) → length (gather n f) ≡ w * n
  unfolding gather
  length_gather zero = sym (mul-zero w)
  length_gather (suc n) = length-append (gather n f) (f n) ∙ rw (length_gather n, wide n, mul-suc)

  in_front : (n t j : ℕ) → t < n → j < w → w * t + j < w * n
  in_front n t j h l = let m : w * suc t ≤ w * n = mul-le-mul_left w h in omega (arith, mul-suc w t)

  pub gather_at : (n t j : ℕ) (d : A) → t < n → j < w → get_or (gather n f) (w * t + j) d ≡ get_or (f t) j d
  unfolding gather
  gather_at zero t j d h l = absurd (not-suc-le-zero h)
  gather_at (suc n) t j d h l =
      either (eq-or-lt_of_le (le_of_suc-le-suc h))
      (λ e. rw (e, ← length_gather n) (get_or-append-add (gather n f) (f n) j d))
      (λ m. get_or-append (gather n f) (f n) d (w * t + j) (rw (length_gather n) (in_front n t j m l)) ∙ gather_at n t j d m l)

-- what the elements of two lists give, end to end
pub flat_append : {A B : Type 0} (f : A → List B) (l m : List A) → flat_map f (l ++ m) ≡ flat_map f l ++ flat_map f m
unfolding flat_map
flat_append f [] m = refl
flat_append f (x ∷ l) m = rw (flat_append f l m, append_assoc)
