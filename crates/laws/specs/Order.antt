-- Rows of numbers in the order of a dictionary.
-- Assumes nothing.
use Rattle.std.specs.Prelude.{ℕ, ◌<◌, ◌≡◌, refl, Bool, true, false, ◌&&◌, ◌||◌, List, [], ◌∷◌, eqb, ltb}
use Rattle.std.proofs.Math.Bool.{or-true}
use Rattle.std.proofs.Common.{lt-ltb, eq-eqb}

-- the first number that differs is lower in a
unfoldable pub lower : List ℕ → List ℕ → Bool
lower [] b = false
lower (x ∷ a) [] = false
lower (x ∷ a) (y ∷ b) = ltb x y || (eqb x y && lower a b)

pub lower_here : (x y : ℕ) (a b : List ℕ) → x < y → lower (x ∷ a) (y ∷ b) ≡ true
unfolding lower
lower_here x y a b h = rw (lt-ltb x y h)

pub lower_later : (x : ℕ) (a b : List ℕ) → lower a b ≡ true → lower (x ∷ a) (x ∷ b) ≡ true
unfolding lower
lower_later x a b h = rw (eq-eqb x x refl, h) (or-true (ltb x x))
