-- Two lists with the same elements.
-- Assumes nothing.
use Rattle.std.specs.Prelude.{ℕ, ◌≡◌, refl, Bool, true, ◌&&◌, List, eqb, length, get_or}
use Rattle.std.proofs.Common.{ext_get_or, eqb-true, eq-eqb}
use Rattle.laws.specs.Booleans.{and_parts}
use Rattle.laws.specs.Below.{all_below, all_at, all_from}

-- the same length, and the same element at each place
unfoldable pub same : List ℕ → List ℕ → Bool
same a b = eqb (length a) (length b) && all_below (length b) (λ i. eqb (get_or a i 0) (get_or b i 0))

pub same_equal : (a b : List ℕ) → same a b ≡ true → a ≡ b
unfolding same
same_equal a b h =
    let w = and_parts (eqb (length a) (length b)) (all_below (length b) (λ i. eqb (get_or a i 0) (get_or b i 0))) h in
    let l : length a ≡ length b = eqb-true (length a) (length b) w.0 in
    ext_get_or 0 a b l (λ i m. eqb-true (get_or a i 0) (get_or b i 0) (all_at (length b) (λ j. eqb (get_or a j 0) (get_or b j 0)) w.1 i (rw l at m)))

pub equal_same : (a : List ℕ) → same a a ≡ true
unfolding same
equal_same a = rw (eq-eqb (length a) (length a) refl) (all_from (length a) (λ i. eqb (get_or a i 0) (get_or a i 0)) (λ i h. eq-eqb (get_or a i 0) (get_or a i 0) refl))
