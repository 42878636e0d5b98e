-- A list whose front is overwritten.
-- Assumes nothing.
use Prim.Native.Nat.{ℕ, zero, suc, ◌-◌, ◌≤◌, ◌<◌}
use Rattle.std.proofs.Common.{not-suc-le-zero, le_of_suc-le-suc, add-one, arith, sym, ◌∙◌, length-append, length-drop, drop_of_length-le, take_all, get_or-take}
use Rattle.std.specs.Prelude.{◌≡◌, length, take, drop, get_or, set}
use Rattle.std.proofs.Math.Path.{refl, ap}
use mathlib.Core.List.{List, [], ◌∷◌, ◌++◌, append-nil}
use Rattle.std.proofs.lemmas.List.Edits.{sets}
use Rattle.std.proofs.Math.Seq.{append_snoc}

-- l with the elements of w in the place of as many of its first
unfoldable pub over : {A : Type 0} → List A → List A → List A
over [] l = l
over (x ∷ w) [] = []
over (x ∷ w) (y ∷ l) = x ∷ over w l

-- the front is what was written there
pub take_over : {A : Type 0} (w l : List A) → length w ≤ length l → take (length w) (over w l) ≡ w
unfolding over
take_over [] l h = refl
take_over (x ∷ w) [] h = absurd (not-suc-le-zero h)
take_over (x ∷ w) (y ∷ l) h = ap (λ r. x ∷ r) (take_over w l (le_of_suc-le-suc h))

-- an element of what was written, and one behind it
pub over_front : {A : Type 0} (w l : List A) (i : ℕ) (d : A) → length w ≤ length l → i < length w → get_or (over w l) i d ≡ get_or w i d
over_front w l i d h m = sym (get_or-take (length w) (over w l) i d m) ∙ ap (λ r. get_or r i d) (take_over w l h)

pub over_behind : {A : Type 0} (w l : List A) (i : ℕ) (d : A) → length w ≤ i → get_or (over w l) i d ≡ get_or l i d
unfolding over
over_behind [] l i d h = refl
over_behind (x ∷ w) [] i d h = refl
over_behind (x ∷ w) (y ∷ l) zero d h = absurd (not-suc-le-zero h)
over_behind (x ∷ w) (y ∷ l) (suc i) d h = over_behind w l i d (le_of_suc-le-suc h)

module _ {A : Type 0} where
  pub over_none : (l : List A) → l ≡ over [] l
  unfolding over
  over_none l = refl

  pub length_over : (w l : List A) → length (over w l) ≡ length l
  unfolding over
  length_over [] l = refl
  length_over (x ∷ w) [] = refl
  length_over (x ∷ w) (y ∷ l) = ap suc (length_over w l)

  -- a store right after w
  over_push : (w l : List A) (a : A) → set (over w l) (length w) a ≡ over (w ++ (a ∷ [])) l
  unfolding over
  over_push [] [] a = refl
  over_push [] (y ∷ l) a = refl
  over_push (x ∷ w) [] a = refl
  over_push (x ∷ w) (y ∷ l) a = ap (λ r. x ∷ r) (over_push w l a)

  -- v over the part that starts after w
  over_part : (w v l : List A) → take (length w) (over w l) ++ over v (drop (length w) (over w l)) ≡ over (w ++ v) l
  unfolding over
  over_part [] v l = refl
  over_part (x ∷ w) [] [] = refl
  over_part (x ∷ w) (z ∷ v) [] = refl
  over_part (x ∷ w) v (y ∷ l) = ap (λ r. x ∷ r) (over_part w v l)

  -- a part from n to the end that was lent, and came back with v over its front
  pub over_lent : (w v l l' : List A) (n k : ℕ) → l' ≡ over w l → n ≡ length w → k ≡ length l' - n
      → take n l' ++ (over v (take k (drop n l')) ++ drop k (drop n l')) ≡ over (w ++ v) l
  over_lent w v l l' n k e m h =
      let a : length (drop n l') ≤ k = omega (arith, length-drop n l') in
      rw (take_all k (drop n l') a, drop_of_length-le (drop n l') a, append-nil, e, m) (over_part w v l)

  length_snoc : (w : List A) (a : A) → length (w ++ (a ∷ [])) ≡ suc (length w)
  length_snoc w a = length-append w (a ∷ []) ∙ add-one (length w)

  over_sets : (w v l : List A) → sets (over w l) (length w) v ≡ over (w ++ v) l
  over_sets w [] l = ap (λ r. over r l) (sym (append-nil w))
  over_sets w (a ∷ v) l =
      rw (over_push w l a, ← (length_snoc w a)) (over_sets (w ++ (a ∷ [])) v l ∙ ap (λ r. over r l) (append_snoc w a v))

  -- stores one after the other from the front
  pub stores_over : (v l : List A) → sets l 0 v ≡ over v l
  unfolding over
  stores_over v l = over_sets [] v l
