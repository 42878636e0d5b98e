-- Lists of a list's elements, end to end: where each stands.
-- Assumes nothing.
use Rattle.laws.proofs.Prelude.{ℕ, zero, suc, ◌*◌, ◌≤◌, ◌<◌, ◌≡◌, refl, sym, ap, ◌∙◌, List, [], ◌∷◌, ◌++◌, append_assoc, append-nil, length, get_or, take, drop}
use Rattle.laws.proofs.Prelude.{length-append, arith, not-suc-le-zero, le_of_suc-le-suc, flat_map, All, also, gather, sum_below}
use native.Mathlib.Nat.{mul-zero, mul-suc}
use lib.Seq.{take-append_seam, drop-append-add}
use Rattle.laws.specs.Gather.{gather_none}
use Rattle.laws.specs.Sum.{sum_front}

module _ {A : Type 0} (f : A → List ℕ) (d : A) where
  -- the element at place i, whatever follows
  pub flat_part : (l : List A) (i : ℕ) (r : List ℕ) → i < length l
      → take (length (f (get_or l i d))) (drop (length (flat_map f (take i l))) (flat_map f l ++ r)) ≡ f (get_or l i d)
  unfolding flat_map
  flat_part [] i r h = absurd (not-suc-le-zero h)
  flat_part (x ∷ l) zero r h = rw (append_assoc (f x) (flat_map f l) r) (take-append_seam (f x) (flat_map f l ++ r))
  flat_part (x ∷ l) (suc i) r h =
      rw (length-append (f x) (flat_map f (take i l)), append_assoc (f x) (flat_map f l) r, drop-append-add (f x) (flat_map f l ++ r) (length (flat_map f (take i l))))
      (flat_part l i r (le_of_suc-le-suc h))

  -- the lengths of the first i
  pub flat_sum : (l : List A) (i : ℕ) → i ≤ length l → sum_below i (λ k. length (f (get_or l k d))) ≡ length (flat_map f (take i l))
  unfolding flat_map sum_below
  flat_sum l zero h = refl
  flat_sum [] (suc i) h = absurd (not-suc-le-zero h)
  flat_sum (x ∷ l) (suc i) h =
      sum_front i (λ k. length (f (get_or (x ∷ l) k d)))
      ∙ omega (arith, flat_sum l i (le_of_suc-le-suc h), length-append (f x) (flat_map f (take i l)))

  -- lists of one width
  pub flat_width : (w : ℕ) (l : List A) (i : ℕ) → All (λ x. length (f x) ≡ w) l → i ≤ length l → length (flat_map f (take i l)) ≡ w * i
  unfolding flat_map
  flat_width w l zero a h = sym (mul-zero w)
  flat_width w [] (suc i) a h = absurd (not-suc-le-zero h)
  flat_width w (x ∷ l) (suc i) (also e a) h =
      omega (arith, length-append (f x) (flat_map f (take i l)), e, flat_width w l i a (le_of_suc-le-suc h), mul-suc w i)

gather_front : (n : ℕ) (g : ℕ → List ℕ) → gather (suc n) g ≡ g 0 ++ gather n (λ k. g (suc k))
unfolding gather
gather_front zero g = sym (append-nil (g 0))
gather_front (suc n) g = ap (λ r. r ++ g (suc n)) (gather_front n g) ∙ append_assoc (g 0) (gather n (λ k. g (suc k))) (g (suc n))

-- made by place
pub gather_flat : {A : Type 0} (f : A → List ℕ) (d : A) (l : List A) (g : ℕ → List ℕ) → ((k : ℕ) → k < length l → g k ≡ f (get_or l k d)) → gather (length l) g ≡ flat_map f l
unfolding flat_map
gather_flat f d [] g h = gather_none g
gather_flat f d (x ∷ l) g h =
    gather_front (length l) g ∙ rw (h 0 (omega arith), gather_flat f d l (λ k. g (suc k)) (λ k m. h (suc k) (omega arith)))
