-- What was written, and what stands behind it, are the bytes over the front.
use Rattle.laws.proofs.Prelude.{ℕ, ◌≤◌, ◌≡◌, refl, ap, List, [], ◌∷◌, ◌++◌, length, drop, not-suc-le-zero, le_of_suc-le-suc, over}
use Rattle.call_shrink.proofs.rounds.copy.Goals as goal

front_over : (w l : List ℕ) → length w ≤ length l → w ++ drop (length w) l ≡ over w l
unfolding over
front_over [] l h = refl
front_over (x ∷ w) [] h = absurd (not-suc-le-zero h)
front_over (x ∷ w) (y ∷ l) h = ap (λ r. x ∷ r) (front_over w l (le_of_suc-le-suc h))

pub returns : goal.returns
returns c = rw c.copy_from_slice.ensures.after (front_over _ _ c.requires)
