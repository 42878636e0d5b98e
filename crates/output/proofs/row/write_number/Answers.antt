-- The bytes of the number, and what stands behind them.
use Rattle.laws.proofs.Prelude.{bytes_of, ℕ, ◌/◌, ◌%◌, ◌≤◌, ◌≡◌, refl, ap, List, [], ◌∷◌, ◌++◌, length, drop, not-suc-le-zero, le_of_suc-le-suc, over, arith}
use Rattle.output.proofs.row.write_number.Goals as goal

front_over : (w l : List ℕ) → length w ≤ length l → w ++ drop (length w) l ≡ over w l
unfolding over
front_over [] l h = refl
front_over (x ∷ w) [] h = absurd (not-suc-le-zero h)
front_over (x ∷ w) (y ∷ l) h = ap (λ r. x ∷ r) (front_over w l (le_of_suc-le-suc h))

four : (x : ℕ) → x % 256 ∷ x / 256 % 256 ∷ x / 65536 % 256 ∷ x / 16777216 % 256 ∷ [] ≡ bytes_of 4 x
unfolding bytes_of
four x =
    let two : x / 65536 ≡ x / 256 / 256 = omega arith in
    let three : x / 16777216 ≡ x / 256 / 256 / 256 = omega arith in
    rw (two, three) refl

pub returns : goal.returns
returns c = rw (c.copy_from_slice.ensures.after, c.to_le_bytes.ensures, ← (four c.args.x)) (front_over _ _ c.requires)
