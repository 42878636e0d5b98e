-- The offset's three cases are document 01's difference, and small.
-- Assumes nothing.
use Rattle.laws.proofs.Prelude.{ℕ, ◌≤◌, ◌≡◌, eqb, lit≤, eqb-true, eqb-false, arith, split}
use Rattle.sheet.specs.Saswap.{offset, offset_by_difference}

pub offset_difference : (d : ℕ) → 1 ≤ d → offset d ≡ offset_by_difference d
unfolding offset offset_by_difference
offset_difference d h =
    split (eqb d 1)
    (λ e. let z = eqb-true d 1 e in rw e (omega arith))
    (λ e.
    let y = eqb-false d 1 e in
    split (eqb d 2)
    (λ f. let z = eqb-true d 2 f in rw (e, f) (omega arith))
    (λ f. let z = eqb-false d 2 f in rw (e, f) (omega arith)))

pub offset_small : (d : ℕ) → offset d ≤ 2
unfolding offset
offset_small d =
    split (eqb d 1) (λ e. rw e (lit≤ tt)) (λ e. split (eqb d 2) (λ f. rw (e, f) (lit≤ tt)) (λ f. rw (e, f) (lit≤ tt)))

-- of a number that is one
pub offset_bound : (r d : ℕ) → r ≡ offset d → r ≤ 2
offset_bound r d e = rw e (offset_small d)
