-- A twin, or the position of the row that is lost.
use Rattle.laws.proofs.Prelude.{refl, inl, inr, clash}
use Rattle.call_shrink.proofs.LostRows.{meets_found}
use Rattle.call_shrink.proofs.round.stays.Goals as goal

pub returns-then-twin : goal.returns-then-twin
returns-then-twin c = λ e. inl c.if-twin.true

pub returns-then-kind-ne6 : goal.returns-then-kind-ne6
returns-then-kind-ne6 c e = clash e refl

pub returns-then-ran-ne0 : goal.returns-then-ran-ne0
returns-then-ran-ne0 c e = clash e refl

pub returns : goal.returns
returns c = λ e. inr (meets_found _ _ _ _ _ _ _ c.run_from-ran.ensures c.in-Some.is c.if-ran-ne0.false (c.same.ensures e))
