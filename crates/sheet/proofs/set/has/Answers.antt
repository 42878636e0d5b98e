-- The bit at t, shifted down.
use Rattle.laws.proofs.Prelude.{bit, ◌/◌, ◌^◌, ap, eqb, and_mask}
use Rattle.sheet.proofs.set.has.Goals as goal

pub returns : goal.returns
unfolding bit
returns c = ap (λ x. eqb x 1) (and_mask (c.args.set / 2 ^ c.args.t) 1)
