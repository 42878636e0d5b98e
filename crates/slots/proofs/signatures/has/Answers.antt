-- The bit at i, shifted down.
use Rattle.laws.proofs.Prelude.{bit, ◌/◌, ◌^◌, ap, eqb, and_mask}
use Rattle.slots.proofs.signatures.has.Goals as goal

pub returns : goal.returns
unfolding bit
returns c = ap (λ x. eqb x 1) (and_mask (c.args.mask / 2 ^ c.args.i) 1)
