-- By what is lacking of each.
use Rattle.laws.proofs.Prelude.{rules}
use Rattle.laws.specs.Calls.{set_of}
use Rattle.attainable.specs.Forms.Round.{signs_in, signers}
use Rattle.attainable.proofs.round.signers.Goals as goal

pub returns : goal.returns
unfolding signs_in signers
returns c = rw (← c.count.ensures.is) (set_of _ _ _ _ (search rules) c.below.ensures (λ k b l e. search rules))
