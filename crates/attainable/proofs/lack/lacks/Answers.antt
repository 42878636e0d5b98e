-- By what is lacking of each.
use Rattle.laws.proofs.Prelude.{rules}
use Rattle.position.proofs.Rules.{slot}
use Rattle.soonest.proofs.Tables.{filled_of}
use Rattle.attainable.proofs.lack.lacks.Goals as goal

pub returns : goal.returns
unfolding slot
returns c = rw (← c.count.ensures.is) (filled_of _ _ _ _ c.filled.ensures (λ k v l e. search rules))
