-- By the secrets of each.
use Rattle.laws.proofs.Prelude.{rules}
use Rattle.soonest.proofs.Tables.{filled_of}
use Rattle.attainable.specs.Attainable.{secrets_of}
use Rattle.attainable.proofs.read.shows.Goals as goal

pub returns : goal.returns
unfolding secrets_of
returns c = rw (← c.count.ensures.is) (filled_of _ _ _ _ c.filled.ensures (λ k v l e. search rules))
