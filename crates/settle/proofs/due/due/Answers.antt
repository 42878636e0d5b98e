-- By what each of them is.
use Rattle.laws.proofs.Prelude.{rules}
use Rattle.laws.specs.Calls.{set_of}
use Rattle.settle.proofs.due.due.Goals as goal

pub returns : goal.returns
returns c = rw (← c.count.ensures.is) (set_of _ _ _ _ (search rules) c.below.ensures (λ k b l e. search rules))
