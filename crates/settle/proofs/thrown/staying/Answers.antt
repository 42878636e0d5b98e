-- By what each of them is.
use Rattle.std.proofs.Common.{rules, tests}
use Rattle.laws.specs.Calls.{set_of}
use Rattle.settle.specs.Forms.Thrown.{stays_in}
use Rattle.settle.proofs.thrown.staying.Goals as goal

pub returns : goal.returns
unfolding stays_in
returns c = rw (← c.count.ensures.is) (set_of _ _ _ _ (search rules) c.below.ensures (λ k b l e. search (rules, tests)))
