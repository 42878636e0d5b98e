-- By the slot of each.
use Rattle.std.proofs.Common.{rules, tests}
use Rattle.laws.specs.Calls.{set_of}
use Rattle.slots.specs.Slot.{standing}
use Rattle.position.specs.Position.{slot, in_block}
use Rattle.settle.proofs.block.entries.Goals as goal

pub returns : goal.returns
unfolding in_block slot standing
returns c = rw (← c.count.ensures.is) (set_of _ _ _ _ (search rules) c.below.ensures (λ k b l e. search (rules, tests)))
