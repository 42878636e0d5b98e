-- The members that were gone through are rewritten; then the blocks mined.
use Rattle.slots.proofs.Walks.{Walked}
use Rattle.position.proofs.Rewriting.{Rewritten}
use Rattle.steps.specs.Forms.Blocks.{mined_slot}
use Rattle.position.proofs.Position.after_entries.Given as goal

abbrev pub invariant-loop-t : goal.invariant-loop-t
invariant-loop-t l =
    Walked l.members l.n (λ t. Rewritten (mined_slot l.sheet.bytes l.block l.view.block l.leaving) t l.initial.self l.self) l.t-iterator.left
