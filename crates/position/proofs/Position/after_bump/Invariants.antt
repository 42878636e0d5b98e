-- The members that were gone through are rewritten.
use Rattle.slots.proofs.Walks.{Walked}
use Rattle.position.proofs.Rewriting.{Rewritten}
use Rattle.steps.specs.Forms.Blocks.{bumped_slot}
use Rattle.position.proofs.Position.after_bump.Given as goal

abbrev pub invariant-loop-k : goal.invariant-loop-k
invariant-loop-k l =
    Walked l.members l.n (λ k. Rewritten (bumped_slot l.sheet.bytes l.entering l.leaving) k l.initial.self l.self) l.k-iterator.left
