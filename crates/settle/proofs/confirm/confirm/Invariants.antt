-- The members that were gone through are rewritten.
use Rattle.slots.proofs.Walks.{Walked}
use Rattle.position.proofs.Rewriting.{Rewritten}
use Rattle.settle.specs.Forms.Thrown.{confirm_in}
use Rattle.settle.proofs.confirm.confirm.Given as goal

abbrev pub invariant-loop-t : goal.invariant-loop-t
invariant-loop-t l =
    Walked l.members l.n (λ t. Rewritten (confirm_in l.sheet.bytes l.block l.members) t l.initial.position l.position) l.t-iterator.left
