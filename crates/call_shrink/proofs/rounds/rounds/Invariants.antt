-- What the steps that are left shrink to is the whole.
use Rattle.laws.proofs.Prelude.{◌*◌, take}
use Rattle.position.specs.Play.{journal_steps}
use Rattle.call_shrink.specs.Shrink.{shrunk}
use Rattle.call_shrink.proofs.Repeating.{Going}
use Rattle.call_shrink.proofs.rounds.rounds.Given as goal

abbrev pub invariant-loop-left : goal.invariant-loop-left
invariant-loop-left l =
    Going l.sheet.bytes l.setup l.number (shrunk l.sheet.bytes l.setup l.number (journal_steps (take (4 * l.n) l.initial.part))) l.initial.part l.initial.spare l.part l.spare l.left

abbrev pub decreases-loop-left : goal.decreases-loop-left
decreases-loop-left l =
    l.left
