-- What is left to do from each group on comes to the whole.
use Rattle.claim_history.proofs.Playing.{Playing}
use Rattle.claim_history.proofs.play.play_steps.Given as goal

abbrev pub invariant-loop-k : goal.invariant-loop-k
invariant-loop-k l =
    Playing l.sheet.bytes l.setup l.steps l.played l.k
