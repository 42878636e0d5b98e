-- What is written and what is left to write come to the whole.
use Rattle.output.proofs.Writing.{Writing}
use Rattle.claim_history.proofs.Writing.{bytes_from, bytes_all}
use Rattle.claim_history.proofs.write.write_accepted.Given as goal

abbrev pub invariant-loop-k : goal.invariant-loop-k
invariant-loop-k l =
    Writing (bytes_from l.sheet.bytes l.setup l.steps) (bytes_all l.sheet.bytes l.setup l.steps) l.initial.out l.out l.here l.at l.k
