-- What is written and what is left to write come to the whole.
use Rattle.output.proofs.Writing.{Writing}
use Rattle.call_shrink.proofs.Writing.{bytes_from, bytes_all}
use Rattle.call_shrink.proofs.Twins.{Twins}
use Rattle.call_shrink.proofs.LostRows.{Losing}
use Rattle.call_shrink.proofs.round.write_round.Given as goal

abbrev pub invariant-loop-k : goal.invariant-loop-k
invariant-loop-k l =
    Writing (bytes_from l.sheet.bytes l.setup l.number l.steps) (bytes_all l.sheet.bytes l.setup l.number l.steps) l.initial.out l.out l.here l.at l.k × Twins l.sheet.bytes l.setup l.number l.steps l.here l.went l.k × Losing l.sheet.bytes l.setup l.number l.steps l.lost l.k
