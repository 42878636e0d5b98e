-- The counts of the transactions before t are noted.
use Rattle.dated.specs.Dated.{first_open}
use Rattle.laws.proofs.Prelude.{rewrite_first, ◌≡◌}
use Rattle.dated.proofs.noted.Given as goal

abbrev pub invariant-loop-t : goal.invariant-loop-t
invariant-loop-t l = l.counts ≡ rewrite_first l.t (first_open l.sheet.bytes l.setup l.position) l.initial.counts
