-- The lines before i.
use Rattle.laws.proofs.Prelude.{suc, Turns}
use Rattle.position.proofs.Rules.{reported_line}
use Rattle.call_page.specs.Line.{line}
use Rattle.call_page.specs.Page.{line_texts}
use Rattle.call_page.proofs.line.write_page.Given as goal

abbrev pub invariant-loop-i : goal.invariant-loop-i
invariant-loop-i l =
    Turns (λ j. line (line_texts (reported_line l.report) j)) (suc l.n) l.initial.out l.out l.at l.i
