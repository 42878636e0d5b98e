-- A blank, or a byte of the text.
use Rattle.call_page.proofs.Columns.{at_blank, at_text}
use Rattle.call_page.proofs.line.aligned.Goals as goal

pub returns-then-i-before : goal.returns-then-i-before
returns-then-i-before c = at_blank _ _ _ c.if-i-before.true

pub returns : goal.returns
returns c = at_text _ _ _ c.if-i-before.false
