-- The column, byte by byte.
use Rattle.laws.proofs.Prelude.{arith}
use Rattle.output.proofs.Writing.{copied_none}
use Rattle.call_page.proofs.Columns.{column_end, column_turn, column_done}
use Rattle.call_page.proofs.line.write_text.Goals as goal

pub loop-i-init : goal.loop-i-init
loop-i-init c = copied_none _ _

pub bounds-out-i : goal.bounds-out-i
bounds-out-i c = omega (arith, c.requires, c.loop-i.invariant.long, column_end c.args.width c.args.text.now _ c.saturating_sub-before.ensures)

pub loop-i-preserved : goal.loop-i-preserved
loop-i-preserved c = column_turn _ _ _ c.saturating_sub-before.ensures _ _ _ _ c.loop-i.invariant c.loop-i-test.true c.aligned.ensures

pub shape_of-out : goal.shape_of-out
shape_of-out c = c.loop-i.invariant.long

pub returns : goal.returns
returns c = record { value = column_end _ _ _ c.saturating_sub-before.ensures; out_after = column_done _ _ _ c.saturating_sub-before.ensures _ _ _ c.loop-i.invariant c.loop-i-test.false }
