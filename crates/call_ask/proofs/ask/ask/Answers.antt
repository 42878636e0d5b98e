-- Refused with the journal, or the step tried.
use Rattle.call_ask.proofs.Opens.{opened_fit}
use Rattle.call_ask.proofs.Asks.{ask_refused, ask_passed}
use Rattle.call_ask.proofs.ask.ask.Goals as goal

pub returns-then-ran-ne0 : goal.returns-then-ran-ne0
returns-then-ran-ne0 c = ask_refused _ _ _ _ _ _ c.length_right-right.ensures c.open_run-ran.ensures c.if-ran-ne0.true

pub of-requires : goal.of-requires
of-requires c = (opened_fit _ _ _ _ _ c.open_run-ran.ensures c.if-ran-ne0.false).checked.sized

pub step_number-requires : goal.step_number-requires
step_number-requires c = rw c.of.ensures (opened_fit _ _ _ _ _ c.open_run-ran.ensures c.if-ran-ne0.false)

pub returns : goal.returns
returns c = ask_passed _ _ _ _ _ _ c.length_right-right.ensures c.open_run-ran.ensures _ c.if-ran-ne0.false (rw c.of.ensures at c.step_number.ensures)
