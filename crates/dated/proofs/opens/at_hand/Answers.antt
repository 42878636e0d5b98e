-- A contract transaction, or a payee of a paying one.
use Rattle.dated.specs.Forms.Opens.{at_hand_in}
use Rattle.laws.proofs.Prelude.{sym, ◌∙◌, not-true, not-false}
use Rattle.dated.proofs.opens.at_hand.Goals as goal

pub returns-then-is_contract : goal.returns-then-is_contract
unfolding at_hand_in
returns-then-is_contract c = rw (sym c.is_contract.ensures ∙ c.if-is_contract.true, ← c.sender.ensures) c.signed.ensures

pub returns-then-not-is_payee : goal.returns-then-not-is_payee
unfolding at_hand_in
returns-then-not-is_payee c = rw (sym c.is_contract.ensures ∙ c.if-is_contract.false, sym c.is_payee.ensures ∙ not-true _ c.if-not-is_payee.true-raw)

pub returns : goal.returns
unfolding at_hand_in
returns c = rw (sym c.is_contract.ensures ∙ c.if-is_contract.false, sym c.is_payee.ensures ∙ not-false _ c.if-not-is_payee.false-raw, ← c.sender-2.ensures) c.signed-2.ensures
