-- A contract transaction goes to the contract, a paying one to the sender.
use Rattle.steps.specs.Decode.{sends_to}
use Rattle.laws.proofs.Prelude.{tests}
use Rattle.steps.proofs.decode.sends_to.Goals as goal

pub returns-then-is_contract : goal.returns-then-is_contract
unfolding sends_to
returns-then-is_contract c = simp (← c.is_contract.ensures, c.if-is_contract.true)

pub returns-then-destination-party : goal.returns-then-destination-party
unfolding sends_to
returns-then-destination-party c = simp (tests, ← c.is_contract.ensures, c.if-is_contract.false, c.if-destination-party.true, ← c.is_payee.ensures)

pub returns : goal.returns
unfolding sends_to
returns c = simp (tests, ← c.is_contract.ensures, c.if-is_contract.false, c.if-destination-party.false)
