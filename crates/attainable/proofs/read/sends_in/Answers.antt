-- A contract transaction for the contract, a paying one for the party.
use Rattle.laws.proofs.Prelude.{tests}
use Rattle.attainable.specs.Forms.Others.{sends_in}
use Rattle.attainable.proofs.read.sends_in.Goals as goal

pub returns-then-is_contract : goal.returns-then-is_contract
unfolding sends_in
returns-then-is_contract c = simp (← c.is_contract.ensures, c.if-is_contract.true)

pub returns-then-party-off : goal.returns-then-party-off
unfolding sends_in
returns-then-party-off c = simp (tests, ← c.is_contract.ensures, c.if-is_contract.false, c.if-party-off.true)

pub returns-then-party-ge4 : goal.returns-then-party-ge4
unfolding sends_in
returns-then-party-ge4 c = simp (tests, ← c.is_contract.ensures, c.if-is_contract.false, c.if-party-off.false, c.if-party-ge4.true)

pub returns : goal.returns
unfolding sends_in
returns c = simp (tests, ← c.is_contract.ensures, c.if-is_contract.false, c.if-party-off.false, c.if-party-ge4.false, c.is_payee.ensures)
