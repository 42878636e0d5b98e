-- A contract transaction has no payee; a party is one or not.
use Rattle.sheet.proofs.Parties.{party_past}
use Rattle.endings.proofs.Naming.{payee_party}
use Rattle.steps.specs.Decode.{shares_to}
use Rattle.endings.proofs.ending.pays.Goals as goal

pub returns-then-is_contract : goal.returns-then-is_contract
unfolding shares_to
returns-then-is_contract c = simp (← c.is_contract.ensures, c.if-is_contract.true)

pub returns-then-to-lt4 : goal.returns-then-to-lt4
unfolding shares_to
returns-then-to-lt4 c = rw (← c.is_contract.ensures, c.if-is_contract.false, payee_party) c.is_payee.ensures

pub returns : goal.returns
unfolding shares_to
returns c = rw (← c.is_contract.ensures, c.if-is_contract.false, party_past _ _ c.if-to-lt4.false)
