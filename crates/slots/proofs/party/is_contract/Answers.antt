-- A contract transaction has no payee.
use Rattle.slots.specs.Destination.{is_contract}
use Rattle.slots.proofs.party.is_contract.Goals as goal

pub returns : goal.returns
unfolding is_contract
returns c = rw c.payees.ensures
