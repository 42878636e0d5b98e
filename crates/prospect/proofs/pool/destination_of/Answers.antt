-- The contract, or the party.
use Rattle.slack.specs.Beaten.{destination_of}
use Rattle.prospect.proofs.pool.destination_of.Goals as goal

pub returns-then-is_contract : goal.returns-then-is_contract
unfolding destination_of
returns-then-is_contract c = simp (← c.is_contract.ensures, c.if-is_contract.true)

pub returns : goal.returns
unfolding destination_of
returns c = simp (← c.is_contract.ensures, c.if-is_contract.false)
