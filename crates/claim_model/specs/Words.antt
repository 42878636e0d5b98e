-- Document 001's words, over a position.
-- Assumes nothing.
use Rattle.std.specs.Prelude.{ℕ, ◌+◌, Bool, false, not, ◌&&◌, ◌||◌, List, [], ◌∷◌, eqb}
use Rattle.laws.specs.Booleans.{pick}
use Rattle.laws.specs.Below.{any_below}
use Rattle.laws.specs.Gather.{every}
use Rattle.laws.specs.Mask.{bit}
use Rattle.sheet.specs.Field.{count}
use Rattle.slots.specs.Destination.{alice, bob, contract}
use Rattle.slots.specs.Invalidated.{invalidated}
use Rattle.steps.specs.Names.{sig_alice, sig_bob, secret_bob, lock_a, lock_b, spend_a, spend_b, spend_success, spend_refund1_alice, spend_revoke, spend_refund2, spend_timeout}
use Rattle.position.specs.declared.Position.{Position}
use Rattle.position.specs.Position.{is_confirmed, confirmed_to, shared, holds}
use Rattle.position.specs.FirstShares.{first_shares}
use Rattle.claim_careful.specs.Claim.{in_shared}

-- ---- phases
-- signature i is in shared knowledge for each of these transactions, which go to the contract
unfoldable pub all_shared : Position → ℕ → List ℕ → Bool
all_shared p i ids = every (λ t. bit (shared p t contract) i) ids

-- "Phase_1_cond": sig_alice on what Alice shares first, sig_bob on what Bob does: "∃ tx ∈ shared_knowledge : tx.id = id ∧ sigAlice ∈ tx.ss"
unfoldable pub both_shared : Position → Bool
both_shared p = all_shared p sig_alice (first_shares alice) && all_shared p sig_bob (first_shares bob)

-- "InPhase_0" to "InPhase_3", in this order: each with its own condition and without those of the later ones
unfoldable pub phases : Position → List Bool
phases p =
    (not (both_shared p) && (not (is_confirmed p lock_a) && not (is_confirmed p lock_b)))
    ∷ (both_shared p && (not (is_confirmed p lock_a) && not (is_confirmed p lock_b)))
    ∷ (is_confirmed p lock_a && not (is_confirmed p lock_b))
    ∷ is_confirmed p lock_b
    ∷ []

-- "Cardinality" of those that hold
unfoldable pub cardinality : List Bool → ℕ
cardinality [] = 0
cardinality (b ∷ l) = pick b 1 0 + cardinality l

-- ---- what is left to happen
-- "RemainingTransactions": neither confirmed nor invalidated
unfoldable pub remains : List ℕ → Position → ℕ → Bool
remains s p t = not (is_confirmed p t) && not (invalidated s (is_confirmed p) t)

-- "{} = RemainingTransactions"
unfoldable pub none_remains : List ℕ → Position → Bool
none_remains s p = not (any_below (count s) (remains s p))

-- ---- endings
-- "HasCustody(ids, participant)": one of these is confirmed, to this party
unfoldable pub has_custody : Position → List ℕ → ℕ → Bool
has_custody p [] party = false
has_custody p (t ∷ ids) party = (is_confirmed p t && eqb (confirmed_to p t) party) || has_custody p ids party

-- "SwapSuccessful"
unfoldable pub swap_successful : Position → Bool
swap_successful p =
    has_custody p (spend_b ∷ []) alice && has_custody p (spend_a ∷ spend_success ∷ spend_timeout ∷ spend_revoke ∷ []) bob

-- "SwapAborted"
unfoldable pub swap_aborted : Position → Bool
swap_aborted p = has_custody p (spend_a ∷ spend_refund1_alice ∷ spend_refund2 ∷ []) alice && has_custody p (spend_b ∷ []) bob

-- "SwapTimedOut": "Alice can't claim tx_spend_B on timeout"
unfoldable pub swap_timed_out : List ℕ → Position → Bool
swap_timed_out s p = is_confirmed p spend_timeout && (not (holds p alice secret_bob) && not (in_shared s p secret_bob))

-- "ContractFinished"
unfoldable pub contract_finished : List ℕ → Position → Bool
contract_finished s p = swap_successful p || (swap_aborted p || swap_timed_out s p)
