-- The tests of the kinds of step over what they read: sets as tests of their members, heights, blocks mined, what a sender has. A position
-- supplies it in the specs of position, a view in Forms. They go by rising refusal number but for kinds 3 and 4, where 17 stands before 16.
-- Assumes nothing.
use Rattle.std.specs.Prelude.{ℕ, ◌+◌, Bool, not, ◌&&◌, ◌||◌, List, [], ◌∷◌, ◌++◌, eqb, ltb, leb}
use Rattle.laws.specs.Booleans.{pick}
use Rattle.laws.specs.Failing.{first_failing}
use Rattle.sheet.specs.Refusal.{accepted, step_stealth, step_conduct, step_conflict, step_parent, step_signatures, step_lock, step_deadline, step_pool}
use Rattle.sheet.specs.Refusal.{step_bump_owed, step_not_owed, step_empty_block, step_blocks}
use Rattle.sheet.specs.Setup.{stealth}
use Rattle.slots.specs.Conflict.{no_conflict}
use Rattle.slots.specs.Ancestry.{has_parent}
use Rattle.slots.specs.Signatures.{signed}
use Rattle.steps.specs.Decode.{no_transaction}

-- 13 "conduct, or kind 1 or 2 unmet"
unfoldable pub conduct_rule : Bool → Bool → List (ℕ × Bool)
conduct_rule allowed met = (step_conduct, allowed && met) ∷ []

-- 1 "Refused if this party has shared this before for this destination, or the set is empty.": a party with this mark or none, and this set
unfoldable pub share_met_rule : Bool → ℕ → Bool
share_met_rule marked mask = not marked && not (eqb mask 0)

-- 255: refused if its first shares are made; else as above
unfoldable pub share_new_rule : ℕ → Bool → Bool → Bool
share_new_rule t made met = pick (eqb t no_transaction) (not made) met

-- 2 "giver holds it, receiver (the destination, the other party) doesn't"
unfoldable pub give_met_rule : Bool → Bool → Bool
give_met_rule giver receiver = giver && not receiver

-- what kinds 3 and 4 share, against a set, for a sender who has `have`: "no rival .., parent there, signatures, lock height ≤ blocks mined";
-- Slip 3: "The lock is now tested first.", before the signatures
unfoldable pub send_rule : Bool → List ℕ → (ℕ → Bool) → ℕ → ℕ → ℕ → ℕ → List (ℕ × Bool)
send_rule allowed s members lock mined have t =
    (step_conduct, allowed)
    ∷ (step_conflict, no_conflict s members t)
    ∷ (step_parent, has_parent s members t)
    ∷ (step_lock, leb lock mined)
    ∷ (step_signatures, signed s have t)
    ∷ []

-- 3 "Send to pool: no rival in pool or confirmed, parent there, signatures, lock height ≤ blocks mined, blocks mined < deadline.": the deadline behind
-- what both share
unfoldable pub pool_rule : List (ℕ × Bool) → ℕ → ℕ → List (ℕ × Bool)
pool_rule shared mined deadline = shared ++ ((step_deadline, ltb mined deadline) ∷ [])

-- 4 "Hand to miner: the same against confirmed and the block being filled, no deadline"; 12 "kind 4, stealth 0"
unfoldable pub miner_rule : List ℕ → List (ℕ × Bool) → List (ℕ × Bool)
miner_rule u shared = (step_stealth, eqb (stealth u) 1) ∷ shared

-- a send "would pass all these rules": by kind 3 or by kind 4
unfoldable pub passes_rule : List (ℕ × Bool) → List (ℕ × Bool) → Bool
passes_rule pool miner = eqb (first_failing pool) accepted || eqb (first_failing miner) accepted

-- "a pool entry is outside the block"
unfoldable pub waiting_rule : Bool → Bool → Bool
waiting_rule pool block = pool && not block

-- "Bump: owed when a pool entry is outside the block and blocks mined + 1 is its deadline.": one that waits so
unfoldable pub owed_rule : Bool → ℕ → ℕ → Bool
owed_rule waits mined deadline = waits && eqb (mined + 1) deadline

-- 5 "Include: a pool entry, no rival confirmed or in the block, parent confirmed or in the block.": where `owed` says that some bump is
unfoldable pub include_rule : List ℕ → (ℕ → Bool) → Bool → Bool → ℕ → List (ℕ × Bool)
include_rule s members pool owed t =
    (step_conflict, no_conflict s members t)
    ∷ (step_parent, has_parent s members t)
    ∷ (step_pool, pool)
    ∷ (step_bump_owed, not owed)
    ∷ []

-- "An empty block needs transaction 0 confirmed."
abbrev pub block_met_rule : Bool → Bool → Bool
block_met_rule entries first = entries || first

-- 23 "10,000 blocks mined"
abbrev pub block_limit : ℕ
block_limit = 10000

-- 6 Mine
unfoldable pub mine_rule : Bool → Bool → ℕ → List (ℕ × Bool)
mine_rule owed met mined = (step_bump_owed, not owed) ∷ (step_empty_block, met) ∷ (step_blocks, ltb mined block_limit) ∷ []

-- 7 "Where several are owed, here, any of them may be named."
unfoldable pub bump_rule : Bool → List (ℕ × Bool)
bump_rule owed = (step_not_owed, owed) ∷ []
