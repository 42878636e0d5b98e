-- The tests of each kind of step whose fields are right: the rules of the specs of steps, for what a position holds.
-- Those of kinds 1 to 4 take what conduct says of the step.
-- Assumes nothing.
use Rattle.std.specs.Prelude.{ℕ, Bool, List}
use Rattle.laws.specs.Below.{any_below}
use Rattle.sheet.specs.Field.{count}
use Rattle.slots.specs.Signatures.{share_mask}
use Rattle.steps.specs.Tests.{conduct_rule, share_met_rule, share_new_rule, give_met_rule, send_rule, pool_rule, miner_rule, include_rule, block_met_rule, mine_rule, bump_rule}
pub use Rattle.steps.specs.Tests.{block_limit}
use Rattle.position.specs.declared.Position.{Position}
use Rattle.position.specs.Position.{in_pool, in_block, is_confirmed, sent, placed, keys, holds, marked, sender_has, lock_height_in, deadline_in}
use Rattle.position.specs.FirstShares.{first_shares_made}
use Rattle.position.specs.Owed.{owed, any_owed}

-- a share of t, or of the first shares, is new and not empty
unfoldable pub share_met : List ℕ → Position → ℕ → ℕ → ℕ → Bool
unfolding share_new_rule share_met_rule
share_met s p party t destination =
    share_new_rule t (first_shares_made p party) (share_met_rule (marked p party t destination) (share_mask s (keys p party) t))

-- 1 Share
unfoldable pub share_tests : Bool → List ℕ → Position → ℕ → ℕ → ℕ → List (ℕ × Bool)
unfolding conduct_rule
share_tests allowed s p party t destination = conduct_rule allowed (share_met s p party t destination)

-- the giver holds it, the receiver doesn't
unfoldable pub give_met : Position → ℕ → ℕ → ℕ → Bool
unfolding give_met_rule
give_met p party i receiver = give_met_rule (holds p party i) (holds p receiver i)

-- 2 Give
unfoldable pub give_tests : Bool → Position → ℕ → ℕ → ℕ → List (ℕ × Bool)
unfolding conduct_rule
give_tests allowed p party i receiver = conduct_rule allowed (give_met p party i receiver)

-- what kinds 3 and 4 share, against a set of transactions
unfoldable pub send_tests : Bool → List ℕ → List ℕ → Position → (ℕ → Bool) → ℕ → ℕ → ℕ → List (ℕ × Bool)
unfolding send_rule
send_tests allowed s u p members party t destination =
    send_rule allowed s members (lock_height_in s u p t) p.mined (sender_has s p party t destination) t

-- 3 Send to pool
unfoldable pub pool_tests : Bool → List ℕ → List ℕ → Position → ℕ → ℕ → ℕ → List (ℕ × Bool)
unfolding pool_rule
pool_tests allowed s u p party t destination = pool_rule (send_tests allowed s u p (sent p) party t destination) p.mined (deadline_in s u p t)

-- 4 Hand to miner
unfoldable pub miner_tests : Bool → List ℕ → List ℕ → Position → ℕ → ℕ → ℕ → List (ℕ × Bool)
unfolding miner_rule
miner_tests allowed s u p party t destination = miner_rule u (send_tests allowed s u p (placed p) party t destination)

-- 5 Include
unfoldable pub include_tests : List ℕ → List ℕ → Position → ℕ → List (ℕ × Bool)
unfolding include_rule
include_tests s u p t = include_rule s (placed p) (in_pool p t) (any_owed s u p) t

-- the block being filled has an entry, or transaction 0 is confirmed
unfoldable pub block_met : List ℕ → Position → Bool
block_met s p = block_met_rule (any_below (count s) (in_block p)) (is_confirmed p 0)

-- 6 Mine
unfoldable pub mine_tests : List ℕ → List ℕ → Position → List (ℕ × Bool)
unfolding mine_rule
mine_tests s u p = mine_rule (any_owed s u p) (block_met s p) p.mined

-- 7 Bump
unfoldable pub bump_tests : List ℕ → List ℕ → Position → ℕ → List (ℕ × Bool)
unfolding bump_rule
bump_tests s u p t = bump_rule (owed s u p t)
