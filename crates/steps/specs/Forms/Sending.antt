-- The tests of kinds 3 and 4 over a view, the slot x of the transaction and `since`, its parent's block.
-- Assumes nothing.
use Rattle.std.specs.Prelude.{ℕ, Bool, ◌&&◌, List}
use Rattle.laws.specs.Mask.{bit}
use Rattle.sheet.specs.Setup.{per_day}
use Rattle.sheet.specs.LockHeight.{lock_height}
use Rattle.slots.specs.declared.Slot.{Slot}
use Rattle.slots.specs.Forms.Expiring.{deadline_by}
use Rattle.slots.specs.Destination.{is_payee}
use Rattle.steps.specs.declared.View.{View}
use Rattle.steps.specs.Tests.{send_rule, pool_rule, miner_rule, passes_rule}
use Rattle.steps.specs.Forms.View.{sent_set, placed_set, sender_in}

-- what both share, against the set `members`, for a sender who has `have`
unfoldable pub send_tests_in : Bool → List ℕ → ℕ → ℕ → ℕ → ℕ → ℕ → ℕ → List (ℕ × Bool)
unfolding send_rule
send_tests_in allowed s d members have since mined t = send_rule allowed s (bit members) (lock_height s d (λ k. since) t) mined have t

-- kind 3
unfoldable pub pool_tests_in : Bool → List ℕ → List ℕ → View → Slot → ℕ → ℕ → ℕ → ℕ → List (ℕ × Bool)
unfolding pool_rule
pool_tests_in allowed s u v x since party t destination =
    pool_rule (send_tests_in allowed s (per_day u) (sent_set v) (sender_in s v x party destination) since v.mined t) v.mined
    (deadline_by s (per_day u) v.expiring since t)

-- kind 4
unfoldable pub miner_tests_in : Bool → List ℕ → List ℕ → View → Slot → ℕ → ℕ → ℕ → ℕ → List (ℕ × Bool)
unfolding miner_rule
miner_tests_in allowed s u v x since party t destination =
    miner_rule u (send_tests_in allowed s (per_day u) (placed_set v) (sender_in s v x party destination) since v.mined t)

-- a paying transaction that the party can send, by kind 3 or by kind 4, to itself
unfoldable pub pays_in : Bool → List ℕ → List ℕ → View → Slot → ℕ → ℕ → ℕ → Bool
unfolding passes_rule
pays_in allowed s u v x since party t =
    is_payee s t party && passes_rule (pool_tests_in allowed s u v x since party t party) (miner_tests_in allowed s u v x since party t party)
