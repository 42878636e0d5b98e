-- The condition of kind 1 over the slot x of the transaction, for a party that holds `held`.
-- Assumes nothing.
use Rattle.std.specs.Prelude.{ℕ, Bool, List}
use Rattle.slots.specs.declared.Slot.{Slot}
use Rattle.slots.specs.Slot.{marked_for}
use Rattle.slots.specs.Signatures.{share_mask}
use Rattle.steps.specs.Tests.{share_met_rule}

unfoldable pub share_met_in : List ℕ → ℕ → Slot → ℕ → ℕ → ℕ → Bool
unfolding share_met_rule
share_met_in s held x party t destination = share_met_rule (marked_for x party destination) (share_mask s held t)
