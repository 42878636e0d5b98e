-- What a mined block makes of its entries.
-- Assumes nothing.
use Rattle.std.specs.Prelude.{ℕ, List}
use Rattle.laws.specs.Booleans.{pick}
use Rattle.slots.specs.declared.Slot.{Slot}
use Rattle.slots.specs.Slot.{standing, entry_to, with_block, with_confirmed, with_shared}
use Rattle.slots.specs.Signatures.{exposed_mask}

-- "the block is confirmed and its entries shared as in 3": a block entry is confirmed in block b, and out of the block being filled
unfoldable pub confirm_entry : List ℕ → ℕ → ℕ → Slot → Slot
confirm_entry s b t x =
    pick (standing x.block)
    (with_block 0 (with_confirmed x.block b (with_shared (entry_to x.block) (exposed_mask s t) x)))
    x
