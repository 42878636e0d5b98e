-- The view of a position: what the tests read off it.
-- Assumes nothing.
use Rattle.std.specs.Prelude.{ℕ, List}
use Rattle.laws.specs.Mask.{union_below}
use Rattle.laws.specs.Sets.{set_below}
use Rattle.slots.specs.Slot.{shared_any}
use Rattle.slots.specs.Forms.Expiring.{expiring_set}
use Rattle.steps.specs.declared.View.{View}
use Rattle.steps.specs.Forms.Parent.{slot_above, block_above}
use Rattle.position.specs.declared.Position.{Position}
use Rattle.position.specs.Position.{slot, in_pool, in_block, is_confirmed}

-- of the transactions below n, and those of the sheet that can have a deadline
unfoldable pub view_below : List ℕ → ℕ → Position → View
view_below s n p =
    record {
      pool = set_below n (in_pool p);
      block = set_below n (in_block p);
      confirmed = set_below n (is_confirmed p);
      expiring = expiring_set s;
      mined = p.mined;
      shared = union_below n (λ k. shared_any (slot p k));
      keys = p.keys;
    }

-- the parent's block, as a loop over the slots reads it
unfoldable pub since_in : List ℕ → Position → ℕ → ℕ
since_in s p t = block_above s t (slot p (slot_above s t)).height
