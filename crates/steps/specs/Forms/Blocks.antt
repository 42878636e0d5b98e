-- A mined block and a bump over sets: what they make of a slot, where `entering` has those that enter the chain or the block, and `leaving`
-- those with a rival among them, another one for a mined block.
-- Assumes nothing.
use Rattle.std.specs.Prelude.{ℕ, ◌<◌, ◌≡◌, Bool, true, false, not, ◌&&◌, ◌||◌, List, eqb, get_or}
use Rattle.std.specs.Int.Bits.{bit_or}
use Rattle.laws.specs.Booleans.{pick}
use Rattle.laws.specs.Mask.{bit}
use Rattle.laws.specs.Sets.{set_below}
use Rattle.sheet.specs.Field.{count}
use Rattle.slots.specs.declared.Slot.{Slot}
use Rattle.slots.specs.Slot.{empty_slot, with_pool, with_block}
use Rattle.slots.specs.Ancestry.{in_ancestry}
use Rattle.slots.specs.Forms.Conflict.{found_in}
use Rattle.steps.specs.declared.View.{View}
use Rattle.steps.specs.Mined.{confirm_entry}

-- those with another rival among the block's entries; none where the whole pool is in the block, since there nobody else leaves
unfoldable pub conflicted_in : List ℕ → View → ℕ
conflicted_in s v = pick (eqb (bit_or v.pool v.block) v.block) 0 (set_below (count s) (found_in s (bit v.block) true))

-- the slots that a mined block may change: its entries', and where somebody is conflicted those of what waits too
unfoldable pub affected_in : View → ℕ → ℕ
affected_in v leaving = pick (eqb leaving 0) v.block (bit_or v.pool v.block)

-- confirmed in block b if it was in the block, out of the pool if it enters the chain or its line meets the set
unfoldable pub mined_slot : List ℕ → ℕ → ℕ → ℕ → ℕ → Slot → Slot
mined_slot s b entering leaving t x = pick (bit entering t || in_ancestry s (bit leaving) t) (with_pool 0 (confirm_entry s b t x)) (confirm_entry s b t x)

-- into the block if it enters, out of it if its line meets the set
unfoldable pub bumped_slot : List ℕ → ℕ → ℕ → ℕ → Slot → Slot
bumped_slot s entering leaving t x =
    pick (bit entering t) (with_block x.pool x) (pick (in_ancestry s (bit leaving) t) (with_block 0 x) x)

-- those with a rival among the entering; none while the block is empty, since there nobody leaves it
unfoldable pub displaced_in : List ℕ → View → ℕ → ℕ
displaced_in s v entering = pick (eqb v.block 0) 0 (set_below (count s) (found_in s (bit entering) false))

-- the slots of the transactions outside the set `members` stay as they are by f
pub record Outside (s : List ℕ) (f : ℕ → Slot → Slot) (members : ℕ) (l : List Slot) : Type 0 where
  pub same : (t : ℕ) → t < count s → bit members t ≡ false → f t (get_or l t empty_slot) ≡ get_or l t empty_slot

-- k waits outside the block and is of a line
unfoldable pub enters_in : View → ℕ → ℕ → Bool
enters_in v line k = bit v.pool k && (not (bit v.block k) && bit line k)
