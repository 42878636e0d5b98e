-- What a position must satisfy: the sizes and ranges of what it holds.
-- Assumes nothing.
use Rattle.std.specs.Prelude.{ℕ, ◌^◌, ◌≤◌, ◌<◌, ◌≡◌, List, ltb, length}
use Rattle.sheet.specs.Field.{signatures}
use Rattle.slots.specs.declared.Slot.{Slot}
use Rattle.slots.specs.Destination.{destinations}
use Rattle.slots.specs.Slot.{standing, shared_for, marks_of}
use Rattle.position.specs.declared.Position.{Position}
use Rattle.position.specs.Position.{slot_count, slot, keys}
use Rattle.position.specs.Tests.{block_limit}

-- the slot of one transaction, where this many blocks are mined
pub record WellformedSlot (s : List ℕ) (mined : ℕ) (x : Slot) : Type 0 where
  -- "its pool entry": none, or for a destination, "one of three"
  pub pool : x.pool ≤ destinations
  -- "block entry"
  pub block : x.block ≤ destinations
  -- "confirmation"
  pub confirmed : x.confirmed ≤ destinations
  -- "Blocks are numbered from 1.": a block stands exactly where a confirmation does
  pub numbered : ltb 0 x.height ≡ standing x.confirmed
  -- "the blocks mined": the confirmation's block is one of them
  pub height : x.height ≤ mined
  -- "and shared knowledge": for each destination a mask of the sheet's "s signatures"
  pub shared : (destination : ℕ) → shared_for x destination < 2 ^ signatures s
  -- "and the shares it has made": for each party a bit for each destination
  pub marks : (party : ℕ) → marks_of x party < 2 ^ destinations

pub record Wellformed (s : List ℕ) (p : Position) : Type 0 where
  -- "A position holds, for each of 32 transactions, ..": there are 32 slots
  pub size : length p.slots ≡ slot_count
  -- each well formed; what is read past the 32 is the empty slot
  pub slots : (t : ℕ) → WellformedSlot s p.mined (slot p t)
  -- "beside these the blocks mined", and 23 "10,000 blocks mined"
  pub mined : p.mined ≤ block_limit
  -- "each party's keys held": a mask of the sheet's "s signatures"
  pub held : (party : ℕ) → keys p party < 2 ^ signatures s
