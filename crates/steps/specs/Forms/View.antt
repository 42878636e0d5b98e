-- What the tests read off a view of a position.
-- Assumes nothing.
use Rattle.std.specs.Prelude.{ℕ, List, ltb, get_or}
use Rattle.std.specs.Int.Bits.{bit_and, bit_or}
use Rattle.laws.specs.Sets.{joined, removed}
use Rattle.sheet.specs.Field.{secrets}
use Rattle.slots.specs.declared.Slot.{Slot}
use Rattle.slots.specs.Slot.{standing, shared_for, shared_any}
use Rattle.slots.specs.Signatures.{sender_mask}
use Rattle.steps.specs.declared.View.{View}

-- with transaction k, whose slot is x
unfoldable pub view_with : View → ℕ → Slot → View
view_with v k x =
    record {
      pool = joined v.pool (standing x.pool) k;
      block = joined v.block (standing x.block) k;
      confirmed = joined v.confirmed (ltb 0 x.height) k;
      expiring = v.expiring;
      mined = v.mined;
      shared = bit_or v.shared (shared_any x);
      keys = v.keys;
    }

-- after a step that changed no other slot than k's, which is x then: with the blocks mined and the keys held then
unfoldable pub view_after : View → ℕ → Slot → ℕ → List ℕ → View
view_after v k x mined keys =
    record {
      pool = joined (removed v.pool k) (standing x.pool) k;
      block = joined (removed v.block k) (standing x.block) k;
      confirmed = joined v.confirmed (ltb 0 x.height) k;
      expiring = v.expiring;
      mined = mined;
      shared = bit_or v.shared (shared_any x);
      keys = keys;
    }

-- after a step that changed no slot
unfoldable pub view_passed : View → ℕ → List ℕ → View
view_passed v mined keys =
    record {
      pool = v.pool;
      block = v.block;
      confirmed = v.confirmed;
      expiring = v.expiring;
      mined = mined;
      shared = v.shared;
      keys = keys;
    }

-- those in the pool or confirmed
unfoldable pub sent_set : View → ℕ
sent_set v = bit_or v.pool v.confirmed

-- those confirmed or in the block
unfoldable pub placed_set : View → ℕ
placed_set v = bit_or v.block v.confirmed

-- the keys that a party holds
unfoldable pub keys_in : View → ℕ → ℕ
keys_in v party = get_or v.keys party 0

-- what a sender has of a transaction whose slot is x
unfoldable pub sender_in : List ℕ → View → Slot → ℕ → ℕ → ℕ
sender_in s v x party destination = sender_mask (keys_in v party) (bit_and (secrets s) v.shared) (shared_for x destination)
