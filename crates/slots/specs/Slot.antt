-- What a position holds for one transaction: entries and shared masks by destination number, share marks by party number.
-- Assumes nothing.
use Rattle.std.specs.Prelude.{ℕ, ◌+◌, ◌-◌, ◌^◌, Bool, eqb, ltb}
use Rattle.std.specs.Int.Bits.{bit_or}
use Rattle.laws.specs.Booleans.{pick}
use Rattle.laws.specs.Mask.{bit, union_below}
use Rattle.slots.specs.declared.Slot.{Slot}
use Rattle.slots.specs.Destination.{alice, bob, carol, contract, destinations}

-- a transaction to which nothing has happened
abbrev pub empty_slot : Slot
empty_slot = record { pool = 0; block = 0; confirmed = 0; alice_made = 0; bob_made = 0; carol_made = 0; alice = 0; bob = 0; carol = 0; contract = 0; height = 0 }

-- "its pool entry, block entry, confirmation": there is one (0: none)
unfoldable pub standing : ℕ → Bool
standing entry = ltb 0 entry

-- the entry that names a destination
unfoldable pub entry_for : ℕ → ℕ
entry_for destination = destination + 1

-- the destination that an entry names
unfoldable pub entry_to : ℕ → ℕ
entry_to entry = entry - 1

-- "its pool entry": another one
unfoldable pub with_pool : ℕ → Slot → Slot
with_pool entry x =
    record {
      pool = entry;
      block = x.block;
      confirmed = x.confirmed;
      alice_made = x.alice_made;
      bob_made = x.bob_made;
      carol_made = x.carol_made;
      alice = x.alice;
      bob = x.bob;
      carol = x.carol;
      contract = x.contract;
      height = x.height;
    }

-- "block entry": another one
unfoldable pub with_block : ℕ → Slot → Slot
with_block entry x =
    record {
      pool = x.pool;
      block = entry;
      confirmed = x.confirmed;
      alice_made = x.alice_made;
      bob_made = x.bob_made;
      carol_made = x.carol_made;
      alice = x.alice;
      bob = x.bob;
      carol = x.carol;
      contract = x.contract;
      height = x.height;
    }

-- "confirmation": for an entry's destination, in block b
unfoldable pub with_confirmed : ℕ → ℕ → Slot → Slot
with_confirmed entry b x =
    record {
      pool = x.pool;
      block = x.block;
      confirmed = entry;
      alice_made = x.alice_made;
      bob_made = x.bob_made;
      carol_made = x.carol_made;
      alice = x.alice;
      bob = x.bob;
      carol = x.carol;
      contract = x.contract;
      height = b;
    }

-- "signatures shared for the same transaction and destination"
unfoldable pub shared_for : Slot → ℕ → ℕ
shared_for x destination = pick (eqb destination alice) x.alice (pick (eqb destination bob) x.bob (pick (eqb destination contract) x.contract x.carol))

-- "become shared": the signatures of a mask, for a destination
unfoldable pub with_shared : ℕ → ℕ → Slot → Slot
with_shared destination mask x =
    record {
      pool = x.pool;
      block = x.block;
      confirmed = x.confirmed;
      alice_made = x.alice_made;
      bob_made = x.bob_made;
      carol_made = x.carol_made;
      alice = pick (eqb destination alice) (bit_or x.alice mask) x.alice;
      bob = pick (eqb destination bob) (bit_or x.bob mask) x.bob;
      carol = pick (eqb destination carol) (bit_or x.carol mask) x.carol;
      contract = pick (eqb destination contract) (bit_or x.contract mask) x.contract;
      height = x.height;
    }

-- "shared knowledge" of the transaction, for any destination
unfoldable pub shared_any : Slot → ℕ
shared_any x = union_below destinations (shared_for x)

-- "the shares it has made": a party's, a bit for each destination
unfoldable pub marks_of : Slot → ℕ → ℕ
marks_of x party = pick (eqb party alice) x.alice_made (pick (eqb party bob) x.bob_made (pick (eqb party carol) x.carol_made 0))

-- "this party has shared this before for this destination"
unfoldable pub marked_for : Slot → ℕ → ℕ → Bool
marked_for x party destination = bit (marks_of x party) destination

-- "the shares it has made": one more
unfoldable pub with_mark : ℕ → ℕ → Slot → Slot
with_mark party destination x =
    record {
      pool = x.pool;
      block = x.block;
      confirmed = x.confirmed;
      alice_made = pick (eqb party alice) (bit_or x.alice_made (2 ^ destination)) x.alice_made;
      bob_made = pick (eqb party bob) (bit_or x.bob_made (2 ^ destination)) x.bob_made;
      carol_made = pick (eqb party carol) (bit_or x.carol_made (2 ^ destination)) x.carol_made;
      alice = x.alice;
      bob = x.bob;
      carol = x.carol;
      contract = x.contract;
      height = x.height;
    }
