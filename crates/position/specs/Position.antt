-- What a position says of each transaction and party, and the empty journal's position.
-- Assumes nothing.
use Rattle.std.specs.Prelude.{ℕ, Bool, ◌||◌, List, [], ◌∷◌, ltb, get_or, replicate}
use Rattle.laws.specs.Mask.{bit}
use Rattle.sheet.specs.Field.{start_keys}
use Rattle.sheet.specs.Setup.{per_day}
use Rattle.sheet.specs.LockHeight.{lock_height}
use Rattle.slots.specs.declared.Slot.{Slot}
use Rattle.slots.specs.Destination.{alice, bob, carol}
use Rattle.slots.specs.Slot.{empty_slot, standing, entry_to, shared_for, shared_any, marked_for}
use Rattle.slots.specs.Deadline.{deadline}
use Rattle.slots.specs.Signatures.{shared_secrets, sender_mask}
use Rattle.position.specs.declared.Position.{Position}

-- "for each of 32 transactions"
abbrev pub slot_count : ℕ
slot_count = 32

-- "the masks held at the start by Alice and Bob", document 02, Slip 10: "a third start mask after Bob's", by party number; nothing at other numbers
unfoldable pub start_held : List ℕ → List ℕ
start_held s = start_keys s alice ∷ start_keys s bob ∷ 0 ∷ start_keys s carol ∷ 0 ∷ 0 ∷ []

-- the empty journal's position: these masks, and nothing else
unfoldable pub start : List ℕ → Position
start s = record { slots = replicate slot_count empty_slot; mined = 0; keys = start_held s }

-- "A position holds, for each of 32 transactions, ..": what it holds for t
unfoldable pub slot : Position → ℕ → Slot
slot p t = get_or p.slots t empty_slot

-- ".. its pool entry": there is one
unfoldable pub in_pool : Position → ℕ → Bool
in_pool p t = standing (slot p t).pool

-- the pool entry's destination
unfoldable pub pool_to : Position → ℕ → ℕ
pool_to p t = entry_to (slot p t).pool

-- ".. block entry": there is one in the block being filled
unfoldable pub in_block : Position → ℕ → Bool
in_block p t = standing (slot p t).block

-- the block entry's destination
unfoldable pub block_to : Position → ℕ → ℕ
block_to p t = entry_to (slot p t).block

-- ".. confirmation": its block, 0 while there is none
unfoldable pub block_of : Position → ℕ → ℕ
block_of p t = (slot p t).height

-- "Blocks are numbered from 1.": confirmed is what has a block
unfoldable pub is_confirmed : Position → ℕ → Bool
is_confirmed p t = ltb 0 (block_of p t)

-- the confirmation's destination
unfoldable pub confirmed_to : Position → ℕ → ℕ
confirmed_to p t = entry_to (slot p t).confirmed

-- "in pool or confirmed"
unfoldable pub sent : Position → ℕ → Bool
sent p t = in_pool p t || is_confirmed p t

-- "confirmed or in the block"
unfoldable pub placed : Position → ℕ → Bool
placed p t = in_block p t || is_confirmed p t

-- ".. and shared knowledge": the mask for t and a destination
unfoldable pub shared : Position → ℕ → ℕ → ℕ
shared p t destination = shared_for (slot p t) destination

-- "each party's keys held": by party number
unfoldable pub keys : Position → ℕ → ℕ
keys p party = get_or p.keys party 0

-- the party holds signature i
unfoldable pub holds : Position → ℕ → ℕ → Bool
holds p party i = bit (keys p party) i

-- "and the shares it has made": the party has shared t for this destination
unfoldable pub marked : Position → ℕ → ℕ → ℕ → Bool
marked p party t destination = marked_for (slot p t) party destination

-- "A sender has: keys held, every secret in shared knowledge, and signatures shared for the same transaction and destination."
unfoldable pub sender_has : List ℕ → Position → ℕ → ℕ → ℕ → ℕ
sender_has s p party t destination =
    sender_mask (keys p party) (shared_secrets s (λ k. shared_any (slot p k))) (shared p t destination)

-- "Lock height", from the blocks of this position
unfoldable pub lock_height_in : List ℕ → List ℕ → Position → ℕ → ℕ
lock_height_in s u p t = lock_height s (per_day u) (block_of p) t

-- "Deadline", from the blocks of this position
unfoldable pub deadline_in : List ℕ → List ℕ → Position → ℕ → ℕ
deadline_in s u p t = deadline s (per_day u) (block_of p) t
