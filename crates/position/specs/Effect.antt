-- What an accepted step of each kind does to a position.
-- Assumes nothing.
use Rattle.std.specs.Prelude.{ℕ, ◌+◌, ◌^◌, Bool, ◌||◌, List, [], ◌∷◌, eqb, set}
use Rattle.std.specs.Int.Bits.{bit_or}
use Rattle.laws.specs.Booleans.{pick}
use Rattle.laws.specs.Each.{rewrite_first}
use Rattle.sheet.specs.Field.{count}
use Rattle.slots.specs.declared.Slot.{Slot}
use Rattle.slots.specs.declared.Step.{Step}
use Rattle.slots.specs.declared.Step.TheVariants.{Share, Give, SendToPool, HandToMiner, Include, Mine, Bump}
use Rattle.slots.specs.Destination.{contract, destination_number}
use Rattle.slots.specs.Slot.{entry_for, with_pool, with_block, with_shared, with_mark}
use Rattle.slots.specs.Ancestry.{meets_conflict, meets_other}
use Rattle.slots.specs.Signatures.{share_mask, exposed_mask}
use Rattle.position.specs.declared.Position.{Position}
use Rattle.position.specs.Position.{slot, in_block, keys}
use Rattle.steps.specs.Decode.{no_transaction}
use Rattle.steps.specs.Mined.{confirm_entry}
use Rattle.position.specs.FirstShares.{first_shares}
use Rattle.position.specs.Owed.{enters}

-- the position with other slots
unfoldable pub with_slots : List Slot → Position → Position
with_slots l p = record { slots = l; mined = p.mined; keys = p.keys }

-- the slot of transaction t changed by f
unfoldable pub change_slot : ℕ → (Slot → Slot) → Position → Position
change_slot t f p = with_slots (set p.slots t (f (slot p t))) p

-- the slot of each transaction of the sheet changed, t's by `f t`
unfoldable pub change_slots : List ℕ → (ℕ → Slot → Slot) → Position → Position
change_slots s f p = with_slots (rewrite_first (count s) f p.slots) p

-- "each party's keys held": signature i too, by party number
unfoldable pub with_key : ℕ → ℕ → Position → Position
with_key party i p = record { slots = p.slots; mined = p.mined; keys = set p.keys party (bit_or (keys p party) (2 ^ i)) }

-- "the party's held, required, non-secret signatures on that transaction become shared", and the share is marked as made
unfoldable pub share_one : List ℕ → ℕ → ℕ → ℕ → Position → Position
share_one s party t destination p =
    change_slot t (λ x. with_mark party destination (with_shared destination (share_mask s (keys p party) t) x)) p

-- the same for each transaction of a list, for the contract
unfoldable pub share_each : List ℕ → ℕ → List ℕ → Position → Position
share_each s party [] p = p
share_each s party (t ∷ l) p = share_each s party l (share_one s party t contract p)

-- 1 "Share": one transaction, or the party's first shares "as one step (transaction 255, destination 2)"
unfoldable pub after_share : List ℕ → ℕ → ℕ → ℕ → Position → Position
after_share s party t destination p =
    pick (eqb t no_transaction) (share_each s party (first_shares party) p) (share_one s party t destination p)

-- 2 "Give: the transaction byte is a signature number (0 to s - 1, its bit's place)": the receiver holds it too
unfoldable pub after_give : ℕ → ℕ → Position → Position
after_give i receiver p = with_key receiver i p

-- 3 "Send to pool": it waits there, and "Its required signatures become shared, none if veiled."
unfoldable pub after_send : List ℕ → ℕ → ℕ → Position → Position
after_send s t destination p = change_slot t (λ x. with_pool (entry_for destination) (with_shared destination (exposed_mask s t) x)) p

-- 4 "Hand to miner": it enters the block, "nothing shared"
unfoldable pub after_hand_in : ℕ → ℕ → Position → Position
after_hand_in t destination p = change_slot t (with_block (entry_for destination)) p

-- 5 "Include: a pool entry": it enters the block, with its destination, and stays in the pool
unfoldable pub after_include : ℕ → Position → Position
after_include t p = change_slot t (λ x. with_block x.pool x) p

-- Who leaves the pool, where `mined` tells the mined ones. Document 02, Slip 1: "a mined transaction leaves the pool itself. Others leave
-- exactly if their line meets a different rival of a mined one."
unfoldable pub leaves_pool : List ℕ → (ℕ → Bool) → ℕ → Bool
leaves_pool s mined t = mined t || meets_other s mined t

-- what a mined block makes of t's slot: confirmed if it was in the block, out of the pool if it leaves
unfoldable pub mine_slot : List ℕ → Position → ℕ → Slot → Slot
mine_slot s p t x =
    let y = confirm_entry s (p.mined + 1) t x in
    pick (leaves_pool s (in_block p) t) (with_pool 0 y) y

-- "the blocks mined": another number
unfoldable pub with_mined : ℕ → Position → Position
with_mined m p = record { slots = p.slots; mined = m; keys = p.keys }

-- 6 "Mine (transaction 255): the block is confirmed": one block more
unfoldable pub after_mine : List ℕ → Position → Position
after_mine s p = with_mined (p.mined + 1) (change_slots s (mine_slot s p) p)

-- "block entries whose line meets a rival of these leave first": who leaves the block, where `entering` tells these
unfoldable pub leaves_block : List ℕ → (ℕ → Bool) → ℕ → Bool
leaves_block s entering t = meets_conflict s entering t

-- what a bump of b makes of k's slot: it enters, with its pool entry's destination, or leaves, or stays as it is
unfoldable pub bump_slot : List ℕ → Position → ℕ → ℕ → Slot → Slot
bump_slot s p b k x =
    pick (enters s p b k)
    (with_block x.pool x)
    (pick (leaves_block s (enters s p b) k) (with_block 0 x) x)

-- 7 "It and, here, all its waiting ancestors outside the block enter; block entries whose line meets a rival of these leave first."
unfoldable pub after_bump : List ℕ → ℕ → Position → Position
after_bump s t p = change_slots s (bump_slot s p t) p

-- the position after an accepted step, by its kind
unfoldable pub effect : List ℕ → Position → Step → Position
effect s p (Share party t to) = after_share s party t (destination_number to) p
effect s p (Give party i to) = after_give i (destination_number to) p
effect s p (SendToPool party t to) = after_send s t (destination_number to) p
effect s p (HandToMiner party t to) = after_hand_in t (destination_number to) p
effect s p (Include party t to) = after_include t p
effect s p (Mine party t to) = after_mine s p
effect s p (Bump party t to) = after_bump s t p
