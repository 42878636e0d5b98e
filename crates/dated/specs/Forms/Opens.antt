-- Whether a transaction is open, over a view, its slot x and `since`, its parent's block.
-- Assumes nothing.
use Rattle.std.specs.Prelude.{ℕ, Bool, not, ◌&&◌, ◌||◌, List, eqb, leb}
use Rattle.laws.specs.Booleans.{pick}
use Rattle.laws.specs.Below.{any_below}
use Rattle.laws.specs.Mask.{bit}
use Rattle.sheet.specs.Field.{parties, party_at}
use Rattle.sheet.specs.LockHeight.{never, lock_height}
use Rattle.slots.specs.declared.Slot.{Slot}
use Rattle.slots.specs.Destination.{contract, is_payee, is_contract}
use Rattle.slots.specs.Conflict.{no_conflict}
use Rattle.slots.specs.Ancestry.{has_parent}
use Rattle.slots.specs.Signatures.{signed}
use Rattle.steps.specs.declared.View.{View}
use Rattle.steps.specs.Forms.View.{sender_in}

-- signatures at hand for a party
unfoldable pub at_hand_in : List ℕ → View → Slot → ℕ → ℕ → Bool
at_hand_in s v x t party =
    pick (is_contract s t)
    (signed s (sender_in s v x party contract) t)
    (is_payee s t party && signed s (sender_in s v x party party) t)

-- open
unfoldable pub opens_in : List ℕ → ℕ → View → Slot → ℕ → ℕ → Bool
opens_in s d v x since t =
    no_conflict s (bit v.confirmed) t
    && (has_parent s (bit v.confirmed) t && (leb (lock_height s d (λ k. since) t) v.mined && any_below (parties s) (λ k. at_hand_in s v x t (party_at k))))

-- the count c of t stays, whatever its slot: it has one, or its parent is not confirmed
unfoldable pub stays : List ℕ → View → ℕ → ℕ → Bool
stays s v t c = not (eqb c never) || not (has_parent s (bit v.confirmed) t)

-- the count c of t once this is seen
unfoldable pub first_open_in : List ℕ → ℕ → View → Slot → ℕ → ℕ → ℕ → ℕ
first_open_in s d v x since t c = pick (eqb c never && opens_in s d v x since t) v.mined c
