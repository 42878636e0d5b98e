-- The bytes of open steps, from sets of them.
-- Assumes nothing.
use Rattle.std.specs.Prelude.{ℕ, ◌+◌, ◌≤◌, ◌≡◌, Bool, false, List, [], ◌∷◌, ◌++◌, get_or}
use Rattle.laws.specs.Booleans.{pick}
use Rattle.laws.specs.Gather.{gather}
use Rattle.laws.specs.Mask.{bit}
use Rattle.laws.specs.Sum.{sum_below, bits_below}
use Rattle.slots.specs.Destination.{destinations, place_of}

-- the kinds and destinations: seven kinds
abbrev pub places : ℕ
places = place_of 7 0

-- the four bytes of a step where the test holds, else none
unfoldable pub emitted : Bool → ℕ → ℕ → ℕ → ℕ → List ℕ
emitted on kind actor t d = pick on (kind ∷ actor ∷ t ∷ d ∷ []) []

-- the steps of a kind and a transaction byte, for the destinations that pass
unfoldable pub emitted_at : (ℕ → Bool) → ℕ → ℕ → ℕ → List ℕ
emitted_at on kind actor t = gather destinations (λ d. emitted (on d) kind actor t d)

-- the destinations at whose place the list says so
unfoldable pub opens : List Bool → ℕ → Bool
opens on d = get_or on d false

-- the destinations whose set has t
unfoldable pub opens_for : ℕ → ℕ → ℕ → ℕ → ℕ → ℕ → Bool
opens_for alice bob contract carol t = opens (bit alice t ∷ bit bob t ∷ bit contract t ∷ bit carol t ∷ [])

-- An actor's open steps are given as sets `below` and a set `last`. The set at place `place_of k d` is that of kind k + 1 and destination d:
-- bit t for transaction t. Bit `place_of k d` of `last` stands for the step of kind k + 1 and destination d with transaction byte 255.

-- the destinations with which a step of kind k + 1 on transaction t is open
unfoldable pub opens_below : List ℕ → ℕ → ℕ → ℕ → Bool
opens_below below k t d = bit (get_or below (place_of k d) 0) t

-- the destinations with which a step of kind k + 1 with transaction byte 255 is open
unfoldable pub opens_last : ℕ → ℕ → ℕ → Bool
opens_last last k d = bit last (place_of k d)

-- the steps of kind k + 1 on transaction t
unfoldable pub below_bytes : List ℕ → ℕ → ℕ → ℕ → List ℕ
below_bytes below actor k t = emitted_at (opens_below below k t) (k + 1) actor t

-- the steps of kind k + 1 with transaction byte 255
unfoldable pub last_bytes : ℕ → ℕ → ℕ → List ℕ
last_bytes last actor k = emitted_at (opens_last last k) (k + 1) actor 255

-- the steps of kind k + 1, by transaction, then destination
unfoldable pub kind_bytes : List ℕ → ℕ → ℕ → ℕ → List ℕ
kind_bytes below last actor k = gather 32 (below_bytes below actor k) ++ last_bytes last actor k

-- an actor's steps, by kind, transaction, destination
unfoldable pub actor_bytes : List ℕ → ℕ → ℕ → List ℕ
actor_bytes below last actor = gather 7 (kind_bytes below last actor)

-- the number of steps in the sets
unfoldable pub open_count : List ℕ → ℕ → ℕ
open_count below last = sum_below places (λ i. bits_below 32 (get_or below i 0)) + bits_below places last

-- an answer that is the number of steps
pub record Counted (below : List ℕ) (last r : ℕ) : Type 0 where
  pub is : r ≡ open_count below last
  pub small : r ≤ 924

-- an answer that is the number of bits of a mask of 32
pub record Ones (mask r : ℕ) : Type 0 where
  pub is : r ≡ bits_below 32 mask
  pub small : r ≤ 32
