-- The open steps: those that would be accepted next, in the order of the list.
-- Assumes nothing.
use Rattle.std.specs.Prelude.{ℕ, ◌+◌, Bool, eqb, ltb, Option, Some, None}
use mathlib.Core.List.{List, [], ◌∷◌, ◌++◌, flat_map}
use Rattle.laws.specs.Booleans.{pick}
use Rattle.laws.specs.Gather.{gather}
use Rattle.laws.specs.Order.{lower}
use Rattle.sheet.specs.Refusal.{accepted}
use Rattle.sheet.specs.Field.{parties, place, party_at}
use Rattle.slots.specs.declared.Step.{Step}
use Rattle.slots.specs.Destination.{miner, destinations}
use Rattle.position.specs.declared.Position.{Position}
use Rattle.position.specs.Position.{slot_count}
use Rattle.steps.specs.Decode.{decode, step_bytes, no_transaction}
use Rattle.position.specs.StepRefusal.{step_refusal}
use Rattle.position.specs.Play.{FourBytes, journal_steps}

-- "List writes Alice's steps first, then Bob's in the part that follows, then the miner's"; document 02, Slip 10: "In the open list Carol stands
-- after Bob and before the miner": the sheet's parties by place, then the miner
unfoldable pub actor_at : List ℕ → ℕ → ℕ
actor_at s k = pick (ltb k (parties s)) (party_at k) miner

-- their number
abbrev pub actors : List ℕ → ℕ
actors s = parties s + 1

-- "one of seven kinds": 1 to 7
abbrev pub kinds : ℕ
kinds = 7

-- a step alone if it is accepted, else none
unfoldable pub if_accepted : List ℕ → List ℕ → Position → Option Step → List Step
if_accepted s u p (Some x) = pick (eqb (step_refusal s u p x) accepted) (x ∷ []) []
if_accepted s u p None = []

-- ".. destination": the open steps of an actor, a kind and a transaction byte
unfoldable pub open_at : List ℕ → List ℕ → Position → ℕ → ℕ → ℕ → List Step
open_at s u p actor kind t = gather destinations (λ d. if_accepted s u p (decode s u kind actor t d))

-- ".. transaction ..": those of an actor and a kind; no step has a transaction byte of 32 or more, but for 255
unfoldable pub open_of : List ℕ → List ℕ → Position → ℕ → ℕ → List Step
open_of s u p actor kind = gather slot_count (open_at s u p actor kind) ++ open_at s u p actor kind no_transaction

-- "each by kind, transaction, destination": those of an actor
unfoldable pub actor_steps : List ℕ → List ℕ → Position → ℕ → List Step
actor_steps s u p actor = gather kinds (λ k. open_of s u p actor (k + 1))

-- "list open steps"
unfoldable pub open_steps : List ℕ → List ℕ → Position → List Step
open_steps s u p = gather (actors s) (λ k. actor_steps s u p (actor_at s k))

-- "4 bytes a step"
unfoldable pub list_bytes : List ℕ → List ℕ → Position → List ℕ
list_bytes s u p = flat_map step_bytes (open_steps s u p)

-- the list read as steps
unfoldable pub list_steps : List ℕ → List ℕ → Position → List FourBytes
list_steps s u p = journal_steps (list_bytes s u p)

-- where an actor stands in the list: a party of the sheet by its place, the miner after them
unfoldable pub rank : List ℕ → ℕ → ℕ
rank s actor = pick (eqb actor miner) (parties s) (place actor)

-- where a step stands in the list: by actor, then "by kind, transaction, destination"
unfoldable pub list_place : List ℕ → FourBytes → List ℕ
list_place s b = rank s b.party ∷ b.kind ∷ b.transaction ∷ b.destination ∷ []

-- the first stands before the second
unfoldable pub listed_before : List ℕ → FourBytes → FourBytes → Bool
listed_before s a b = lower (list_place s a) (list_place s b)
