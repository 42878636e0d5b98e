-- The list of open steps, from the actors' sets.
-- Assumes nothing.
use Rattle.std.specs.Prelude.{ℕ, ◌+◌, List, ◌++◌}
use Rattle.slots.specs.Destination.{alice, bob, carol, miner}
use Rattle.output.specs.Forms.Emitted.{actor_bytes, open_count}
use Rattle.queries.specs.declared.OpenSets.{OpenSets}

-- an actor's steps, then another's "in the part that follows"
unfoldable pub two_bytes : OpenSets → ℕ → OpenSets → ℕ → List ℕ
two_bytes x a y b = actor_bytes x.below x.last a ++ actor_bytes y.below y.last b

-- "List writes Alice's steps first, then Bob's in the part that follows, then the miner's"; document 02, Slip 10: "Carol stands after Bob and before the miner"
unfoldable pub sets_bytes : OpenSets → OpenSets → OpenSets → OpenSets → List ℕ
sets_bytes a b c m = two_bytes a alice b bob ++ two_bytes c carol m miner

-- the number of steps in the sets
unfoldable pub sets_count : OpenSets → OpenSets → OpenSets → OpenSets → ℕ
sets_count a b c m =
    open_count a.below a.last + open_count b.below b.last + open_count c.below c.last + open_count m.below m.last
