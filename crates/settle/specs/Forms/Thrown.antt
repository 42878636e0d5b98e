-- What settles, over sets.
-- Assumes nothing.
use Rattle.std.specs.Prelude.{ℕ, ◌+◌, Bool, not, ◌&&◌, List, eqb}
use Rattle.laws.specs.Booleans.{pick}
use Rattle.laws.specs.Below.{any_below}
use Rattle.laws.specs.Mask.{bit}
use Rattle.sheet.specs.Field.{count}
use Rattle.slots.specs.declared.Slot.{Slot}
use Rattle.slots.specs.Ancestry.{is_self_or_ancestor, meets_other}
use Rattle.position.specs.declared.Position.{Position}
use Rattle.position.specs.Position.{deadline_in}
use Rattle.steps.specs.Mined.{confirm_entry}

-- y is of the set `can`, and its deadline is the next block
unfoldable pub is_due : List ℕ → List ℕ → Position → ℕ → ℕ → Bool
is_due s u p can y = bit can y && eqb (deadline_in s u p y) (p.mined + 1)

-- y is of the set `due`, and its line has another rival of a member of g's
unfoldable pub throws_in : List ℕ → ℕ → ℕ → ℕ → Bool
throws_in s due g y = bit due y && meets_other s (λ r. is_self_or_ancestor s r y) g

-- g is of the set `entries`, and none of the set `due` throws it out
unfoldable pub stays_in : List ℕ → ℕ → ℕ → ℕ → Bool
stays_in s entries due g = bit entries g && not (any_below (count s) (throws_in s due g))

-- the slot of a member of a set with its entry confirmed in block b
unfoldable pub confirm_in : List ℕ → ℕ → ℕ → ℕ → Slot → Slot
confirm_in s b members t y = pick (bit members t) (confirm_entry s b t y) y
