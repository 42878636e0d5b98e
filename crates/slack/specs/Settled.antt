-- The position as a party X can count on it before the next block: the block being filled counts as confirmed, as far as nothing can throw its
-- entries out. The words in quotes are those of docs/DECISIONS.md, "Slack".
-- Assumes nothing.
use Rattle.std.specs.Prelude.{ℕ, ◌+◌, Bool, not, ◌&&◌, List, eqb}
use Rattle.laws.specs.Booleans.{pick}
use Rattle.laws.specs.Below.{any_below}
use Rattle.laws.specs.Mask.{bit}
use Rattle.sheet.specs.Field.{count}
use Rattle.slots.specs.Ancestry.{is_self_or_ancestor, meets_other}
use Rattle.position.specs.declared.Position.{Position}
use Rattle.position.specs.Position.{in_block, deadline_in}
use Rattle.position.specs.Effect.{change_slots}
use Rattle.steps.specs.Mined.{confirm_entry}
use Rattle.attainable.specs.Attainable.{attainable}

-- "y can come, its deadline is m + 1, and its line has another rival of a member of g's": a bump of y throws g out
unfoldable pub throws_out : List ℕ → List ℕ → Position → ℕ → ℕ → ℕ → Bool
throws_out s u p x g y =
    bit (attainable s u p x (bit 0)) y && (eqb (deadline_in s u p y) (p.mined + 1) && meets_other s (λ r. is_self_or_ancestor s r y) g)

-- "an entry g of the block that nothing can throw out"
unfoldable pub settles : List ℕ → List ℕ → Position → ℕ → ℕ → Bool
settles s u p x g = in_block p g && not (any_below (count s) (throws_out s u p x g))

-- "counts as confirmed in block m + 1, its secrets as shared"; the blocks mined stay
unfoldable pub settled : List ℕ → List ℕ → Position → ℕ → Position
settled s u p x = change_slots s (λ t y. pick (settles s u p x t) (confirm_entry s (p.mined + 1) t y) y) p
