-- Which transaction a party X counts on. The words in quotes are those of docs/DECISIONS.md, "Slack".
-- Assumes nothing.
use Rattle.std.specs.Prelude.{ℕ, Bool, not, ◌&&◌, List, eqb}
use Rattle.laws.specs.Booleans.{pick}
use Rattle.laws.specs.Below.{any_below}
use Rattle.laws.specs.Least.{least_below}
use Rattle.sheet.specs.Field.{count}
use Rattle.position.specs.declared.Position.{Position}
use Rattle.slack.specs.Beaten.{beats}
use Rattle.slack.specs.Kept.{paid, reached}

-- "255 .. if none"
abbrev pub none : ℕ
none = 255

-- the lowest transaction that passes
unfoldable pub lowest : List ℕ → (ℕ → Bool) → ℕ
lowest s f = least_below (count s) f (λ t. t) none

-- "such a t, one with nothing in beat"
unfoldable pub sure : List ℕ → List ℕ → Position → ℕ → ℕ → ℕ → Bool
sure s u p x off t = reached s u p x off t && not (any_below (count s) (beats s u p x 0 off t))

-- "Counted on: such a t, one with nothing in beat before others, then the lowest."; none where X is paid
unfoldable pub counted_on : List ℕ → List ℕ → Position → ℕ → ℕ → ℕ
counted_on s u p x off =
    let safe = lowest s (sure s u p x off) in
    pick (paid s p x) none (pick (eqb safe none) (lowest s (reached s u p x off)) safe)
