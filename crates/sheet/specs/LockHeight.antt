-- Lock heights, over a function that gives each transaction's block, 0 where it is unconfirmed.
-- Assumes nothing.
use Rattle.std.specs.Prelude.{ℕ, ◌+◌, ◌*◌, List, eqb}
use Rattle.laws.specs.Booleans.{pick}
use Rattle.sheet.specs.Field.{parent, lock_type, days}

-- "2147483647 ("never")"
abbrev pub never : ℕ
never = 2147483647

-- "days × blocks per day"
unfoldable pub lock_blocks : List ℕ → ℕ → ℕ → ℕ
lock_blocks s per_day t = days s t * per_day

-- for type 2, from the parent's block: "the parent's block plus that product, .. never while the parent is unconfirmed"
unfoldable pub since_parent : ℕ → ℕ → ℕ
since_parent block blocks = pick (eqb block 0) never (block + blocks)

-- "Lock height: 0; or days × blocks per day; or, for type 2, the parent's block plus that product"
unfoldable pub lock_height : List ℕ → ℕ → (ℕ → ℕ) → ℕ → ℕ
lock_height s per_day block t =
    pick (eqb (lock_type s t) 0) 0
    (pick (eqb (lock_type s t) 1) (lock_blocks s per_day t)
    (since_parent (block (parent s t)) (lock_blocks s per_day t)))
