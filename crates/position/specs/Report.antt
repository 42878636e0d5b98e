-- The report: document 01's "14 bytes for each transaction", and Slip 9's count of each at their end.
-- Assumes nothing.
use Rattle.std.specs.Prelude.{ℕ, ◌+◌, List, ◌∷◌, ◌++◌, get_or}
use Rattle.laws.specs.Booleans.{pick}
use Rattle.laws.specs.Gather.{gather}
use Rattle.laws.specs.Little.{bytes_of}
use Rattle.sheet.specs.Field.{count}
use Rattle.sheet.specs.LockHeight.{never}
use Rattle.slots.specs.Invalidated.{invalidated}
use Rattle.position.specs.declared.Position.{Position}
use Rattle.position.specs.Position.{in_pool, in_block, is_confirmed, confirmed_to, block_of, lock_height_in, deadline_in}

-- "status (1 pool, 2 block, 4 confirmed, 8 dead, summed)"
unfoldable pub status : List ℕ → Position → ℕ → ℕ
status s p t =
    pick (in_pool p t) 1 0 + pick (in_block p t) 2 0 + pick (is_confirmed p t) 4 0 + pick (invalidated s (is_confirmed p) t) 8 0

-- "255 unconfirmed"
abbrev pub unconfirmed : ℕ
unconfirmed = 255

-- "payee (destination, 255 unconfirmed)"
unfoldable pub payee : Position → ℕ → ℕ
payee p t = pick (is_confirmed p t) (confirmed_to p t) unconfirmed

-- "status .., payee .., then three 4-byte values: block or 0, lock height, deadline"
unfoldable pub row : List ℕ → List ℕ → Position → ℕ → List ℕ
row s u p t =
    status s p t ∷ payee p t
    ∷ (bytes_of 4 (block_of p t) ++ (bytes_of 4 (lock_height_in s u p t) ++ bytes_of 4 (deadline_in s u p t)))

-- document 02, Slip 9: "Each transaction's bytes in the report gain this count at their end, 4 bytes, 2147483647 where never open"
unfoldable pub full_row : List ℕ → List ℕ → Position → List ℕ → ℕ → List ℕ
full_row s u p counts t = row s u p t ++ bytes_of 4 (get_or counts t never)

-- "Report writes .. bytes for each transaction"
unfoldable pub report_bytes : List ℕ → List ℕ → Position → List ℕ → List ℕ
report_bytes s u p counts = gather (count s) (full_row s u p counts)
