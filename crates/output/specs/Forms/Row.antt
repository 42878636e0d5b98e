-- The bytes of a report's row.
-- Assumes nothing.
use Rattle.std.specs.Prelude.{ℕ, List, ◌∷◌, ◌++◌}
use Rattle.laws.specs.Little.{bytes_of}

-- "status .., payee .., then three 4-byte values: block or 0, lock height, deadline"; Slip 9: "gain this count at their end, 4 bytes"
unfoldable pub row_bytes : ℕ → ℕ → ℕ → ℕ → ℕ → ℕ → List ℕ
row_bytes status payee block lock deadline opened =
    status ∷ payee ∷ (bytes_of 4 block ++ (bytes_of 4 lock ++ (bytes_of 4 deadline ++ bytes_of 4 opened)))
