-- A journal's steps by their place.
-- Assumes nothing.
use Rattle.std.specs.Prelude.{ℕ, ◌+◌, List}
use Rattle.sheet.specs.Field.{byte}
use Rattle.position.specs.Play.{FourBytes}

-- "4-byte steps: kind, party .. transaction, destination": the one that starts at place i
unfoldable pub step_at : List ℕ → ℕ → FourBytes
step_at j i = record { kind = byte j i; party = byte j (i + 1); transaction = byte j (i + 2); destination = byte j (i + 3) }
