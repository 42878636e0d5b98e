-- What was confirmed, as the plain ledger takes it.
-- Assumes nothing.
use Rattle.std.specs.Prelude.{ℕ, Bool, true, ◌&&◌, ◌||◌, List, [], ◌∷◌, eqb, ltb}

-- "entries (transaction, destination, block b)"
pub record Entry : Type 0 where
  pub transaction : ℕ
  pub destination : ℕ
  pub block : ℕ

-- "by block and then number": the first stands before the second
unfoldable pub before : Entry → Entry → Bool
before a b = ltb a.block b.block || (eqb a.block b.block && ltb a.transaction b.transaction)

-- each entry stands before the next
unfoldable pub in_order : List Entry → Bool
in_order [] = true
in_order (a ∷ []) = true
in_order (a ∷ b ∷ l) = before a b && in_order (b ∷ l)
