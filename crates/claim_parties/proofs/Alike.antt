-- Two sheets with the same transactions and the same parties but Carol.
-- Assumes nothing.
use Rattle.laws.proofs.Prelude.{ℕ, ◌≡◌, false, List, eqb}
use Rattle.sheet.specs.Field.{is_party, entry}
use Rattle.slots.specs.Destination.{carol}
use Rattle.claim_parties.specs.Renaming.{SameTransactions}

pub record Alike (s w : List ℕ) : Type 0 where
  pub transactions : SameTransactions s w
  pub entries : entry w ≡ entry s
  pub parties_same : (a : ℕ) → eqb a carol ≡ false → is_party w a ≡ is_party s a
