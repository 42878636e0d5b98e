-- What the ledger asks of an entry, over those before it.
-- Assumes nothing.
use Rattle.laws.proofs.Prelude.{ℕ, ◌<◌, ◌≡◌, true, false, List, some, get_elem?}
use Rattle.position.proofs.Rules.{parent, opening, conflict, Entry, lock_from}
use Rattle.claim_blocks.specs.Words.{Before}

-- an opening, or a spend whose parent's entry stands before it; its lock is below its block
pub data Founded (s : List ℕ) (per_day : ℕ) (before : Entry → Type 0) (f : Entry) : Type 0 where
  opens : opening s f.transaction ≡ true → lock_from s per_day 0 f.transaction < f.block → Founded s per_day before f
  spends : (e : Entry) → before e → opening s f.transaction ≡ false → e.transaction ≡ parent s f.transaction → lock_from s per_day e.block f.transaction < f.block → Founded s per_day before f

-- and no rival stands before it
pub record Fitting (s : List ℕ) (per_day : ℕ) (before : Entry → Type 0) (f : Entry) : Type 0 where
  pub based : Founded s per_day before f
  pub alone : (e : Entry) → before e → conflict s f.transaction e.transaction ≡ false

abbrev pub AllFitting : List ℕ → ℕ → List Entry → Type 0
AllFitting s per_day l = (j : ℕ) (f : Entry) → get_elem? l j ≡ some f → Fitting s per_day (Before l j) f
