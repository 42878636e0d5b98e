-- What the agreement comes to for a reader: no coin is opened twice, no output is spent twice or before it exists, no lock is early.
-- Assumes nothing.
use Rattle.std.specs.Prelude.{ℕ, ◌≤◌, ◌<◌, ◌≡◌, true, false, List}
use Rattle.std.proofs.Math.Option.{some}
use Rattle.std.proofs.Math.ListN.{get_elem?}
use Rattle.sheet.specs.Field.{count, parent, opening}
use Rattle.ledger.specs.Entry.{Entry}
use Rattle.ledger.specs.Coin.{coin_of}
use Rattle.position.specs.declared.Position.{Position}
use Rattle.position.specs.Position.{block_of, is_confirmed, lock_height_in}

-- entry e stands at place i of a list
abbrev pub Stands : List Entry → ℕ → Entry → Type 0
Stands l i e = get_elem? l i ≡ some e

-- Each coin is opened at most once: two entries that open one coin are one entry.
abbrev pub OpenedOnce : List ℕ → List Entry → Type 0
OpenedOnce s l =
    (i j : ℕ) (e f : Entry) → Stands l i e → Stands l j f
    → opening s e.transaction ≡ true
    → opening s f.transaction ≡ true
    → coin_of s f.transaction ≡ coin_of s e.transaction
    → i ≡ j

-- Each output is spent at most once: two entries that spend one parent are one entry.
abbrev pub SpentOnce : List ℕ → List Entry → Type 0
SpentOnce s l =
    (i j : ℕ) (e f : Entry) → Stands l i e → Stands l j f
    → opening s f.transaction ≡ false
    → parent s f.transaction ≡ parent s e.transaction
    → i ≡ j

-- And only after it exists: a spend's entry stands behind its parent's, in no earlier block.
abbrev pub SpentAfter : List ℕ → List Entry → Type 0
SpentAfter s l =
    (j : ℕ) (f : Entry) → Stands l j f
    → opening s f.transaction ≡ false
    → (i : ℕ) × (e : Entry) × (i < j) × Stands l i e × (e.transaction ≡ parent s f.transaction) × (e.block ≤ f.block)

-- No lock is early: what is confirmed has its lock height below its block.
abbrev pub NoEarlyLock : List ℕ → List ℕ → Position → Type 0
NoEarlyLock s u p = (t : ℕ) → t < count s → is_confirmed p t ≡ true → lock_height_in s u p t < block_of p t
