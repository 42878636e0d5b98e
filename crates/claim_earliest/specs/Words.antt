-- What is said of endings: that a list confirms one.
-- Assumes nothing.
use Rattle.std.specs.Prelude.{ℕ, ◌<◌, ◌≡◌, true, List}
use Rattle.std.proofs.Math.Option.{some}
use Rattle.std.proofs.Math.ListN.{get_elem?}
use Rattle.laws.specs.Mask.{bit}
use Rattle.sheet.specs.Field.{count}
use Rattle.ledger.specs.Entry.{Entry}

-- "confirms all of them so": each to the destination given for it
abbrev pub ConfirmsTo : List ℕ → ℕ → (ℕ → ℕ) → List Entry → Type 0
ConfirmsTo s mask to l =
    (x : ℕ) → x < count s → bit mask x ≡ true → (i : ℕ) × (e : Entry) × (get_elem? l i ≡ some e) × (e.transaction ≡ x) × (e.destination ≡ to x)
