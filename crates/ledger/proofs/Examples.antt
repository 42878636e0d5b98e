-- What the plain ledger takes and refuses, computed: one table over a small sheet at 2 blocks per day.
-- Assumes nothing.
use Rattle.laws.proofs.Prelude.{ℕ, ◌≡◌, refl, Bool, true, not, ◌&&◌, List, [], ◌∷◌, ◌++◌, eqb, climb_in, climb, every}
use Rattle.sheet.specs.Check.{sheet_refusal}
use Rattle.sheet.proofs.Opened.{opened}
use Rattle.ledger.specs.Entry.{Entry, before, in_order}
use Rattle.ledger.specs.Coin.{coin_of, nobody}
use Rattle.ledger.specs.Ledger.{none_kept, lock_from, fits, keep, enter, ledger, entry_holder, ledger_holder}

-- two coins: 0 and 1 open them; 2, 3 and 4 spend 0, 5 spends 4, and 6 spends 1
abbrev sheet : List ℕ
sheet =
    7 ∷ 1 ∷ 0 ∷ 1 ∷ 1
    ∷ 255 ∷ 0 ∷ 1 ∷ 0
    ∷ 255 ∷ 0 ∷ 1 ∷ 0
    ∷ 0 ∷ 1 ∷ 1 ∷ 0
    ∷ 0 ∷ 2 ∷ 1 ∷ 0
    ∷ 0 ∷ 0 ∷ 1 ∷ 0
    ∷ 4 ∷ 3 ∷ 1 ∷ 0
    ∷ 1 ∷ 3 ∷ 1 ∷ 0
    -- locks: 1 absolute, 1 day; 3 absolute, 2 days; 4 since the parent, 1 day; the others none
    ∷ 0 ∷ 0 ∷ 1 ∷ 1 ∷ 0 ∷ 0 ∷ 1 ∷ 2 ∷ 2 ∷ 1 ∷ 0 ∷ 0 ∷ 0 ∷ 0
    ∷ []

abbrev per_day : ℕ
per_day = 2

pub sheet_passes : sheet_refusal sheet ≡ 0
unfolding opened
sheet_passes = refl

-- "(transaction, destination, block b)"
abbrev at : ℕ → ℕ → ℕ → List Entry
at t destination b = record { transaction = t; destination = destination; block = b } ∷ []

pub data Example : Type 0 where
  -- the ledger refuses the list
  refuses : List Entry → Example
  -- it takes the list, and these hold coins 0 and 1 then
  takes : List Entry → (first second : ℕ) → Example
  -- the coin of a transaction
  coin_is : (t coin : ℕ) → Example
  -- the list stands "by block and then number", or does not
  rises : List Entry → Example
  falls : List Entry → Example

unfoldable pub holds : Example → Bool
holds (refuses l) = not (ledger sheet per_day l).accepts
holds (takes l first second) =
    let books = ledger sheet per_day l in
    books.accepts && (eqb (ledger_holder books.kept 0) first && eqb (ledger_holder books.kept 1) second)
holds (coin_is t coin) = eqb (coin_of sheet t) coin
holds (rises l) = in_order l
holds (falls l) = not (in_order l)

unfoldable pub examples : List Example
examples =
    -- "keeps the last entry of each coin, at first none"
    takes [] nobody nobody
    -- no lock: "0 .. must be below b", and "Blocks are numbered from 1."
    ∷ refuses (at 0 2 0)
    ∷ takes (at 0 2 1) 2 nobody
    -- absolute, an opening: "the product", 2
    ∷ refuses (at 1 2 2)
    ∷ takes (at 1 2 3) nobody 2
    -- absolute, a spend: 4, wherever its parent stands
    ∷ refuses (at 0 2 1 ++ at 3 1 4)
    ∷ takes (at 0 2 1 ++ at 3 1 5) 1 nobody
    ∷ takes (at 0 2 5 ++ at 3 1 5) 1 nobody
    -- since the parent: "p plus it", 3 + 2
    ∷ refuses (at 0 2 3 ++ at 4 2 5)
    ∷ takes (at 0 2 3 ++ at 4 2 6) 2 nobody
    -- "An opening needs none kept for its coin"
    ∷ refuses (at 0 2 1 ++ at 0 2 2)
    ∷ takes (at 0 2 1 ++ at 1 2 3) 2 2
    ∷ refuses (at 0 2 1 ++ at 2 0 1 ++ at 0 2 2)
    -- "a spend its parent's entry kept": before its parent, instead of its parent, beside another coin's, behind another spend
    ∷ refuses (at 2 0 1)
    ∷ refuses (at 2 0 1 ++ at 0 2 2)
    ∷ refuses (at 0 2 1 ++ at 5 0 9)
    ∷ refuses (at 0 2 1 ++ at 6 0 9)
    ∷ refuses (at 0 2 1 ++ at 2 0 2 ++ at 3 1 9)
    ∷ refuses (at 0 2 1 ++ at 2 0 2 ++ at 2 0 3)
    -- in its parent's own block it is kept too
    ∷ takes (at 0 2 1 ++ at 2 0 1) 0 nobody
    -- "Then the entry is kept in place of the coin's last one": the other coin's stays; the holder is "the kept destination"
    ∷ takes (at 0 2 1 ++ at 1 2 3 ++ at 4 2 4 ++ at 5 1 4 ++ at 6 0 4) 1 0
    ∷ takes (at 0 2 1 ++ at 1 2 3 ++ at 4 2 4 ++ at 5 0 4) 0 2
    -- no entry behind one that is refused is looked at
    ∷ refuses (at 1 2 2 ++ at 1 2 3)
    -- "the coin's opening or below it"
    ∷ coin_is 0 0
    ∷ coin_is 3 0
    ∷ coin_is 5 0
    ∷ coin_is 1 1
    ∷ coin_is 6 1
    -- "by block and then number": no entry twice
    ∷ rises (at 4 2 3 ++ at 0 2 5 ++ at 3 1 5 ++ at 1 2 6)
    ∷ falls (at 0 2 2 ++ at 3 1 1)
    ∷ falls (at 3 1 2 ++ at 0 2 2)
    ∷ falls (at 0 2 2 ++ at 0 2 2)
    ∷ []

-- the one fact
pub all_hold : every holds examples ≡ true
unfolding opened climb_in climb every before in_order coin_of none_kept lock_from fits keep enter ledger entry_holder ledger_holder holds examples
all_hold = refl
