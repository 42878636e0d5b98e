-- The plain ledger, as document 01's section Heights words it.
-- Assumes nothing.
use Rattle.std.specs.Prelude.{ℕ, ◌+◌, Bool, true, false, not, ◌&&◌, List, [], ◌∷◌, eqb, ltb}
use Rattle.std.proofs.Math.Option.{Option, none, some}
use Rattle.laws.specs.Booleans.{pick}
use Rattle.sheet.specs.Field.{parent, lock_type, opening}
use Rattle.sheet.specs.LockHeight.{lock_blocks}
use Rattle.ledger.specs.Entry.{Entry}
use Rattle.ledger.specs.Coin.{coin_of, nobody}

-- "keeps the last entry of each coin": by the coin's opening
abbrev pub Kept : Type 0
Kept = ℕ → Option Entry

-- "at first none"
unfoldable pub none_kept : Kept
none_kept coin = none

-- "The lock (0, the product, or p plus it)": of transaction t, over its parent's block p
unfoldable pub lock_from : List ℕ → ℕ → ℕ → ℕ → ℕ
lock_from s per_day p t =
    pick (eqb (lock_type s t) 0) 0
    (pick (eqb (lock_type s t) 1) (lock_blocks s per_day t)
    (p + lock_blocks s per_day t))

-- "An opening needs none kept for its coin, a spend its parent's entry kept, in a block p. The lock (0, the product, or p plus it) must be below b."
unfoldable pub fits : List ℕ → ℕ → Option Entry → Entry → Bool
fits s per_day none e = opening s e.transaction && ltb (lock_from s per_day 0 e.transaction) e.block
fits s per_day (some last) e =
    not (opening s e.transaction)
    && (eqb last.transaction (parent s e.transaction) && ltb (lock_from s per_day last.block e.transaction) e.block)

-- "Then the entry is kept in place of the coin's last one"
unfoldable pub keep : List ℕ → Entry → Kept → Kept
keep s e kept coin = pick (eqb coin (coin_of s e.transaction)) (some e) (kept coin)

-- what the ledger comes to: whether it took the whole list, and what it has kept
pub record Books : Type 0 where
  pub accepts : Bool
  pub kept : Kept

-- "takes entries .. keeps the last entry of each coin .. else the list is refused"
unfoldable pub enter : List ℕ → ℕ → List Entry → Kept → Books
enter s per_day [] kept = record { accepts = true; kept = kept }
enter s per_day (e ∷ l) kept =
    elim (fits s per_day (kept (coin_of s e.transaction)) e)
    [ true ↦ enter s per_day l (keep s e kept) | false ↦ record { accepts = false; kept = kept } ]

-- "The plain ledger .. knows the sheet and the blocks per day"
unfoldable pub ledger : List ℕ → ℕ → List Entry → Books
ledger s per_day l = enter s per_day l none_kept

unfoldable pub entry_holder : Option Entry → ℕ
entry_holder none = nobody
entry_holder (some e) = e.destination

-- "The holder there is the kept destination, or nobody."
unfoldable pub ledger_holder : Kept → ℕ → ℕ
ledger_holder kept coin = entry_holder (kept coin)
