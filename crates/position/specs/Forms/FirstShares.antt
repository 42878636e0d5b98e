-- The first shares as a set of transactions, when they are early, and what may be shared.
-- Assumes nothing.
use Rattle.std.specs.Prelude.{ℕ, Bool, ◌&&◌, ◌||◌, List, eqb, ltb}
use Rattle.laws.specs.Booleans.{pick}
use Rattle.sheet.specs.Field.{count}
use Rattle.slots.specs.declared.Slot.{Slot}
use Rattle.slots.specs.Destination.{alice}
use Rattle.steps.specs.Names.{timeout}
use Rattle.steps.specs.Decode.{no_transaction}

-- Alice's first shares, 2^4 + 2^6, and Bob's, 2^3 + 2^4 + 2^5 + 2^6
abbrev pub alice_first : ℕ
alice_first = 80

abbrev pub bob_first : ℕ
bob_first = 120

-- first_shares as a set
unfoldable pub first_set : ℕ → ℕ
first_set party = pick (eqb party alice) alice_first bob_first

-- Alice or Bob, where neither lock, whose slots these are, is confirmed: of one whose first shares are not made this is phase 0
unfoldable pub is_early : ℕ → Slot → Slot → Bool
is_early party a b = ltb party 2 && (eqb a.height 0 && eqb b.height 0)

-- a transaction of the sheet, or 255 on a sheet that has the first shares' transactions
unfoldable pub shareable : List ℕ → ℕ → Bool
shareable s t = ltb t (count s) || (eqb t no_transaction && ltb timeout (count s))
