-- The checks 1 to 8 of a sheet: document 01's refusal table, each line as the test that must hold.
-- Assumes nothing.
use Rattle.std.specs.Prelude.{ℕ, ◌+◌, ◌*◌, ◌^◌, Bool, not, ◌&&◌, ◌||◌, List, [], ◌∷◌, eqb, ltb, leb, length}
use Rattle.std.specs.Bool.{beq}
use Rattle.laws.specs.Booleans.{pick}
use Rattle.laws.specs.Below.{all_below, any_below}
use Rattle.laws.specs.Failing.{first_failing}
use Rattle.sheet.specs.Refusal.{sheet_short, sheet_count, sheet_signatures, sheet_length, sheet_parent, sheet_entry, sheet_lock, sheet_children}
use Rattle.sheet.specs.Field.{parties, count, arrays, signatures, secrets, start_mask, parent, payees, required, veil, lock_type, days, opening}

-- 1 "sheet under 5 bytes"; document 02, Slip 10: "1 then means under 6 bytes"
unfoldable pub head_right : List ℕ → Bool
head_right s = leb (arrays s) (length s)

-- 2 "n outside 1 to 32"
unfoldable pub count_right : List ℕ → Bool
count_right s = leb 1 (count s) && leb (count s) 32

-- a mask that is not "beyond s": it has no bit but those of the s signatures
unfoldable pub within : List ℕ → ℕ → Bool
within s mask = ltb mask (2 ^ signatures s)

-- "a head mask beyond s": the secrets, and the start mask of each party
unfoldable pub masks_right : List ℕ → Bool
masks_right s = within s (secrets s) && all_below (parties s) (λ k. within s (start_mask s k))

-- 3 "s outside 1 to 8, or a head mask beyond s"
unfoldable pub signatures_right : List ℕ → Bool
signatures_right s = leb 1 (signatures s) && (leb (signatures s) 8 && masks_right s)

-- 4 "length not 5 + 6n"; Slip 10: "its length is 6 + 6n"
unfoldable pub length_right : List ℕ → Bool
length_right s = eqb (length s) (arrays s + 6 * count s)

-- 5 "parent neither 255 nor lower"
unfoldable pub parent_right : List ℕ → ℕ → Bool
parent_right s t = opening s t || ltb (parent s t) t

-- 6 "payees, needs (zero too) or veil out of range": of the payees, a bit for each party
unfoldable pub entry_right : List ℕ → ℕ → Bool
entry_right s t = ltb (payees s t) (2 ^ parties s) && (leb 1 (required s t) && (within s (required s t) && leb (veil s t) 1))

-- "days (0 for type 0, else 1 to 255)"
unfoldable pub days_right : List ℕ → ℕ → Bool
days_right s t = pick (eqb (lock_type s t) 0) (eqb (days s t) 0) (leb 1 (days s t) && leb (days s t) 255)

-- 7 "lock pair out of range, or type 2 without parent"
unfoldable pub lock_right : List ℕ → ℕ → Bool
lock_right s t = leb (lock_type s t) 2 && (days_right s t && not (eqb (lock_type s t) 2 && opening s t))

-- some transaction has t for its parent
unfoldable pub has_child : List ℕ → ℕ → Bool
has_child s t = any_below (count s) (λ k. eqb (parent s k) t)

-- 8 "payees 0 without child, or payees with child"
unfoldable pub children_right : List ℕ → ℕ → Bool
children_right s t = beq (eqb (payees s t) 0) (has_child s t)

-- 5 to 8, each for all transactions before the next for any
unfoldable pub array_tests : List ℕ → List (ℕ × Bool)
array_tests s =
    (sheet_parent, all_below (count s) (parent_right s))
    ∷ (sheet_entry, all_below (count s) (entry_right s))
    ∷ (sheet_lock, all_below (count s) (lock_right s))
    ∷ (sheet_children, all_below (count s) (children_right s))
    ∷ []

-- "Checks go by rising number"
unfoldable pub sheet_tests : List ℕ → List (ℕ × Bool)
sheet_tests s =
    (sheet_short, head_right s)
    ∷ (sheet_count, count_right s)
    ∷ (sheet_signatures, signatures_right s)
    ∷ (sheet_length, length_right s)
    ∷ array_tests s

-- the answer of the check of a sheet
unfoldable pub sheet_refusal : List ℕ → ℕ
sheet_refusal s = first_failing (sheet_tests s)
