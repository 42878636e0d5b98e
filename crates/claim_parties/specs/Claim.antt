-- A sheet of two beside the sheet of three with the same transactions, and a Carol who has nothing: document 02, Slip 10, changes nothing for
-- two parties. To be believed beside the rules: `with_carol` and `names_carol`.
-- Assumes nothing.
use Rattle.std.specs.Prelude.{ℕ, ◌+◌, ◌<◌, ◌≡◌, Bool, false, true, not, ◌||◌, List, ◌∷◌, eqb, drop}
use Rattle.laws.specs.Gather.{every}
use Rattle.sheet.specs.Refusal.{accepted}
use Rattle.sheet.specs.Field.{byte, signatures, secrets, start_mask}
use Rattle.sheet.specs.Check.{sheet_refusal}
use Rattle.sheet.specs.Setup.{conduct}
use Rattle.slots.specs.Destination.{carol}
use Rattle.position.specs.declared.Position.{Position}
use Rattle.position.specs.Play.{FourBytes, journal_steps, step, run}

-- "A first byte of 128 or more is 128 + n and announces a sheet with a third start mask after Bob's": the sheet s of two with an empty one
-- put in. Carol has no keys, and since payees are at most 3 she is nobody's payee.
unfoldable pub with_carol : List ℕ → List ℕ
with_carol s = (128 + byte s 0) ∷ signatures s ∷ secrets s ∷ start_mask s 0 ∷ start_mask s 1 ∷ 0 ∷ drop 5 s

-- "Carol is party 3 and destination 3": the step names her
unfoldable pub names_carol : FourBytes → Bool
names_carol b = eqb b.party carol || eqb b.destination carol

-- every step that does not name her has the same number and leads to the same position, from every position, reachable or not
abbrev pub StepAsTwo : Type 0
StepAsTwo =
    (s u : List ℕ)
    → byte s 0 < 128
    → conduct u ≡ 0
    → (p : Position) (b : FourBytes)
    → names_carol b ≡ false
    → step (with_carol s) u p b ≡ step s u p b

-- a sheet of two passes the check with Carol beside it, and a journal that does not name her has the same answer and the same position
pub record RunsAsTwo (s u j : List ℕ) : Type 0 where
  pub passes : sheet_refusal (with_carol s) ≡ accepted
  pub runs : run (with_carol s) u j ≡ run s u j

abbrev pub RunAsTwo : Type 0
RunAsTwo =
    (s u j : List ℕ)
    → byte s 0 < 128
    → sheet_refusal s ≡ accepted
    → conduct u ≡ 0
    → every (λ b. not (names_carol b)) (journal_steps j) ≡ true
    → RunsAsTwo s u j
