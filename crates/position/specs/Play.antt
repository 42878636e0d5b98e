-- Playing steps: one on a position, a journal up to its refusal, any row of steps with refused ones passed over.
-- Assumes nothing.
use Rattle.std.specs.Prelude.{ℕ, ◌+◌, ◌%◌, Bool, true, false, ◌&&◌, List, [], ◌∷◌, ◌++◌, eqb, leb, length, Option, Some, None}
use Rattle.laws.specs.Booleans.{pick}
use Rattle.laws.specs.Failing.{first_failing}
use Rattle.laws.specs.Gather.{gather}
use Rattle.sheet.specs.Refusal.{accepted, step_field, journal_length}
use Rattle.sheet.specs.Field.{count}
use Rattle.sheet.specs.Check.{sheet_tests}
use Rattle.sheet.specs.Setup.{setup_tests}
use Rattle.ledger.specs.Entry.{Entry}
use Rattle.slots.specs.declared.Step.{Step}
use Rattle.slots.specs.declared.Step.TheVariants.{Share, Give, SendToPool, HandToMiner, Include, Mine, Bump}
use Rattle.position.specs.declared.Position.{Position}
use Rattle.position.specs.declared.Stepped.{Stepped}
use Rattle.position.specs.declared.Ran.{Ran}
use Rattle.position.specs.Position.{start, in_block, block_to}
use Rattle.steps.specs.Decode.{decode}
use Rattle.position.specs.StepRefusal.{step_refusal}
use Rattle.position.specs.Effect.{effect}

-- "4-byte steps: kind, party .. transaction, destination"
pub record FourBytes : Type 0 where
  pub kind : ℕ
  pub party : ℕ
  pub transaction : ℕ
  pub destination : ℕ

-- "A journal is a row of 4-byte steps"
unfoldable pub journal_steps : List ℕ → List FourBytes
journal_steps [] = []
journal_steps (k ∷ []) = []
journal_steps (k ∷ a ∷ []) = []
journal_steps (k ∷ a ∷ t ∷ []) = []
journal_steps (k ∷ a ∷ t ∷ d ∷ rest) = record { kind = k; party = a; transaction = t; destination = d } ∷ journal_steps rest

-- the journal that these steps are
unfoldable pub journal_bytes : List FourBytes → List ℕ
journal_bytes [] = []
journal_bytes (b ∷ bs) = b.kind ∷ b.party ∷ b.transaction ∷ b.destination ∷ journal_bytes bs

-- a step of a journal, decoded
unfoldable pub decode_bytes : List ℕ → List ℕ → FourBytes → Option Step
decode_bytes s u b = decode s u b.kind b.party b.transaction b.destination

-- "The position goes into a step and comes back from it, whole, accepted or not."
unfoldable pub take_step : List ℕ → List ℕ → Position → Step → Stepped
take_step s u p x =
    let number = step_refusal s u p x in
    elim (eqb number accepted) [
      | true ↦ record { refusal = accepted; position = effect s p x }
      | false ↦ record { refusal = number; position = p }
    ]

-- 11 "step field out of range for its kind"
unfoldable pub take_decoded : List ℕ → List ℕ → Position → Option Step → Stepped
take_decoded s u p (Some x) = take_step s u p x
take_decoded s u p None = record { refusal = step_field; position = p }

-- one step of four bytes: its number, and the position whole
unfoldable pub step : List ℕ → List ℕ → Position → FourBytes → Stepped
step s u p b = take_decoded s u p (decode_bytes s u b)

-- the steps of a row up to the first refused one, after c accepted ones
unfoldable pub run_from : List ℕ → List ℕ → List FourBytes → ℕ → Position → Ran
run_from s u [] c p = record { refusal = accepted; accepted = c; position = p }
run_from s u (b ∷ bs) c p =
    let r = step s u p b in
    elim (eqb r.refusal accepted) [
      | true ↦ run_from s u bs (c + 1) r.position
      | false ↦ record { refusal = r.refusal; accepted = c; position = p }
    ]

-- 24 "journal not a multiple of 4, or over 65,536 bytes"
unfoldable pub journal_right : List ℕ → Bool
journal_right j = eqb (length j % 4) 0 && leb (length j) 65536

-- "Checks go by rising number, except that 24 stands right after 10, before any step"; document 02, Slip 10: 32 is "tested before 10"
unfoldable pub call_tests : List ℕ → List ℕ → List ℕ → List (ℕ × Bool)
call_tests s u j = sheet_tests s ++ (setup_tests s u ++ ((journal_length, journal_right j) ∷ []))

-- "run a journal": "the number (0 if none) and steps accepted"; "Under 1 to 10 and 24 the count is 0", under 32 "as under 10"
unfoldable pub run : List ℕ → List ℕ → List ℕ → Ran
run s u j =
    let number = first_failing (call_tests s u j) in
    elim (eqb number accepted) [
      | true ↦ run_from s u (journal_steps j) 0 (start s)
      | false ↦ record { refusal = number; accepted = 0; position = start s }
    ]

-- any row of steps from a position on, refused ones passed over: the position "after the last step"
unfoldable pub play : List ℕ → List ℕ → List FourBytes → Position → Position
play s u [] p = p
play s u (b ∷ bs) p = play s u bs (step s u p b).position

-- "the accepted steps" of such a row
unfoldable pub accepted_of : List ℕ → List ℕ → List FourBytes → Position → List FourBytes
accepted_of s u [] p = []
accepted_of s u (b ∷ bs) p =
    let r = step s u p b in
    pick (eqb r.refusal accepted) (b ∷ []) [] ++ accepted_of s u bs r.position

-- "the block is confirmed": the entries of the block being filled, by number, as entries of the next block
unfoldable pub block_entries : List ℕ → Position → List Entry
block_entries s p =
    gather (count s) (λ t. pick (in_block p t) (record { transaction = t; destination = block_to p t; block = p.mined + 1 } ∷ []) [])

-- what a step confirms: nothing but kind 6 does
unfoldable pub confirms : List ℕ → Position → Option Step → List Entry
confirms s p (Some (Share party t to)) = []
confirms s p (Some (Give party i to)) = []
confirms s p (Some (SendToPool party t to)) = []
confirms s p (Some (HandToMiner party t to)) = []
confirms s p (Some (Include party t to)) = []
confirms s p (Some (Mine party t to)) = block_entries s p
confirms s p (Some (Bump party t to)) = []
confirms s p None = []

-- "those that the accepted kind 6 steps confirm", of such a row
unfoldable pub confirmed_entries : List ℕ → List ℕ → List FourBytes → Position → List Entry
confirmed_entries s u [] p = []
confirmed_entries s u (b ∷ bs) p =
    let r = step s u p b in
    pick (eqb r.refusal accepted) (confirms s p (decode_bytes s u b)) [] ++ confirmed_entries s u bs r.position
