-- Slip 3, "Lock before signature.": document 01's order of the tests of a send, and what the slip says of the answers by it and now.
-- Assumes nothing.
use Rattle.std.specs.Prelude.{ℕ, ◌+◌, ◌≡◌, Bool, true, false, not, ◌&&◌, ◌||◌, ◌⊎◌, List, [], ◌∷◌, ◌++◌, eqb, ltb, leb, Option, Some, None}
use Rattle.laws.specs.Below.{any_below}
use Rattle.laws.specs.Failing.{first_failing, test_of}
use Rattle.laws.specs.Gather.{every}
use Rattle.sheet.specs.Refusal.{accepted, step_stealth, step_conduct, step_conflict, step_parent, step_signatures, step_lock, step_deadline, step_field}
use Rattle.sheet.specs.Field.{count}
use Rattle.sheet.specs.Setup.{stealth}
use Rattle.slots.specs.declared.Step.{Step}
use Rattle.slots.specs.declared.Step.TheVariants.{Share, Give, SendToPool, HandToMiner, Include, Mine, Bump}
use Rattle.slots.specs.Destination.{destination_number, is_payee, is_contract}
use Rattle.slots.specs.Conflict.{no_conflict}
use Rattle.slots.specs.Ancestry.{has_parent}
use Rattle.slots.specs.Signatures.{signed}
use Rattle.position.specs.declared.Position.{Position}
use Rattle.position.specs.declared.Stepped.{Stepped}
use Rattle.position.specs.declared.Ran.{Ran}
use Rattle.position.specs.Position.{start, sent, placed, sender_has, lock_height_in, deadline_in}
use Rattle.position.specs.Conduct.{is_careful, send_allowed}
use Rattle.position.specs.StepRefusal.{tests, step_refusal}
use Rattle.position.specs.Effect.{effect}
use Rattle.position.specs.Play.{FourBytes, journal_steps, decode_bytes, call_tests}

-- ---- the older order: "Checks go by rising number"

-- what kinds 3 and 4 share: 16 before 17
unfoldable pub older_send_tests : Bool → List ℕ → List ℕ → Position → (ℕ → Bool) → ℕ → ℕ → ℕ → List (ℕ × Bool)
older_send_tests allowed s u p members party t destination =
    (step_conduct, allowed)
    ∷ (step_conflict, no_conflict s members t)
    ∷ (step_parent, has_parent s members t)
    ∷ (step_signatures, signed s (sender_has s p party t destination) t)
    ∷ (step_lock, leb (lock_height_in s u p t) p.mined)
    ∷ []

-- 3 "Send to pool"
unfoldable pub older_pool_tests : Bool → List ℕ → List ℕ → Position → ℕ → ℕ → ℕ → List (ℕ × Bool)
older_pool_tests allowed s u p party t destination =
    older_send_tests allowed s u p (sent p) party t destination ++ ((step_deadline, ltb p.mined (deadline_in s u p t)) ∷ [])

-- 4 "Hand to miner"
unfoldable pub older_miner_tests : Bool → List ℕ → List ℕ → Position → ℕ → ℕ → ℕ → List (ℕ × Bool)
older_miner_tests allowed s u p party t destination =
    (step_stealth, eqb (stealth u) 1) ∷ older_send_tests allowed s u p (placed p) party t destination

-- "whose send of some paying transaction would pass all these rules", by the older tests
unfoldable pub older_paying_passes : List ℕ → List ℕ → Position → ℕ → ℕ → Bool
older_paying_passes s u p party t =
    eqb (first_failing (older_pool_tests (send_allowed s u p party t) s u p party t party)) accepted
    || eqb (first_failing (older_miner_tests (send_allowed s u p party t) s u p party t party)) accepted

-- the same of some transaction that has the party for a payee
unfoldable pub older_can_pay : List ℕ → List ℕ → Position → ℕ → Bool
older_can_pay s u p party =
    any_below (count s) (λ t. elim (is_payee s t party) [ true ↦ older_paying_passes s u p party t | false ↦ false ])

-- "A party whose send of some paying transaction would pass all these rules sends no contract one."
unfoldable pub older_paying_first : List ℕ → List ℕ → Position → ℕ → ℕ → Bool
older_paying_first s u p party t = elim (is_careful u && is_contract s t) [ true ↦ not (older_can_pay s u p party) | false ↦ true ]

-- 13 of a send: the other lines of conduct look at no test of a send
unfoldable pub older_allows : List ℕ → List ℕ → Position → ℕ → ℕ → Bool
older_allows s u p party t = send_allowed s u p party t && older_paying_first s u p party t

-- the refusal number of a step by the older order; kinds 1, 2, 5, 6 and 7 have no part in it
unfoldable pub older_refusal : List ℕ → List ℕ → Position → Step → ℕ
older_refusal s u p (Share party t to) = step_refusal s u p (Share party t to)
older_refusal s u p (Give party i to) = step_refusal s u p (Give party i to)
older_refusal s u p (SendToPool party t to) =
    first_failing (older_pool_tests (older_allows s u p party t) s u p party t (destination_number to))
older_refusal s u p (HandToMiner party t to) =
    first_failing (older_miner_tests (older_allows s u p party t) s u p party t (destination_number to))
older_refusal s u p (Include party t to) = step_refusal s u p (Include party t to)
older_refusal s u p (Mine party t to) = step_refusal s u p (Mine party t to)
older_refusal s u p (Bump party t to) = step_refusal s u p (Bump party t to)

-- ---- the answers

-- "meets" a number: the test of that number fails, wherever it stands
unfoldable pub meets : ℕ → List (ℕ × Bool) → Bool
meets n l = not (test_of n l)

-- not "refused by a number below" this one: no test of a lower number fails
unfoldable pub passes_below : ℕ → List (ℕ × Bool) → Bool
passes_below n l = every (λ x. not (ltb x.0 n) || x.1) l

-- "met both 16 and 17"
unfoldable pub meets_both : List (ℕ × Bool) → Bool
meets_both l = meets step_signatures l && (meets step_lock l && passes_below step_signatures l)

-- "kinds 3 and 4"
unfoldable pub is_send : Step → Bool
is_send (Share party t to) = false
is_send (Give party i to) = false
is_send (SendToPool party t to) = true
is_send (HandToMiner party t to) = true
is_send (Include party t to) = false
is_send (Mine party t to) = false
is_send (Bump party t to) = false

-- a step that met both: what it got and gets
pub record LockFirst (s u : List ℕ) (p : Position) (x : Step) : Type 0 where
  pub send : is_send x ≡ true
  pub got : older_refusal s u p x ≡ step_signatures
  pub gets : step_refusal s u p x ≡ step_lock

-- the slip's words on one step
pub record SameButBoth (s u : List ℕ) (p : Position) (x : Step) : Type 0 where
  -- "the accepted steps are the same set"
  pub accepts : eqb (older_refusal s u p x) accepted ≡ eqb (step_refusal s u p x) accepted
  -- "Old answers that change: kinds 3 and 4 that met both 16 and 17 got 16 and now get 17."
  pub both : meets_both (tests s u p x) ≡ true → LockFirst s u p x
  -- every other step gets the number that it got
  pub others : meets_both (tests s u p x) ≡ false → older_refusal s u p x ≡ step_refusal s u p x
  -- "A step that meets only one of them answers as it did": where it does not meet 16, or not 17
  pub without_16 : meets step_signatures (tests s u p x) ≡ false → older_refusal s u p x ≡ step_refusal s u p x
  pub without_17 : meets step_lock (tests s u p x) ≡ false → older_refusal s u p x ≡ step_refusal s u p x
  -- "and so does one refused by a number below 16"
  pub below_16 : ltb (older_refusal s u p x) step_signatures ≡ true → older_refusal s u p x ≡ step_refusal s u p x

-- ---- a journal

-- one step of four bytes by the older order
unfoldable pub older_take : List ℕ → List ℕ → Position → Option Step → Stepped
older_take s u p (Some x) =
    let number = older_refusal s u p x in
    elim (eqb number accepted) [
      | true ↦ record { refusal = accepted; position = effect s p x }
      | false ↦ record { refusal = number; position = p }
    ]
older_take s u p None = record { refusal = step_field; position = p }

-- the steps of a row up to the first refused one, after c accepted ones
unfoldable pub older_run_from : List ℕ → List ℕ → List FourBytes → ℕ → Position → Ran
older_run_from s u [] c p = record { refusal = accepted; accepted = c; position = p }
older_run_from s u (b ∷ bs) c p =
    let r = older_take s u p (decode_bytes s u b) in
    elim (eqb r.refusal accepted) [
      | true ↦ older_run_from s u bs (c + 1) r.position
      | false ↦ record { refusal = r.refusal; accepted = c; position = p }
    ]

-- "run a journal", by the older order
unfoldable pub older_run : List ℕ → List ℕ → List ℕ → Ran
older_run s u j =
    let number = first_failing (call_tests s u j) in
    elim (eqb number accepted) [
      | true ↦ older_run_from s u (journal_steps j) 0 (start s)
      | false ↦ record { refusal = number; accepted = 0; position = start s }
    ]

-- what a journal got and gets: as many steps accepted, the same position, the same number or 17 for 16
pub record SameRun (older now : Ran) : Type 0 where
  pub accepted : older.accepted ≡ now.accepted
  pub position : older.position ≡ now.position
  pub refusal : (older.refusal ≡ now.refusal) ⊎ ((older.refusal ≡ step_signatures) × (now.refusal ≡ step_lock))
