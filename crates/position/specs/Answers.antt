-- What the outward calls answer: numbers, counts, the part of the journal, the buffers afterwards. The check's number is `sheet_refusal`; the
-- report's answer stands with Slip 9's counts, in crate `dated`.
-- Assumes nothing.
use Rattle.std.specs.Prelude.{ℕ, ◌+◌, ◌*◌, true, false, List, eqb, leb, length, drop}
use Rattle.laws.specs.Over.{over}
use Rattle.sheet.specs.Refusal.{accepted, buffer_short}
use Rattle.position.specs.declared.Ran.{Ran}
use Rattle.position.specs.Play.{run}
use Rattle.position.specs.Open.{open_steps, list_bytes}

-- "C gets one number, refusal × 65,536 + count"
unfoldable pub packed : ℕ → ℕ → ℕ
packed refusal count = refusal * 65536 + count

-- "the rest of the journal as a part of the caller's bytes, starting at the refused step, empty if none"
unfoldable pub run_part : List ℕ → List ℕ → List ℕ → List ℕ
run_part s u j = drop (4 * (run s u j).accepted) j

-- the answer of a call that writes: its number, its count, and its buffer afterwards
pub record Written : Type 0 where
  pub refusal : ℕ
  pub count : ℕ
  pub buffer : List ℕ

-- 25 "buffer too short for list or report"; "Bytes after the output keep their values.", "a refusal changes no buffer"
unfoldable pub fitted : List ℕ → ℕ → List ℕ → Written
fitted bytes n out =
    elim (leb (length bytes) (length out)) [
      | true ↦ record { refusal = accepted; count = n; buffer = over bytes out }
      | false ↦ record { refusal = buffer_short; count = 0; buffer = out }
    ]

-- "List and report pass on a journal's refusal."
unfoldable pub pass_on : Ran → List ℕ → ℕ → List ℕ → Written
pass_on r bytes n out =
    elim (eqb r.refusal accepted)
    [ true ↦ fitted bytes n out | false ↦ record { refusal = r.refusal; count = 0; buffer = out } ]

-- "list open steps": "it answers the number and the steps written"
unfoldable pub list_answer : List ℕ → List ℕ → List ℕ → List ℕ → Written
list_answer s u j out =
    let r = run s u j in
    let bytes = list_bytes s u r.position in
    let n = length (open_steps s u r.position) in
    pass_on r bytes n out
