-- Slip 11, "When could this ending come at the earliest?": what the call answers, and the block list that it writes.
-- Assumes nothing.
use Rattle.std.specs.Prelude.{ℕ, true, false, List, ◌++◌, eqb, length}
use Rattle.laws.specs.Failing.{first_failing}
use Rattle.sheet.specs.Refusal.{accepted}
use Rattle.sheet.specs.Check.{sheet_tests}
use Rattle.sheet.specs.Setup.{per_day, setup_tests}
use Rattle.ledger.specs.Entry.{Entry}
use Rattle.position.specs.Tests.{block_limit}
use Rattle.position.specs.Answers.{Written, fitted}
use Rattle.call_blocks.specs.BlockList.{list_bytes}
use Rattle.endings.specs.Plan.{plan}
use Rattle.endings.specs.Ending.{destination_of, ending_tests}

-- the number, 25 aside: "tested after the setup", "tested after 33"
unfoldable pub earliest_refusal : List ℕ → List ℕ → ℕ → List ℕ → ℕ
earliest_refusal s u mask dests = first_failing (sheet_tests s ++ (setup_tests s u ++ ending_tests s u mask dests))

-- "the block list that confirms them and their ancestors, each at its earliest block"
unfoldable pub earliest_list : List ℕ → List ℕ → ℕ → List ℕ → List Entry
earliest_list s u mask dests = plan s (per_day u) mask (destination_of mask dests) block_limit

-- "The answer has the entries written, 0 when refused. 25 is tested last."
unfoldable pub earliest_answer : List ℕ → List ℕ → ℕ → List ℕ → List ℕ → Written
earliest_answer s u mask dests out =
    let number = earliest_refusal s u mask dests in
    let l = earliest_list s u mask dests in
    elim (eqb number accepted) [
      | true ↦ fitted (list_bytes l) (length l) out
      | false ↦ record { refusal = number; count = 0; buffer = out }
    ]
