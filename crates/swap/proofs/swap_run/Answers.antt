-- The answer fits the number that C gets, and its count is where the rest starts.
use Rattle.laws.proofs.Prelude.{ℕ, ◌+◌, ◌*◌, ◌%◌, ◌≤◌, ◌≡◌, List, drop, arith}
use Rattle.position.specs.Play.{run}
use Rattle.position.specs.Answers.{packed, run_part}
use Rattle.call_run.proofs.Bounds.{run_bounds}
use Rattle.swap.proofs.swap_run.Goals as goal

count-packed : (x y : ℕ) → y ≤ 16384 → (x * 65536 + y) % 65536 ≡ y
count-packed x y h = omega (arith, h)

-- where x and y are the numbers that the code found
module _ (s u j : List ℕ) (x y : ℕ) (e : x ≡ (run s u j).refusal) (f : y ≡ (run s u j).accepted) where
  packs : x * 65536 + y ≡ packed (run s u j).refusal (run s u j).accepted
  unfolding packed
  packs = rw (e, f)

  part-starts : run_part s u j ≡ drop (4 * ((x * 65536 + y) % 65536)) j
  unfolding run_part
  part-starts = rw (count-packed x y (rw f (run_bounds s u j).2), f)

pub overflow_mul-result : goal.overflow_mul-result
overflow_mul-result c = record { fits = omega (arith, c.run-rest.ensures.refusal_after, (run_bounds c.args.sheet.now c.args.setup.now c.args.journal.now).0) }

pub overflow_add-result : goal.overflow_add-result
overflow_add-result c =
    let b = run_bounds c.args.sheet.now c.args.setup.now c.args.journal.now in
    record { fits = omega (arith, c.run-rest.ensures.refusal_after, c.run-rest.ensures.accepted_after, b.0, b.2) }

pub returns-clause-value : goal.returns-clause-value
returns-clause-value c = packs _ _ _ _ _ c.run-rest.ensures.refusal_after c.run-rest.ensures.accepted_after

pub returns-clause-journal_value : goal.returns-clause-journal_value
returns-clause-journal_value c = part-starts _ _ _ _ _ c.run-rest.ensures.refusal_after c.run-rest.ensures.accepted_after
