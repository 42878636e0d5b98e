-- A journal with one more step behind it: its steps, and its run.
-- Assumes nothing.
use Rattle.laws.proofs.Prelude.{ℕ, ◌+◌, ◌%◌, ◌≤◌, ◌≡◌, refl, ap, ◌∙◌, true, List, [], ◌∷◌, ◌++◌, length, length-append, eq-eqb, le-leb, arith, first_failing}
use Rattle.position.proofs.Rules.{accepted, start, FourBytes, journal_steps, step, run_from, journal_right, call_tests, run}
use Rattle.position.specs.declared.Position.{Position}
use Rattle.call_run.proofs.Calls.{sheet_passes, setup_passes, journal_whole}
use Rattle.call_run.proofs.Runs.{row_append, run_allowed, run_checked}
use Rattle.position.proofs.RowSteps.{run_next, run_ends}
use Rattle.call_ask.specs.Ask.{step_count, step_of}
use Rattle.call_ask.proofs.Opens.{after_setup, call_tests_lem}

-- the steps of a journal of whole steps, and of what follows it
pub steps_append : (j b : List ℕ) → length j % 4 ≡ 0 → journal_steps (j ++ b) ≡ journal_steps j ++ journal_steps b
unfolding journal_steps
steps_append [] b h = refl
steps_append (k ∷ []) b h = absurd (omega arith)
steps_append (k ∷ a ∷ []) b h = absurd (omega arith)
steps_append (k ∷ a ∷ t ∷ []) b h = absurd (omega arith)
steps_append (k ∷ a ∷ t ∷ d ∷ j) b h = ap (λ r. record { kind = k; party = a; transaction = t; destination = d } ∷ r) (steps_append j b (omega arith))

-- four bytes are one step
pub steps_four : (b : List ℕ) → length b ≡ 4 → journal_steps b ≡ step_of b ∷ []
unfolding journal_steps step_of
steps_four [] h = absurd (omega arith)
steps_four (k ∷ []) h = absurd (omega arith)
steps_four (k ∷ a ∷ []) h = absurd (omega arith)
steps_four (k ∷ a ∷ t ∷ []) h = absurd (omega arith)
steps_four (k ∷ a ∷ t ∷ d ∷ []) h = refl
steps_four (k ∷ a ∷ t ∷ d ∷ x ∷ b) h = absurd (omega arith)

-- so there is one more
pub one_more : (j b : List ℕ) → length j % 4 ≡ 0 → length b ≡ 4 → step_count (j ++ b) ≡ step_count j + 1
unfolding step_count
one_more j b h f = rw (steps_append j b h, steps_four b f) (length-append (journal_steps j) (step_of b ∷ []))

module _ (s u : List ℕ) where
  -- a row of one accepted step
  row_one : (b : FourBytes) (c : ℕ) (p : Position) → (step s u p b).refusal ≡ 0 → ((run_from s u (b ∷ []) c p).refusal ≡ 0) × ((run_from s u (b ∷ []) c p).accepted ≡ c + 1)
  row_one b c p h = rw (run_next s u b [] c p (eq-eqb (step s u p b).refusal accepted h), run_ends s u (c + 1) (step s u p b).position) (refl, refl)

  module _ (j b : List ℕ) (z : (run s u j).refusal ≡ 0) (f : length b ≡ 4) where
    passed : first_failing (call_tests s u j) ≡ 0
    passed = run_checked s u j z

    pub whole : length j % 4 ≡ 0
    whole = (journal_whole s u j passed).0

    -- the longer journal passes the tests before any step
    right : length j + 4 ≤ 65536 → journal_right (j ++ b) ≡ true
    unfolding journal_right
    right m =
        let l = length-append j b in
        rw (eq-eqb (length (j ++ b) % 4) 0 (omega (arith, l, f, whole)), le-leb (length (j ++ b)) 65536 (omega (arith, l, f)))

    checked : length j + 4 ≤ 65536 → first_failing (call_tests s u (j ++ b)) ≡ 0
    unfolding first_failing
    checked m =
        call_tests_lem s u (j ++ b)
        ∙ after_setup s u (journal_right (j ++ b)) (sheet_passes s u j passed) (setup_passes s u j passed)
        ∙ rw (right m)

    -- and is accepted whole, one step longer
    pub run_appended : length j + 4 ≤ 65536 → (step s u (run s u j).position (step_of b)).refusal ≡ 0
        → ((run s u (j ++ b)).refusal ≡ 0) × ((run s u (j ++ b)).accepted ≡ (run s u j).accepted + 1)
    run_appended m g =
        let e = run_allowed s u j passed in
        rw (run_allowed s u (j ++ b) (checked m), steps_append j b whole, steps_four b f, row_append s u (journal_steps j) (step_of b ∷ []) 0 (start s) (rw e at z), ← e)
        (row_one (step_of b) (run s u j).accepted (run s u j).position g)
