-- How large a run's answers can be.
-- Assumes nothing.
use Rattle.laws.proofs.Prelude.{ℕ, ◌+◌, ◌*◌, ◌≤◌, ◌<◌, ◌≡◌, refl, List, [], ◌∷◌, eqb, lit<, lit≤, length, eqb-true, eqb-false, arith, split, first_failing, answer_below}
use Rattle.position.proofs.Rules.{accepted, array_tests, sheet_tests, setup_tests, Step, Share, Give, SendToPool, HandToMiner, Include, Mine, Bump, Option, Some, None}
use Rattle.position.proofs.Rules.{start, share_tests, give_tests, send_tests, pool_tests, miner_tests, include_tests, mine_tests, bump_tests, step_refusal}
use Rattle.position.specs.declared.Position.{Position}
use Rattle.position.specs.declared.Ran.{Ran}
use Rattle.position.proofs.Rules.{FourBytes, journal_steps, decode_bytes, take_step, take_decoded, step, run_from, call_tests, run, pass_on}
use Rattle.position.specs.StepRefusal.{tests}
use Rattle.position.proofs.Passing.{passed_on, not_passed_on, fitted_bounds}
use Rattle.call_run.proofs.Calls.{journal_whole}
use Rattle.call_run.proofs.Runs.{run_allowed, run_refused}
use Rattle.position.proofs.RowSteps.{run_next, run_stops, run_ends}

-- a journal has four bytes for each step
pub steps_bytes : (j : List ℕ) → 4 * length (journal_steps j) ≤ length j
unfolding journal_steps
steps_bytes [] = lit≤ tt
steps_bytes (k ∷ []) = lit≤ tt
steps_bytes (k ∷ a ∷ []) = lit≤ tt
steps_bytes (k ∷ a ∷ t ∷ []) = lit≤ tt
steps_bytes (k ∷ a ∷ t ∷ d ∷ rest) = omega (arith, steps_bytes rest)

module _ (s u : List ℕ) where
  -- the numbers of a step's tests are below 25, those of a call's below 33
  tests_below : (p : Position) (x : Step) → step_refusal s u p x < 25
  unfolding step_refusal tests share_tests give_tests send_tests pool_tests miner_tests include_tests mine_tests bump_tests
  tests_below p (Share party t to) = answer_below 25 (tests s u p (Share party t to)) (lit< tt) refl
  tests_below p (Give party i to) = answer_below 25 (tests s u p (Give party i to)) (lit< tt) refl
  tests_below p (SendToPool party t to) = answer_below 25 (tests s u p (SendToPool party t to)) (lit< tt) refl
  tests_below p (HandToMiner party t to) = answer_below 25 (tests s u p (HandToMiner party t to)) (lit< tt) refl
  tests_below p (Include party t to) = answer_below 25 (tests s u p (Include party t to)) (lit< tt) refl
  tests_below p (Mine party t to) = answer_below 25 (tests s u p (Mine party t to)) (lit< tt) refl
  tests_below p (Bump party t to) = answer_below 25 (tests s u p (Bump party t to)) (lit< tt) refl

  call_below : (j : List ℕ) → first_failing (call_tests s u j) < 33
  unfolding call_tests sheet_tests array_tests setup_tests
  call_below j = answer_below 33 (call_tests s u j) (lit< tt) refl

  take_below : (p : Position) (x : Step) → (take_step s u p x).refusal < 25
  unfolding take_step
  take_below p x =
      split (eqb (step_refusal s u p x) accepted)
      (λ e. rw (e, take_step) (lit< tt))
      (λ e. rw (e, take_step) (tests_below p x))

  decoded_below : (p : Position) (y : Option Step) → (take_decoded s u p y).refusal < 25
  unfolding take_decoded
  decoded_below p (Some x) = take_below p x
  decoded_below p None = lit< tt

  pub step_below : (p : Position) (b : FourBytes) → (step s u p b).refusal < 25
  unfolding step
  step_below p b = decoded_below p (decode_bytes s u b)

  -- of a row of steps, no more than all are accepted after the c others
  row_bounds : (bs : List FourBytes) (c : ℕ) (p : Position) → ((run_from s u bs c p).refusal < 25) × ((run_from s u bs c p).accepted ≤ c + length bs)
  row_bounds [] c p = rw (run_ends s u c p) (lit< tt, omega arith)
  row_bounds (b ∷ bs) c p =
      split (eqb (step s u p b).refusal accepted)
      (λ e.
      let w = row_bounds bs (c + 1) (step s u p b).position in
      rw (run_next s u b bs c p e) (w.0, omega (arith, w.1)))
      (λ e. rw (run_stops s u b bs c p e) (step_below p b, omega arith))

  module _ (j : List ℕ) where
    -- a run's refusal is one of the numbers below 33, and the steps that it accepts are steps of the journal
    pub run_bounds : ((run s u j).refusal < 33) × (4 * (run s u j).accepted ≤ length j) × ((run s u j).accepted ≤ 16384)
    run_bounds =
        split (eqb (first_failing (call_tests s u j)) 0)
        (λ e.
        let h = eqb-true (first_failing (call_tests s u j)) 0 e in
        let w = row_bounds (journal_steps j) 0 (start s) in
        let z : 4 * (run_from s u (journal_steps j) 0 (start s)).accepted ≤ length j = omega (arith, w.1, steps_bytes j) in
        rw (run_allowed s u j h) (omega (arith, w.0), z, omega (arith, z, (journal_whole s u j h).1)))
        (λ e.
        rw (run_refused s u j (eqb-false (first_failing (call_tests s u j)) 0 e)) (call_below j, omega arith, lit≤ tt))

    -- the same of what the code found
    pub ran_bounds : (r : Ran) → r ≡ run s u j → (r.refusal < 33) × (4 * r.accepted ≤ length j) × (r.accepted ≤ 16384)
    ran_bounds r e = rw e run_bounds

    -- a call that writes passes on the run's refusal or has one of its own, 25; it counts n at most
    pub written_bounds : (bytes out : List ℕ) (n : ℕ) → ((pass_on (run s u j) bytes n out).refusal < 33) × ((pass_on (run s u j) bytes n out).count ≤ n)
    written_bounds bytes out n =
        split (eqb (run s u j).refusal accepted)
        (λ e.
        let w = fitted_bounds bytes out n in
        rw (passed_on (run s u j) bytes out n (eqb-true (run s u j).refusal accepted e)) (omega (arith, w.0), w.1))
        (λ e. rw (not_passed_on (run s u j) bytes out n (eqb-false (run s u j).refusal accepted e)) (omega (arith, run_bounds.0), omega arith))
