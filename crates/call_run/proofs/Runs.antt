-- A journal run: a row of steps by its first, behind another row, of one step or none; the checks before any step.
-- Assumes nothing.
use Rattle.laws.proofs.Prelude.{ℕ, ◌+◌, ◌-◌, ◌≤◌, ◌≡◌, refl, sym, ap, ◌∙◌, List, [], ◌∷◌, ◌++◌, eqb, length, take, drop, eqb-true, eqb-false, eq-eqb, ne_eqb, arith}
use Rattle.laws.proofs.Prelude.{split, first_failing}
use Rattle.position.proofs.Rules.{accepted, Fit, start, FourBytes, journal_steps, step, run_from, call_tests, run, step_at}
use Rattle.position.specs.declared.Position.{Position}
use Rattle.position.specs.declared.Ran.{Ran}
use Rattle.position.proofs.StepCases.{refused_same}
use Rattle.call_run.proofs.Groups.{groups_all, groups_none, part_step}
use Rattle.call_run.proofs.Calls.{call_fit}
use Rattle.position.proofs.RowSteps.{run_next, run_stops, run_ends}

module _ (s u : List ℕ) where
  -- a row that is accepted goes on with what follows it
  pub row_append : (bs cs : List FourBytes) (c : ℕ) (p : Position) → (run_from s u bs c p).refusal ≡ 0
      → run_from s u (bs ++ cs) c p ≡ run_from s u cs (run_from s u bs c p).accepted (run_from s u bs c p).position
  row_append [] cs c p h = rw (run_ends s u c p)
  row_append (b ∷ bs) cs c p h =
      split (eqb (step s u p b).refusal accepted)
      (λ e.
      let n = run_next s u b bs c p e in
      run_next s u b (bs ++ cs) c p e ∙ rw n (row_append bs cs (c + 1) (step s u p b).position (rw n at h)))
      (λ e. absurd (eqb-false (step s u p b).refusal accepted e (rw (run_stops s u b bs c p e) at h)))

  -- all steps of a row are counted where none is refused
  pub row_counts : (bs : List FourBytes) (c : ℕ) (p : Position) → (run_from s u bs c p).refusal ≡ 0 → (run_from s u bs c p).accepted ≡ c + length bs
  row_counts [] c p h = rw (run_ends s u c p) (omega arith)
  row_counts (b ∷ bs) c p h =
      split (eqb (step s u p b).refusal accepted)
      (λ e.
      let n = run_next s u b bs c p e in
      rw n (omega (arith, row_counts bs (c + 1) (step s u p b).position (rw n at h))))
      (λ e. absurd (eqb-false (step s u p b).refusal accepted e (rw (run_stops s u b bs c p e) at h)))

  -- a row of one step
  pub one_step : (b : FourBytes) (p : Position) → record { refusal = (run_from s u (b ∷ []) 0 p).refusal; position = (run_from s u (b ∷ []) 0 p).position } ≡ step s u p b
  one_step b p =
      split (eqb (step s u p b).refusal accepted)
      (λ e. let z = eqb-true (step s u p b).refusal accepted e in rw (run_next s u b [] 0 p e, run_ends s u 1 (step s u p b).position, ← z) refl)
      (λ e. let z = refused_same s u p b e in rw (run_stops s u b [] 0 p e) (ap (λ (q : Position). record { refusal = (step s u p b).refusal; position = q }) (sym z)))

module _ (s u j : List ℕ) where
  -- the step that starts at place i, run as a journal of one step, where r is what the code found
  pub ran_step : (i k : ℕ) (p : Position) (r : Ran) → i + 4 ≤ length j → k ≡ i + 4 → r ≡ run_from s u (journal_steps (take (k - i) (drop i j))) 0 p
      → record { refusal = r.refusal; position = r.position } ≡ step s u p (step_at j i)
  ran_step i k p r h e f = rw (f, part_step j i k h e) (one_step s u (step_at j i) p)

  -- a journal without a step
  pub run_none : (p : Position) → length j ≡ 0 → record { refusal = 0; accepted = 0; position = p } ≡ run_from s u (journal_steps j) 0 p
  run_none p h = rw (← (groups_all j), groups_none j 0 (omega (arith, h))) (sym (run_ends s u 0 p))

  -- a call whose number is 0 runs the journal; else its number is the answer
  pub run_allowed : first_failing (call_tests s u j) ≡ 0 → run s u j ≡ run_from s u (journal_steps j) 0 (start s)
  unfolding run
  run_allowed h = rw (eq-eqb (first_failing (call_tests s u j)) 0 h, run)

  pub run_refused : (first_failing (call_tests s u j) ≡ 0 → ⊥) → run s u j ≡ record { refusal = first_failing (call_tests s u j); accepted = 0; position = start s }
  unfolding run
  run_refused h = rw (ne_eqb (first_failing (call_tests s u j)) 0 h, run)

  -- the returns of the code, where n is the number that it found
  pub ran_refused : (n : ℕ) (p : Position) → n ≡ first_failing (call_tests s u j) → (n ≡ 0 → ⊥) → p ≡ start s → record { refusal = n; accepted = 0; position = p } ≡ run s u j
  ran_refused n p e z f = rw (e, f) (sym (run_refused (λ y. z (e ∙ y))))

  pub ran_allowed : (n : ℕ) (r : Ran) (p : Position) → n ≡ first_failing (call_tests s u j) → n ≡ 0 → p ≡ start s → r ≡ run_from s u (journal_steps j) 0 p → r ≡ run s u j
  ran_allowed n r p e z g f = f ∙ rw g (sym (run_allowed (sym e ∙ z)))

  -- a run that refuses nothing passed the checks before any step
  pub run_checked : (run s u j).refusal ≡ 0 → first_failing (call_tests s u j) ≡ 0
  run_checked z =
      split (eqb (first_failing (call_tests s u j)) 0)
      (λ y. eqb-true (first_failing (call_tests s u j)) 0 y)
      (λ y. rw (run_refused (eqb-false (first_failing (call_tests s u j)) 0 y)) at z)

  -- what these give, where r is what the code found
  pub ran_fit : (r : Ran) → r ≡ run s u j → r.refusal ≡ 0 → Fit s u
  ran_fit r e z = call_fit s u j (run_checked (rw e at z))
