-- Steps and runs without the counts are the model's.
-- Assumes nothing.
use Rattle.laws.proofs.Prelude.{ℕ, ◌+◌, ◌≡◌, refl, sym, ap, ◌∙◌, true, false, List, [], ◌∷◌, eqb, eqb-true, split, first_failing}
use Rattle.position.proofs.Rules.{accepted, start, FourBytes, journal_steps, step, run_from, call_tests, run}
use Rattle.position.specs.declared.Position.{Position}
use Rattle.position.proofs.StepCases.{refused_same}
use Rattle.dated.specs.declared.Dated.{Dated}
use Rattle.dated.specs.Dated.{AfterStep, unseen, dated_start, dated_step, dated_run_from, dated_run, forgotten}
use Rattle.dated.proofs.Stepping.{step_taken, step_refused, run_next, run_stops}
use Rattle.position.proofs.RowSteps as row

-- the number and the position of a step
module _ (s u : List ℕ) (d : Dated) (b : FourBytes) where
  pub step_number_lem : (dated_step s u d b).refusal ≡ (step s u d.position b).refusal
  step_number_lem =
      split (eqb (step s u d.position b).refusal accepted)
      (λ y. ap (λ (r : AfterStep). r.refusal) (step_taken s u d b y) ∙ sym (eqb-true (step s u d.position b).refusal accepted y))
      (λ y. ap (λ (r : AfterStep). r.refusal) (step_refused s u d b y))

  pub step_position : (dated_step s u d b).dated.position ≡ (step s u d.position b).position
  step_position =
      split (eqb (step s u d.position b).refusal accepted)
      (λ y. ap (λ (r : AfterStep). r.dated.position) (step_taken s u d b y))
      (λ y. ap (λ (r : AfterStep). r.dated.position) (step_refused s u d b y) ∙ sym (refused_same s u d.position b y))

module _ (s u : List ℕ) where
  pub forgotten_from : (bs : List FourBytes) (c : ℕ) (d : Dated) → forgotten (dated_run_from s u bs c d) ≡ run_from s u bs c d.position
  unfolding forgotten dated_run_from run_from
  forgotten_from [] c d = refl
  forgotten_from (b ∷ bs) c d =
      split (eqb (step s u d.position b).refusal accepted)
      (λ y.
      let n : eqb (dated_step s u d b).refusal accepted ≡ true = ap (λ x. eqb x accepted) (step_number_lem s u d b) ∙ y in
      ap forgotten (run_next s u b bs c d n)
      ∙ forgotten_from bs (c + 1) (dated_step s u d b).dated
      ∙ ap (λ (q : Position). run_from s u bs (c + 1) q) (step_position s u d b)
      ∙ sym (row.run_next s u b bs c d.position y))
      (λ y.
      let n : eqb (dated_step s u d b).refusal accepted ≡ false = ap (λ x. eqb x accepted) (step_number_lem s u d b) ∙ y in
      ap forgotten (run_stops s u b bs c d n)
      ∙ ap (λ (x : ℕ). record { refusal = x; accepted = c; position = d.position }) (step_number_lem s u d b)
      ∙ sym (row.run_stops s u b bs c d.position y))

-- a call by its number
module _ (s u j : List ℕ) where
  pub dated_allowed : first_failing (call_tests s u j) ≡ accepted → dated_run s u j ≡ dated_run_from s u (journal_steps j) 0 (dated_start s u)
  unfolding dated_run
  dated_allowed h = rw (h, dated_run)

  pub dated_refused : eqb (first_failing (call_tests s u j)) accepted ≡ false → dated_run s u j ≡ record { refusal = first_failing (call_tests s u j); accepted = 0; dated = unseen s }
  unfolding dated_run
  dated_refused h = rw (h, dated_run)

  model_allowed : first_failing (call_tests s u j) ≡ accepted → run s u j ≡ run_from s u (journal_steps j) 0 (start s)
  unfolding run
  model_allowed h = rw (h, run)

  model_refused : eqb (first_failing (call_tests s u j)) accepted ≡ false → run s u j ≡ record { refusal = first_failing (call_tests s u j); accepted = 0; position = start s }
  unfolding run
  model_refused h = rw (h, run)

  -- the run without its counts
  pub forgotten_run : forgotten (dated_run s u j) ≡ run s u j
  unfolding forgotten dated_start unseen
  forgotten_run =
      split (eqb (first_failing (call_tests s u j)) accepted)
      (λ y.
      let h = eqb-true (first_failing (call_tests s u j)) accepted y in
      ap forgotten (dated_allowed h) ∙ forgotten_from s u (journal_steps j) 0 (dated_start s u) ∙ sym (model_allowed h))
      (λ y. ap forgotten (dated_refused y) ∙ sym (model_refused y))
