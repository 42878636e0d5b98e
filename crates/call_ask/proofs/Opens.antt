-- The journal's run behind the tests of both calls: with a length that passes it is run's.
-- Assumes nothing.
use Rattle.laws.proofs.Prelude.{ℕ, ◌≤◌, ◌<◌, ◌≡◌, refl, sym, ◌∙◌, Bool, true, false, false≢true, List, [], ◌∷◌, ◌++◌, eqb, lit<, lit≤, eqb-true, eqb-false, ne_eqb, arith}
use Rattle.laws.proofs.Prelude.{split, first_failing, passed, passed_append, failed_append, answer_below}
use Rattle.position.proofs.Rules.{journal_length, array_tests, sheet_tests, sheet_refusal, setup_tests, setup_refusal, Fit, start, journal_steps, journal_right}
use Rattle.position.specs.declared.Ran.{Ran}
use Rattle.position.proofs.Rules.{call_tests, run}
use Rattle.call_run.proofs.Runs.{row_counts, run_allowed, run_refused, run_checked, ran_fit}
use Rattle.call_run.proofs.Bounds.{run_bounds}
use Rattle.call_ask.specs.Ask.{open_tests, open_run, step_count}

module _ (s u : List ℕ) where
  abbrev rest : Bool → List (ℕ × Bool)
  rest right = (journal_length, right) ∷ []

  -- the tests one after another, where a and b are what the code found of the sheet and of the setup
  module _ (right : Bool) where
    after_sheet : sheet_refusal s ≡ 0 → first_failing (open_tests s u right) ≡ first_failing (setup_tests s u ++ rest right)
    unfolding sheet_refusal open_tests sheet_tests array_tests
    after_sheet h = passed_append (sheet_tests s) (setup_tests s u ++ rest right) refl h

    pub after_setup : sheet_refusal s ≡ 0 → setup_refusal s u ≡ 0 → first_failing (open_tests s u right) ≡ first_failing (rest right)
    unfolding setup_refusal setup_tests
    after_setup h k = after_sheet h ∙ passed_append (setup_tests s u) (rest right) refl k

    pub by_sheet : (a : ℕ) → a ≡ sheet_refusal s → (a ≡ 0 → ⊥) → a ≡ first_failing (open_tests s u right)
    unfolding sheet_refusal open_tests
    by_sheet a e n = e ∙ sym (failed_append (sheet_tests s) (setup_tests s u ++ rest right) (λ z. n (e ∙ z)))

    pub by_setup : (a b : ℕ) → a ≡ sheet_refusal s → a ≡ 0 → b ≡ setup_refusal s u → (b ≡ 0 → ⊥) → b ≡ first_failing (open_tests s u right)
    unfolding setup_refusal
    by_setup a b e z f n = f ∙ sym (failed_append (setup_tests s u) (rest right) (λ y. n (f ∙ y))) ∙ sym (after_sheet (sym e ∙ z))

  pub by_length : (a b : ℕ) → a ≡ sheet_refusal s → a ≡ 0 → b ≡ setup_refusal s u → b ≡ 0 → 24 ≡ first_failing (open_tests s u false)
  unfolding first_failing
  by_length a b e z f y = sym (after_setup false (sym e ∙ z) (sym f ∙ y))

  -- a refusal before 24 does not look at the length
  early : (right : Bool) → (first_failing (open_tests s u true) ≡ 0 → ⊥) → first_failing (open_tests s u right) ≡ first_failing (open_tests s u true)
  unfolding first_failing
  early right h =
      split (eqb (sheet_refusal s) 0)
      (λ e.
      let z = eqb-true (sheet_refusal s) 0 e in
      split (eqb (setup_refusal s u) 0)
      (λ f. absurd (h (after_setup true z (eqb-true (setup_refusal s u) 0 f))))
      (λ f.
      let n = eqb-false (setup_refusal s u) 0 f in
      sym (by_setup right (sheet_refusal s) (setup_refusal s u) refl z refl n)
      ∙ by_setup true (sheet_refusal s) (setup_refusal s u) refl z refl n))
      (λ e.
      let n = eqb-false (sheet_refusal s) 0 e in
      sym (by_sheet right (sheet_refusal s) refl n) ∙ by_sheet true (sheet_refusal s) refl n)

  -- run's tests are these, with its own 24
  pub call_tests_lem : (j : List ℕ) → first_failing (call_tests s u j) ≡ first_failing (open_tests s u (journal_right j))
  unfolding call_tests open_tests
  call_tests_lem j = refl

  wrong_refused : first_failing (open_tests s u false) ≡ 0 → ⊥
  unfolding open_tests sheet_tests array_tests setup_tests
  wrong_refused h = false≢true (passed (open_tests s u false) refl h 24)

  module _ (j : List ℕ) where
    -- a length that passes leaves the rest to run, one that does not leaves nothing
    pub open_right : run s u j ≡ open_run s u true j
    unfolding open_run
    open_right =
        split (eqb (first_failing (open_tests s u true)) 0)
        (λ e. rw (e, open_run))
        (λ e.
        let n = eqb-false (first_failing (open_tests s u true)) 0 e in
        let m = call_tests_lem j ∙ early (journal_right j) n in
        rw (e, open_run) (run_refused s u j (λ z. n (sym m ∙ z)) ∙ rw m))

    pub open_wrong : record { refusal = first_failing (open_tests s u false); accepted = 0; position = start s } ≡ open_run s u false j
    unfolding open_run
    open_wrong = rw (ne_eqb (first_failing (open_tests s u false)) 0 wrong_refused, open_run)

    -- where nothing is refused the length passed, and the run is run's
    pub opened_right : (right : Bool) → (open_run s u right j).refusal ≡ 0 → right ≡ true
    opened_right true h = refl
    opened_right false h = absurd (wrong_refused (rw (← open_wrong) at h))

    pub opened_run : (right : Bool) → (open_run s u right j).refusal ≡ 0 → open_run s u right j ≡ run s u j
    opened_run right h = let e = opened_right right h in rw e (sym open_right)

    pub opened_fit : (right : Bool) (r : Ran) → r ≡ open_run s u right j → r.refusal ≡ 0 → Fit s u
    opened_fit right r e z = ran_fit s u j r (e ∙ opened_run right (rw e at z)) z

  module _ (j : List ℕ) where
    -- run's count is that of the journal's steps
    pub run_counts : (run s u j).refusal ≡ 0 → (run s u j).accepted ≡ step_count j
    unfolding step_count
    run_counts z =
        let e = run_allowed s u j (run_checked s u j z) in
        rw e (omega (arith, row_counts s u (journal_steps j) 0 (start s) (rw e at z)))

    pub opened_counts : (right : Bool) (r : Ran) → r ≡ open_run s u right j → r.refusal ≡ 0 → r.accepted ≡ step_count j
    opened_counts right r e z =
        let f = e ∙ opened_run j right (rw e at z) in
        rw f (run_counts (rw f at z))

    wrong_below : first_failing (open_tests s u false) < 33
    unfolding open_tests sheet_tests array_tests setup_tests
    wrong_below = answer_below 33 (open_tests s u false) (lit< tt) refl

    -- how large the answers are
    pub open_bounds : (right : Bool) → ((open_run s u right j).refusal < 33) × ((open_run s u right j).accepted ≤ 16384)
    open_bounds true = let w = run_bounds s u j in rw (← (open_right j)) (w.0, w.2)
    open_bounds false = rw (← (open_wrong j)) (wrong_below, lit≤ tt)
