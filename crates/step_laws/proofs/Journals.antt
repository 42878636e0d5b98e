-- Playing a list, refused steps passed over, and running its accepted steps as a journal come to the same position.
-- Assumes nothing.
use Rattle.laws.proofs.Prelude.{ℕ, ◌+◌, ◌*◌, ◌%◌, ◌≤◌, ◌≡◌, refl, sym, ap, ◌∙◌, true, false, List, [], ◌∷◌, ◌++◌, eqb, length, eq-eqb, le-leb, arith, add-zero, split}
use Rattle.laws.proofs.Prelude.{clash, first_failing, passed_append}
use Rattle.position.proofs.Rules.{accepted, journal_length, array_tests, sheet_tests, sheet_refusal, setup_tests, setup_refusal, start, effect, FourBytes}
use Rattle.position.specs.declared.Position.{Position}
use Rattle.position.specs.declared.Ran.{Ran}
use Rattle.position.proofs.Rules.{journal_steps, journal_bytes, step, run_from, journal_right, call_tests, run, play, accepted_of}
use Rattle.position.proofs.StepCases.{StepCase, taken, turned_down, step_case}
use Rattle.position.proofs.RowSteps.{run_next, play_next}

-- a journal's bytes are its steps
pub journal_steps_lem : (l : List FourBytes) → journal_steps (journal_bytes l) ≡ l
unfolding journal_steps journal_bytes
journal_steps_lem [] = refl
journal_steps_lem (b ∷ l) = ap (λ r. b ∷ r) (journal_steps_lem l)

pub journal_length_lem : (l : List FourBytes) → length (journal_bytes l) ≡ 4 * length l
unfolding journal_bytes
journal_length_lem [] = refl
journal_length_lem (b ∷ l) = omega (arith, journal_length_lem l)

module _ (s u : List ℕ) where
  run_taken : (b : FourBytes) (bs : List FourBytes) (c : ℕ) (p q : Position) → step s u p b ≡ record { refusal = accepted; position = q } → run_from s u (b ∷ bs) c p ≡ run_from s u bs (c + 1) q
  run_taken b bs c p q e = run_next s u b bs c p (rw e) ∙ rw e

  accepted_taken : (b : FourBytes) (bs : List FourBytes) (p q : Position) → step s u p b ≡ record { refusal = accepted; position = q } → accepted_of s u (b ∷ bs) p ≡ b ∷ accepted_of s u bs q
  unfolding accepted_of
  accepted_taken b bs p q e = rw e

  accepted_refused : (b : FourBytes) (bs : List FourBytes) (p : Position) (n : ℕ) → eqb n accepted ≡ false → step s u p b ≡ record { refusal = n; position = p } → accepted_of s u (b ∷ bs) p ≡ accepted_of s u bs p
  unfolding accepted_of
  accepted_refused b bs p n m e = rw (e, m)

  -- all steps taken, after c others
  abbrev pub all_taken : List FourBytes → ℕ → Position → Ran
  all_taken bs c p = record { refusal = accepted; accepted = c + length (accepted_of s u bs p); position = play s u bs p }

  first_run : (b : FourBytes) (bs : List FourBytes) → ((c : ℕ) (p : Position) → run_from s u (accepted_of s u bs p) c p ≡ all_taken bs c p)
      → (c : ℕ) (p : Position) → StepCase s u p b → run_from s u (accepted_of s u (b ∷ bs) p) c p ≡ all_taken (b ∷ bs) c p
  first_run b bs rest c p (taken x d f r e) =
      rw (accepted_taken b bs p (effect s p x) e, run_taken b (accepted_of s u bs (effect s p x)) c p (effect s p x) e, rest (c + 1) (effect s p x), play_next s u b bs p, e)
      (counted (play s u bs (effect s p x)) (omega arith))
    where
      counted : {m n : ℕ} (q : Position) → m ≡ n → ◌≡◌ {A = Ran} (record { refusal = accepted; accepted = m; position = q }) (record { refusal = accepted; accepted = n; position = q })
      counted q h = rw h
  first_run b bs rest c p (turned_down n m e) =
      rw (accepted_refused b bs p n m e, rest c p, play_next s u b bs p, e)

  pub accepted_run : (bs : List FourBytes) (c : ℕ) (p : Position) → run_from s u (accepted_of s u bs p) c p ≡ all_taken bs c p
  unfolding run_from accepted_of play
  accepted_run [] c p = rw (add-zero c)
  accepted_run (b ∷ bs) c p = first_run b bs (accepted_run bs) c p (step_case s u p b)

  -- a call whose number is 0 runs the journal from the empty journal's position
  pub run_allowed : (j : List ℕ) → eqb (first_failing (call_tests s u j)) accepted ≡ true → run s u j ≡ run_from s u (journal_steps j) 0 (start s)
  unfolding run
  run_allowed j h = rw (h, run)

  pub run_refused : (j : List ℕ) → eqb (first_failing (call_tests s u j)) accepted ≡ false → (run s u j).refusal ≡ first_failing (call_tests s u j)
  unfolding run
  run_refused j h = rw (h, run)

  module _ (h : sheet_refusal s ≡ 0) (k : setup_refusal s u ≡ 0) where
    call_passes : (j : List ℕ) → journal_right j ≡ true → first_failing (call_tests s u j) ≡ 0
    unfolding sheet_refusal setup_refusal sheet_tests array_tests setup_tests call_tests first_failing
    call_passes j e =
        passed_append (sheet_tests s) (setup_tests s u ++ ((journal_length, journal_right j) ∷ [])) refl h
        ∙ passed_append (setup_tests s u) ((journal_length, journal_right j) ∷ []) refl k
        ∙ rw e

    length_right_lem : (l : List FourBytes) → length (journal_bytes l) ≤ 65536 → journal_right (journal_bytes l) ≡ true
    unfolding journal_right
    length_right_lem l b =
        rw (eq-eqb (length (journal_bytes l) % 4) 0 (omega (arith, journal_length_lem l)), le-leb (length (journal_bytes l)) 65536 b)

    pub accepted_journal : (bs : List FourBytes) → length (journal_bytes (accepted_of s u bs (start s))) ≤ 65536 → run s u (journal_bytes (accepted_of s u bs (start s))) ≡ all_taken bs 0 (start s)
    accepted_journal bs b =
        let l = accepted_of s u bs (start s) in
        run_allowed (journal_bytes l) (eq-eqb (first_failing (call_tests s u (journal_bytes l))) accepted (call_passes (journal_bytes l) (length_right_lem l b)))
        ∙ rw (journal_steps_lem l) (accepted_run bs 0 (start s))

  -- a run of the accepted steps that is not refused
  pub run_position : (bs : List FourBytes) → (run s u (journal_bytes (accepted_of s u bs (start s)))).refusal ≡ accepted → (run s u (journal_bytes (accepted_of s u bs (start s)))).position ≡ play s u bs (start s)
  run_position bs e =
      let l = accepted_of s u bs (start s) in
      split (eqb (first_failing (call_tests s u (journal_bytes l))) accepted)
      (λ y. rw (run_allowed (journal_bytes l) y, journal_steps_lem l, accepted_run bs 0 (start s)))
      (λ y. clash (eq-eqb (first_failing (call_tests s u (journal_bytes l))) accepted (sym (run_refused (journal_bytes l) y) ∙ e)) y)
