-- A call on a position with its counts, by its number.
-- Assumes nothing.
use Rattle.laws.proofs.Prelude.{ℕ, ◌≡◌, sym, ◌∙◌, List, ne_eqb, first_failing}
use Rattle.position.proofs.Rules.{journal_steps, call_tests}
use Rattle.dated.specs.declared.Dated.{Dated}
use Rattle.dated.specs.Dated.{unseen, dated_start, dated_run_from, dated_run, DatedRun}
use Rattle.dated.proofs.Forgetting.{dated_allowed, dated_refused}

module _ (s u j : List ℕ) where
  -- a call whose number is 0 runs the journal; else its number is the answer
  pub ran_allowed : (n : ℕ) (d : Dated) (r : DatedRun) → n ≡ first_failing (call_tests s u j) → n ≡ 0 → d ≡ dated_start s u
      → r ≡ dated_run_from s u (journal_steps j) 0 d → r ≡ dated_run s u j
  ran_allowed n d r e z f g = g ∙ rw f (sym (dated_allowed s u j (sym e ∙ z)))

  pub ran_refused : (n : ℕ) → n ≡ first_failing (call_tests s u j) → (n ≡ 0 → ⊥) → record { refusal = n; accepted = 0; dated = unseen s } ≡ dated_run s u j
  ran_refused n e z = rw e (sym (dated_refused s u j (ne_eqb (first_failing (call_tests s u j)) 0 (λ y. z (e ∙ y)))))
