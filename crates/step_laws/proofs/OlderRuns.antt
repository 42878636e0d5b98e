-- Slip 3 over a journal: by the older order as many steps were accepted, to the same position, and the refused one got the same number or 16 for 17.
-- Assumes nothing.
use Rattle.laws.proofs.Prelude.{ℕ, ◌+◌, ◌≡◌, refl, ap, true, false, List, [], ◌∷◌, ◌⊎◌, inl, inr, eqb, split, either, first_failing}
use Rattle.position.proofs.Rules.{accepted, step_signatures, step_lock, Step, Option, Some, None, start, effect, FourBytes, journal_steps}
use Rattle.position.specs.declared.Position.{Position}
use Rattle.position.specs.declared.Stepped.{Stepped}
use Rattle.position.proofs.Rules.{decode_bytes, take_step, take_decoded, step, run_from, call_tests, run}
use Rattle.position.specs.StepRefusal.{tests}
use Rattle.step_laws.specs.OlderOrder.{meets_both, older_take, older_run_from, older_run, SameRun}
use Rattle.step_laws.proofs.OlderOrders.{same_but_both}

number : {a b : Stepped} → a ≡ b → a.refusal ≡ b.refusal
number e = ap (λ (r : Stepped). r.refusal) e

module _ (s u : List ℕ) where
  -- the outcome of a step that gets this number
  abbrev outcome : Position → Step → ℕ → Stepped
  outcome p x n =
      elim (eqb n accepted) [
        | true ↦ record { refusal = accepted; position = effect s p x }
        | false ↦ record { refusal = n; position = p }
      ]

  -- the same outcome, or the two numbers and the position as it was
  abbrev Outcomes : Position → Stepped → Stepped → Type 0
  Outcomes p older now =
      (older ≡ now) ⊎ ((older ≡ record { refusal = step_signatures; position = p }) × (now ≡ record { refusal = step_lock; position = p }))

  outcomes : (p : Position) (y : Option Step) → Outcomes p (older_take s u p y) (take_decoded s u p y)
  unfolding older_take take_decoded take_step
  outcomes p (Some x) =
      let w = same_but_both s u p x in
      split (meets_both (tests s u p x))
      (λ e. inr (ap (outcome p x) (w.both e).got, ap (outcome p x) (w.both e).gets))
      (λ e. inl (ap (outcome p x) (w.others e)))
  outcomes p None = inl refl

  run_from_lem : (bs : List FourBytes) (c : ℕ) (p : Position) → SameRun (older_run_from s u bs c p) (run_from s u bs c p)
  unfolding older_run_from run_from step
  run_from_lem [] c p = record { accepted = refl; position = refl; refusal = inl refl }
  run_from_lem (b ∷ bs) c p =
      either (outcomes p (decode_bytes s u b))
      (λ e.
      split (eqb (take_decoded s u p (decode_bytes s u b)).refusal accepted)
      (λ h. rw (older_run_from, run_from, e, h, e) (run_from_lem bs (c + 1) (take_decoded s u p (decode_bytes s u b)).position))
      (λ h. rw (older_run_from, run_from, e, h, e) (record { accepted = refl; position = refl; refusal = inl refl })))
      (λ w. rw (older_run_from, run_from, w.0, w.1) (record { accepted = refl; position = refl; refusal = inr (number w.0, number w.1) }))

  pub same_run : (j : List ℕ) → SameRun (older_run s u j) (run s u j)
  unfolding older_run run
  same_run j =
      split (eqb (first_failing (call_tests s u j)) accepted)
      (λ h. rw (older_run, run, h) (run_from_lem (journal_steps j) 0 (start s)))
      (λ h. rw (older_run, run, h) (record { accepted = refl; position = refl; refusal = inl refl }))
