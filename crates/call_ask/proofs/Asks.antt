-- The answer of ask, case by case.
-- Assumes nothing.
use Rattle.laws.proofs.Prelude.{ℕ, ◌≤◌, ◌<◌, ◌≡◌, refl, sym, ◌∙◌, Bool, List, [], ◌∷◌, eqb, lit<, length, eqb-true, eqb-false, eq-eqb, ne_eqb, arith, split}
use Rattle.position.proofs.Rules.{step_field, step}
use Rattle.position.specs.declared.Position.{Position}
use Rattle.position.specs.declared.Ran.{Ran}
use Rattle.call_run.proofs.Bounds.{step_below}
use Rattle.sheet.specs.declared.refusal.Answer.{Answer}
use Rattle.call_ask.specs.Ask.{length_right, open_run, step_count, step_of, step_number, own, ask_tests, ask_answer}
use Rattle.call_ask.proofs.Own.{own_passes, own_fails, own_last}
use Rattle.call_ask.proofs.Opens.{opened_counts, open_bounds}

module _ (s u : List ℕ) where
  -- the step's own number
  module _ (p : Position) (b : List ℕ) where
    pub number_four : length b ≡ 4 → (step s u p (step_of b)).refusal ≡ step_number s u p b
    unfolding step_number
    number_four h = rw (eq-eqb (length b) 4 h)

    pub number_other : (length b ≡ 4 → ⊥) → step_field ≡ step_number s u p b
    unfolding step_number
    number_other h = rw (ne_eqb (length b) 4 h)

    -- 0 is of four bytes that pass as a step
    pub number_none : step_number s u p b ≡ 0 → (length b ≡ 4) × ((step s u p (step_of b)).refusal ≡ 0)
    number_none h =
        split (eqb (length b) 4)
        (λ e. let f = eqb-true (length b) 4 e in (f, number_four f ∙ h))
        (λ e. absurd (eqb-false step_field 0 refl (number_other (eqb-false (length b) 4 e) ∙ h)))

    pub number_below : step_number s u p b < 25
    number_below =
        split (eqb (length b) 4)
        (λ e. rw (← (number_four (eqb-true (length b) 4 e))) (step_below s u p (step_of b)))
        (λ e. rw (← (number_other (eqb-false (length b) 4 e))) (lit< tt))

  module _ (j b : List ℕ) where
    abbrev pub opened : Ran
    opened = open_run s u (length_right (length j)) j

    pub asked_refused : (opened.refusal ≡ 0 → ⊥) → ask_answer s u j b ≡ record { refusal = opened.refusal; count = opened.accepted }
    unfolding ask_answer ask_tests
    asked_refused h =
        rw (own_fails opened.refusal (own (step_number s u opened.position b) ∷ []) h, ne_eqb opened.refusal 0 h)

    pub asked_passed : opened.refusal ≡ 0 → ask_answer s u j b ≡ record { refusal = step_number s u opened.position b; count = step_count j }
    unfolding ask_answer ask_tests
    asked_passed z =
        let x = step_number s u opened.position b in
        rw (own_passes opened.refusal (own x ∷ []) z, own_last x, eq-eqb opened.refusal 0 z)

    -- the returns of the code, where r is the run that it found
    module _ (right : Bool) (r : Ran) (l : right ≡ length_right (length j)) (e : r ≡ open_run s u right j) where
      found : r ≡ opened
      found = rw (← l) e

      pub ask_refused : (r.refusal ≡ 0 → ⊥) → record { refusal = r.refusal; count = r.accepted } ≡ ask_answer s u j b
      ask_refused h = rw found (sym (asked_refused (λ z. h (rw found z))))

      pub ask_passed : (x : ℕ) → r.refusal ≡ 0 → x ≡ step_number s u r.position b → record { refusal = x; count = r.accepted } ≡ ask_answer s u j b
      ask_passed x z f =
          let k = opened_counts s u j right r e z in
          rw (f, k) (rw found (sym (asked_passed (rw found at z))))

    -- the answer is a refusal below 33 and a count that fits beside it
    pub ask_bounds : ((ask_answer s u j b).refusal < 33) × ((ask_answer s u j b).count ≤ 16384)
    ask_bounds =
        let w = open_bounds s u j (length_right (length j)) in
        split (eqb opened.refusal 0)
        (λ e.
        let z = eqb-true opened.refusal 0 e in
        rw (asked_passed z)
        (omega (arith, number_below opened.position b), rw (← (opened_counts s u j (length_right (length j)) opened refl z)) w.1))
        (λ e. rw (asked_refused (eqb-false opened.refusal 0 e)) w)

    -- the same of what the code found
    pub asked_bounds : (a : Answer) → a ≡ ask_answer s u j b → (a.refusal < 33) × (a.count ≤ 16384)
    asked_bounds a e = rw e ask_bounds
