-- The answer of a call that writes if it fits, case by case: its number, its count and its buffer.
-- Assumes nothing.
use Rattle.laws.proofs.Prelude.{ℕ, ◌≤◌, ◌<◌, ◌≡◌, ◌∙◌, List, eqb, leb, lit<, length, take, eqb-true, eqb-false, leb-true, leb-false, eq-eqb, ne_eqb, le-leb, lt-leb}
use Rattle.laws.proofs.Prelude.{arith, split, over, take_over}
use Rattle.sheet.specs.Refusal.{accepted, buffer_short}
use Rattle.position.specs.declared.Ran.{Ran}
use Rattle.position.specs.Answers.{Written, fitted, pass_on}

-- a number x, a count y and a buffer l are those of an answer
abbrev pub Gives : ℕ → ℕ → List ℕ → Written → Type 0
Gives x y l w = (x ≡ w.refusal) × ((y ≡ w.count) × (l ≡ w.buffer))

-- the bytes have room in the buffer or not
module _ (bytes out : List ℕ) (n : ℕ) where
  pub written : length bytes ≤ length out → fitted bytes n out ≡ record { refusal = accepted; count = n; buffer = over bytes out }
  unfolding fitted
  written h = rw (le-leb (length bytes) (length out) h, fitted)

  pub not_written : length out < length bytes → fitted bytes n out ≡ record { refusal = buffer_short; count = 0; buffer = out }
  unfolding fitted
  not_written h = rw (lt-leb (length bytes) (length out) h, fitted)

  -- the number is 0 or 25, and the count n at most
  pub fitted_bounds : ((fitted bytes n out).refusal < 26) × ((fitted bytes n out).count ≤ n)
  fitted_bounds =
      split (leb (length bytes) (length out))
      (λ y. rw (written (leb-true (length bytes) (length out) y)) (lit< tt, omega arith))
      (λ y. rw (not_written (leb-false (length bytes) (length out) y)) (lit< tt, omega arith))

  -- where the number is 0, there is room
  pub fitted_room : (fitted bytes n out).refusal ≡ accepted → length bytes ≤ length out
  fitted_room e =
      split (leb (length bytes) (length out))
      (λ y. leb-true (length bytes) (length out) y)
      (λ y. let z = rw (not_written (leb-false (length bytes) (length out) y)) at e in absurd (omega (arith, z)))

-- the run was refused, or it was accepted and the bytes have room or not
module _ (r : Ran) (bytes out : List ℕ) (n : ℕ) where
  pub passed_on : r.refusal ≡ accepted → pass_on r bytes n out ≡ fitted bytes n out
  unfolding pass_on
  passed_on z = rw (eq-eqb r.refusal accepted z, pass_on)

  pub not_passed_on : (r.refusal ≡ accepted → ⊥) → pass_on r bytes n out ≡ record { refusal = r.refusal; count = 0; buffer = out }
  unfolding pass_on
  not_passed_on h = rw (ne_eqb r.refusal accepted h, pass_on)

  pub passed_short : r.refusal ≡ accepted → length out < length bytes → pass_on r bytes n out ≡ record { refusal = buffer_short; count = 0; buffer = out }
  passed_short z l = passed_on z ∙ not_written bytes out n l

  pub passed_whole : r.refusal ≡ accepted → length bytes ≤ length out → pass_on r bytes n out ≡ record { refusal = accepted; count = n; buffer = over bytes out }
  passed_whole z l = passed_on z ∙ written bytes out n l

  -- an answer of 0: the run was not refused, and the bytes are in the buffer
  module _ (e : (pass_on r bytes n out).refusal ≡ accepted) where
    pub answer_run : r.refusal ≡ accepted
    answer_run =
        split (eqb r.refusal accepted)
        (λ y. eqb-true r.refusal accepted y)
        (λ y. rw (not_passed_on (eqb-false r.refusal accepted y)) at e)

    pub answer_buffer : take (length bytes) (pass_on r bytes n out).buffer ≡ bytes
    answer_buffer =
        let room = fitted_room bytes out n (rw (passed_on answer_run) at e) in
        rw (passed_whole answer_run room) (take_over bytes out room)
