-- What the list call writes, where it answers 0: the bytes of the open steps.
-- Assumes nothing.
use Rattle.laws.proofs.Prelude.{ℕ, ◌*◌, ◌≡◌, List, eqb, leb, length, leb-true, eq-eqb, arith, split, clash, take_over}
use Rattle.position.proofs.Rules.{accepted, step_bytes, run, open_steps, list_bytes, fitted, pass_on, list_answer}
use Rattle.position.specs.declared.Ran.{Ran}
use Rattle.laws.specs.Gather.{length_flat}
use Rattle.position.proofs.Decoding.{length_step}
use Rattle.claim_handins.specs.Early.{written_bytes}

fitted_bytes : (bytes : List ℕ) (n : ℕ) (out : List ℕ) → length bytes ≡ 4 * n → (fitted bytes n out).refusal ≡ accepted → written_bytes (fitted bytes n out) ≡ bytes
unfolding fitted written_bytes
fitted_bytes bytes n out e h =
    split (leb (length bytes) (length out))
    (λ y. rw (y, fitted, ← e) (take_over bytes out (leb-true (length bytes) (length out) y)))
    (λ y. absurd (omega (arith, rw (y, fitted) at h)))

passed_bytes : (r : Ran) (bytes : List ℕ) (n : ℕ) (out : List ℕ) → length bytes ≡ 4 * n → (pass_on r bytes n out).refusal ≡ accepted → written_bytes (pass_on r bytes n out) ≡ bytes
unfolding pass_on
passed_bytes r bytes n out e h =
    split (eqb r.refusal accepted)
    (λ y. rw (y, pass_on) (fitted_bytes bytes n out e (rw (y, pass_on) at h)))
    (λ y. clash (eq-eqb r.refusal accepted (rw (y, pass_on) at h)) y)

pub list_written : (s u j out : List ℕ) → (list_answer s u j out).refusal ≡ accepted → written_bytes (list_answer s u j out) ≡ list_bytes s u (run s u j).position
unfolding list_answer list_bytes
list_written s u j out h = passed_bytes (run s u j) _ _ out (length_flat step_bytes 4 length_step (open_steps s u (run s u j).position)) h
