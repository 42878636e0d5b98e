-- The entries in the buffer afterwards.
-- Assumes nothing.
use Rattle.laws.proofs.Prelude.{ℕ, ◌+◌, ◌*◌, ◌≤◌, ◌<◌, ◌≡◌, refl, ◌∙◌, List, eqb, leb, length, get_or, eqb-true, eqb-false, leb-true, leb-false, arith, split, first_failing}
use Rattle.laws.proofs.Prelude.{gather_at, over}
use Rattle.position.proofs.Rules.{accepted, run}
use Rattle.laws.proofs.Little.{first_read, second_read}
use Rattle.laws.specs.Over.{over_front}
use Rattle.call_run.proofs.Bounds.{run_bounds}
use Rattle.call_desk.specs.Bundle.{swaps, setup_of, journal_of}
use Rattle.call_desk.specs.Desk.{swap_run, entry_bytes, swap_bytes, desk_bytes, desk_tests, desk_answer}
use Rattle.call_desk.specs.Claim.{number_of, count_of}
use Rattle.call_desk.proofs.Desks.{swap_length, desk_length, desk_refused, desk_short, desk_whole}

-- a call that answers 0 has the answers at the front of the buffer
module _ (s b out : List ℕ) where
  pub answered : (desk_answer s b out).refusal ≡ accepted → (8 * swaps b ≤ length out) × ((desk_answer s b out).buffer ≡ over (desk_bytes s b) out)
  answered h =
      let n = first_failing (desk_tests s b) in
      split (eqb n 0)
      (λ e.
      let z = eqb-true n 0 e in
      split (leb (8 * swaps b) (length out))
      (λ f. let l = leb-true (8 * swaps b) (length out) f in (l, rw (desk_whole s b out n refl z l)))
      (λ f. absurd (omega (arith, rw (desk_short s b out n refl z (leb-false (8 * swaps b) (length out) f)) at h))))
      (λ e. absurd (eqb-false n 0 e (rw (desk_refused s b out n refl (eqb-false n 0 e)) at h)))

  -- byte j of entry i
  pub entry_byte : 8 * swaps b ≤ length out → (i j : ℕ) → i < swaps b → j < 8 → get_or (over (desk_bytes s b) out) (8 * i + j) 0 ≡ get_or (swap_bytes s b i) j 0
  unfolding desk_bytes
  entry_byte l i j h d =
      over_front (desk_bytes s b) out (8 * i + j) 0 (omega (arith, desk_length s b, l)) (omega (arith, desk_length s b, h, d))
      ∙ gather_at (swap_bytes s b) 8 (swap_length s b) (swaps b) i j 0 h d

-- entry i is what a run of swap i answers
module _ (s b out : List ℕ) (h : (desk_answer s b out).refusal ≡ accepted) (i : ℕ) (l : i < swaps b) where
  pub single_run : (number_of (desk_answer s b out).buffer i ≡ (run s (setup_of b i) (journal_of b i)).refusal)
      × (count_of (desk_answer s b out).buffer i ≡ (run s (setup_of b i) (journal_of b i)).accepted)
  unfolding swap_run swap_bytes entry_bytes desk_bytes
  single_run =
      let w = answered s b out h in
      let k = run_bounds s (setup_of b i) (journal_of b i) in
      rw w.1 (
        first_read 4 (λ j. (swap_run s b j).refusal) (λ j. (swap_run s b j).accepted) (swaps b) out w.0 i l (omega (arith, k.0)),
        second_read 4 (λ j. (swap_run s b j).refusal) (λ j. (swap_run s b j).accepted) (swaps b) out w.0 i l (omega (arith, k.2)),
      )
