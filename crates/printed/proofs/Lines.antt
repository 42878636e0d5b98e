-- The lines that are printed, case by case.
-- Assumes nothing.
use Rattle.laws.proofs.Prelude.{ℕ, suc, ◌≤◌, ◌≡◌, refl, sym, ap, ◌∙◌, true, false, List, [], ◌∷◌, eqb, lit≤, length, get_or, eq-eqb, ne_eqb, arith, length_gather}
use Rattle.position.proofs.Rules.{accepted, count, run, printed_line}
use Rattle.position.specs.declared.Ran.{Ran}
use Rattle.position.specs.Printed.{printed_lines, printed}
use Rattle.call_run.proofs.Runs.{ran_fit}

module _ (s u j : List ℕ) where
  pub printed_accepted : eqb (run s u j).refusal accepted ≡ true
      → printed s u j ≡ ((run s u j).accepted ∷ accepted ∷ (run s u j).position.mined ∷ []) ∷ printed_lines s u (run s u j).position
  unfolding printed
  printed_accepted h = rw (h, printed)

  pub printed_refused : eqb (run s u j).refusal accepted ≡ false → printed s u j ≡ ((run s u j).accepted ∷ (run s u j).refusal ∷ 0 ∷ []) ∷ []
  unfolding printed
  printed_refused h = rw (h, printed)

  -- an accepted journal has a line after the first for each transaction
  lines_accepted : (run s u j).refusal ≡ accepted → length (printed s u j) ≡ suc (count s)
  unfolding printed_lines
  lines_accepted z =
      rw (printed_accepted (eq-eqb (run s u j).refusal accepted z))
      (ap suc (length_gather (λ t. printed_line s u (run s u j).position t ∷ []) 1 (λ t. refl) (count s) ∙ omega arith))

  -- a refused one has the first only
  lines_refused : ((run s u j).refusal ≡ accepted → ⊥) → length (printed s u j) ≡ 1
  lines_refused h = rw (printed_refused (ne_eqb (run s u j).refusal accepted h))

  -- where r is what the code found
  module _ (r : Ran) (e : r ≡ run s u j) where
    -- the sheet has a count
    pub counted : r.refusal ≡ 0 → 5 ≤ length s
    counted z = let h = (ran_fit s u j r e z).checked.sized in omega (arith, h.head, h.size)

    pub first_accepted : (n : ℕ) → r.refusal ≡ 0 → n ≡ count s
        → ((r.accepted ∷ r.refusal ∷ r.position.mined ∷ []) ≡ get_or (printed s u j) 0 []) × ((suc n ≡ length (printed s u j)) × (n ≤ 32))
    first_accepted n z k =
        let y = rw e at z in
        (rw (z, e, printed_accepted (eq-eqb (run s u j).refusal 0 y)), (ap suc k ∙ sym (lines_accepted y), omega (arith, k, (ran_fit s u j r e z).checked.sized.few)))

    pub first_refused : (r.refusal ≡ 0 → ⊥)
        → ((r.accepted ∷ r.refusal ∷ 0 ∷ []) ≡ get_or (printed s u j) 0 []) × ((1 ≡ length (printed s u j)) × (0 ≤ 32))
    first_refused h =
        let y : (run s u j).refusal ≡ 0 → ⊥ = λ z. h (rw e z) in
        (rw (e, printed_refused (ne_eqb (run s u j).refusal 0 y)), (sym (lines_refused y), lit≤ tt))
