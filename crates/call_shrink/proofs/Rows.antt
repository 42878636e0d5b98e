-- Rows of steps: their number and bytes, and a row behind an accepted one.
-- Assumes nothing.
use Rattle.laws.proofs.Prelude.{ℕ, ◌+◌, ◌/◌, ◌%◌, ◌≡◌, refl, ap, ◌∙◌, true, List, [], ◌∷◌, ◌++◌, ◌⊎◌, inl, inr, eqb, length, length-append, eqb-true, eqb-false, eq-eqb}
use Rattle.laws.proofs.Prelude.{ne_eqb, arith, split, and_parts}
use Rattle.position.proofs.Rules.{accepted, FourBytes, journal_steps, journal_bytes, step, run_from}
use Rattle.position.specs.declared.Position.{Position}
use Rattle.call_run.proofs.Runs.{row_append, row_counts}
use Rattle.position.proofs.RowSteps.{run_next, run_stops, run_ends}
use Rattle.call_shrink.specs.Shrink.{still_refused}

-- four bytes a step
pub steps_count : (j : List ℕ) → length (journal_steps j) ≡ length j / 4
unfolding journal_steps
steps_count [] = refl
steps_count (k ∷ []) = refl
steps_count (k ∷ a ∷ []) = refl
steps_count (k ∷ a ∷ t ∷ []) = refl
steps_count (k ∷ a ∷ t ∷ d ∷ j) = omega (arith, steps_count j)

-- whole steps are their bytes
pub bytes_steps : (j : List ℕ) → length j % 4 ≡ 0 → journal_bytes (journal_steps j) ≡ j
unfolding journal_steps journal_bytes
bytes_steps [] h = refl
bytes_steps (k ∷ []) h = absurd (omega arith)
bytes_steps (k ∷ a ∷ []) h = absurd (omega arith)
bytes_steps (k ∷ a ∷ t ∷ []) h = absurd (omega arith)
bytes_steps (k ∷ a ∷ t ∷ d ∷ j) h = ap (λ r. k ∷ a ∷ t ∷ d ∷ r) (bytes_steps j (omega arith))

eqb_add : (k x y : ℕ) → eqb (k + x) (k + y) ≡ eqb x y
eqb_add k x y =
    split (eqb x y)
    (λ e. rw e (eq-eqb (k + x) (k + y) (rw (eqb-true x y e) refl)))
    (λ e. rw e (ne_eqb (k + x) (k + y) (λ z. eqb-false x y e (omega arith))))

module _ (s u : List ℕ) where
  -- c further accepted ones before a row change nothing but the count
  row_shift : (row : List FourBytes) (c d : ℕ) (p : Position)
      → ((run_from s u row (c + d) p).refusal ≡ (run_from s u row d p).refusal) × ((run_from s u row (c + d) p).accepted ≡ c + (run_from s u row d p).accepted)
  row_shift [] c d p = rw (run_ends s u (c + d) p, run_ends s u d p) (refl, refl)
  row_shift (b ∷ row) c d p =
      split (eqb (step s u p b).refusal accepted)
      (λ e.
      let a : c + d + 1 ≡ c + (d + 1) = omega arith in
      rw (run_next s u b row (c + d) p e, run_next s u b row d p e, a) (row_shift row c (d + 1) (step s u p b).position))
      (λ e. rw (run_stops s u b row (c + d) p e, run_stops s u b row d p e) (refl, refl))

  -- an accepted row with one more accepted step
  pub row_longer : (row : List FourBytes) (b : FourBytes) (p : Position) → (run_from s u row 0 p).refusal ≡ 0 → (step s u (run_from s u row 0 p).position b).refusal ≡ 0
      → ((run_from s u (row ++ (b ∷ [])) 0 p).refusal ≡ 0) × ((run_from s u (row ++ (b ∷ [])) 0 p).position ≡ (step s u (run_from s u row 0 p).position b).position)
  row_longer row b p h g =
      let r = run_from s u row 0 p in
      rw (row_append s u row (b ∷ []) 0 p h, run_next s u b [] r.accepted r.position (eq-eqb (step s u r.position b).refusal accepted g), run_ends s u (r.accepted + 1) (step s u r.position b).position)
      (refl, refl)

  module _ (number : ℕ) where
    -- behind an accepted row, a row is tried from the position between them
    pub still_append : (kept row : List FourBytes) (p : Position) → (run_from s u kept 0 p).refusal ≡ 0
        → still_refused s u number p (kept ++ row) ≡ still_refused s u number (run_from s u kept 0 p).position row
    unfolding still_refused
    still_append kept row p h =
        let r = run_from s u kept 0 p in
        let w = row_shift row (length kept) 0 r.position in
        let x = (run_from s u row 0 r.position).accepted in
        let a : r.accepted ≡ length kept + 0 = row_counts s u kept 0 p h ∙ omega arith in
        let b : length kept + x + 1 ≡ length kept + (x + 1) = omega arith in
        rw (row_append s u kept row 0 p h, a, w.0, w.1, length-append kept row, b, eqb_add (length kept) (x + 1) (length row)) refl

    -- what it says of the run
    pub still_parts : (row : List FourBytes) (p : Position) → still_refused s u number p row ≡ true
        → ((run_from s u row 0 p).refusal ≡ number) × ((run_from s u row 0 p).accepted + 1 ≡ length row)
    unfolding still_refused
    still_parts row p h =
        let r = run_from s u row 0 p in
        let w = and_parts (eqb r.refusal number) (eqb (r.accepted + 1) (length row)) h in
        (eqb-true r.refusal number w.0, eqb-true (r.accepted + 1) (length row) w.1)

    pub parts_still : (row : List FourBytes) (p : Position) → (run_from s u row 0 p).refusal ≡ number → (run_from s u row 0 p).accepted + 1 ≡ length row
        → still_refused s u number p row ≡ true
    unfolding still_refused
    parts_still row p h g =
        let r = run_from s u row 0 p in
        rw (eq-eqb r.refusal number h, eq-eqb (r.accepted + 1) (length row) g)

    -- the first step is the last one, or accepted
    pub first_accepted : (b : FourBytes) (row : List FourBytes) (p : Position) → still_refused s u number p (b ∷ row) ≡ true
        → (length row ≡ 0) ⊎ ((step s u p b).refusal ≡ 0)
    first_accepted b row p h =
        split (eqb (step s u p b).refusal accepted)
        (λ e. inr (eqb-true (step s u p b).refusal accepted e))
        (λ e. let w = (still_parts (b ∷ row) p h).1 in inl (omega (arith, rw (run_stops s u b row 0 p e) at w)))
