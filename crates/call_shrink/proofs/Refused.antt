-- The row that ends with the refused step.
-- Assumes nothing.
use Rattle.laws.proofs.Prelude.{ℕ, zero, suc, ◌+◌, ◌*◌, ◌<◌, ◌≡◌, refl, sym, ap, ◌∙◌, true, List, [], ◌∷◌, eqb, length, take, arith, length-take, split}
use Rattle.position.proofs.Rules.{accepted, FourBytes, journal_steps, step, run_from}
use Rattle.position.specs.declared.Position.{Position}
use Rattle.position.proofs.RowSteps.{run_next, run_stops, run_ends}
use Rattle.call_shrink.specs.Shrink.{still_refused}
use Rattle.call_shrink.proofs.Rows.{parts_still}

-- the first n steps of a journal are those of its first 4n bytes
steps_next : (n : ℕ) (j : List ℕ) → ((l : List ℕ) → journal_steps (take (4 * n) l) ≡ take n (journal_steps l))
    → journal_steps (take (suc (suc (suc (suc (4 * n))))) j) ≡ take (suc n) (journal_steps j)
unfolding journal_steps
steps_next n [] f = refl
steps_next n (k ∷ []) f = refl
steps_next n (k ∷ a ∷ []) f = refl
steps_next n (k ∷ a ∷ t ∷ []) f = refl
steps_next n (k ∷ a ∷ t ∷ d ∷ j) f = ap (λ r. record { kind = k; party = a; transaction = t; destination = d } ∷ r) (f j)

pub steps_take : (n : ℕ) (j : List ℕ) → journal_steps (take (4 * n) j) ≡ take n (journal_steps j)
unfolding journal_steps
steps_take zero j = refl
steps_take (suc n) j =
    let e : 4 * suc n ≡ suc (suc (suc (suc (4 * n)))) = omega arith in
    rw e (steps_next n j (steps_take n))

module _ (s u : List ℕ) where
  -- a refused row, cut after its refused step n
  pub record Cut (row : List FourBytes) (c : ℕ) (p : Position) : Type 0 where
    pub n : ℕ
    pub counted : (run_from s u row c p).accepted ≡ c + n
    pub within : n < length row
    pub same : run_from s u (take (suc n) row) c p ≡ run_from s u row c p

  pub cut : (row : List FourBytes) (c : ℕ) (p : Position) → ((run_from s u row c p).refusal ≡ 0 → ⊥) → Cut row c p
  cut [] c p h = absurd (h (rw (run_ends s u c p) refl))
  cut (b ∷ row) c p h =
      split (eqb (step s u p b).refusal accepted)
      (λ e.
      let f = run_next s u b row c p e in
      let w = cut row (c + 1) (step s u p b).position (λ z. h (rw f z)) in
      record {
        n = suc w.n;
        counted = rw f (omega (arith, w.counted));
        within = omega (arith, w.within);
        same = run_next s u b (take (suc w.n) row) c p e ∙ w.same ∙ sym f;
      })
      (λ e.
      let f = run_stops s u b row c p e in
      record { n = 0; counted = rw f (omega arith); within = omega arith; same = run_stops s u b [] c p e ∙ sym f })

  -- it still runs up to its last step, and gets the number there
  pub cut_still : (row : List FourBytes) (a : ℕ) (p : Position) → ((run_from s u row 0 p).refusal ≡ 0 → ⊥) → a ≡ (run_from s u row 0 p).accepted
      → still_refused s u (run_from s u row 0 p).refusal p (take (a + 1) row) ≡ true
  cut_still row a p h e =
      let w = cut row 0 p h in
      let r = run_from s u row 0 p in
      let k : a + 1 ≡ suc w.n = omega (arith, w.counted, e) in
      let l = length-take (suc w.n) row in
      rw k
      (parts_still s u r.refusal (take (suc w.n) row) p (rw w.same refl)
      (rw w.same (omega (arith, w.counted, w.within, l))))
