-- A count that is set stays.
-- Assumes nothing.
use Rattle.laws.proofs.Prelude.{ℕ, ◌+◌, ◌≡◌, refl, sym, ap, ◌∙◌, List, [], ◌∷◌, eqb, ltb, length, get_or, ltb-true, ltb-false, ne_eqb, List·getD-eq-default, split}
use Rattle.laws.proofs.Prelude.{not_rewritten}
use Rattle.position.proofs.Rules.{accepted, count, never, FourBytes, step}
use Rattle.position.specs.declared.Position.{Position}
use Rattle.dated.specs.declared.Dated.{Dated}
use Rattle.dated.specs.Dated.{count_of, first_open, noted, AfterStep, dated_step, dated_run_from, DatedRun}
use Rattle.dated.proofs.Notes.{noted_at}
use Rattle.dated.proofs.Stepping.{step_taken, step_refused, run_next, run_stops}

module _ (s u : List ℕ) (t : ℕ) where
  -- a position that is seen
  noted_stays : (p : Position) (counts : List ℕ) → (get_or counts t never ≡ never → ⊥) → get_or (noted s u p counts) t never ≡ get_or counts t never
  unfolding noted first_open
  noted_stays p counts h =
      split (ltb t (length counts))
      (λ l.
      split (ltb t (count s))
      (λ m. noted_at s u p counts t (ltb-true t (count s) m) (ltb-true t (length counts) l) ∙ rw (ne_eqb (get_or counts t never) never h))
      (λ m. not_rewritten (count s) (first_open s u p) counts t never (ltb-false t (count s) m)))
      (λ l. absurd (h (List·getD-eq-default counts never {n = t} (ltb-false t (length counts) l))))

  pub step_stays : (d : Dated) (b : FourBytes) → (count_of d t ≡ never → ⊥) → count_of (dated_step s u d b).dated t ≡ count_of d t
  unfolding count_of
  step_stays d b h =
      split (eqb (step s u d.position b).refusal accepted)
      (λ y. ap (λ (r : AfterStep). get_or r.dated.opened t never) (step_taken s u d b y) ∙ noted_stays (step s u d.position b).position d.opened h)
      (λ y. ap (λ (r : AfterStep). get_or r.dated.opened t never) (step_refused s u d b y))

  pub row_stays : (bs : List FourBytes) (c : ℕ) (d : Dated) → (count_of d t ≡ never → ⊥) → count_of (dated_run_from s u bs c d).dated t ≡ count_of d t
  unfolding dated_run_from
  row_stays [] c d h = refl
  row_stays (b ∷ bs) c d h =
      split (eqb (dated_step s u d b).refusal accepted)
      (λ y.
      let e = step_stays d b h in
      ap (λ (r : DatedRun). count_of r.dated t) (run_next s u b bs c d y)
      ∙ row_stays bs (c + 1) (dated_step s u d b).dated (λ z. h (sym e ∙ z))
      ∙ e)
      (λ y. ap (λ (r : DatedRun). count_of r.dated t) (run_stops s u b bs c d y))
