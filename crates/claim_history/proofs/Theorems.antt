-- What the promise comes to.
-- Assumes nothing.
use Rattle.laws.proofs.Prelude.{ℕ, ◌≡◌, sym, ◌∙◌, List, eqb, eqb-true, eqb-false, split}
use Rattle.claim_history.specs.declared.Outcome.{Outcome}
use Rattle.claim_history.specs.Promise.{Demand3}

same_outcome : (r r₂ : Outcome) → r.number ≡ r₂.number → r.report ≡ r₂.report → r.position ≡ r₂.position → r.held ≡ r₂.held
    → r.reported ≡ r₂.reported → r ≡ r₂
same_outcome r r₂ a b c d e = rw (a, b, c, d, e)

-- Nothing is left free: what came back and what the two buffers hold afterwards are determined by what came in.
pub determined : (s u j a o : List ℕ) (r r₂ : Outcome) (a' a₂ o' o₂ : List ℕ) → Demand3 s u j a o r a' o' → Demand3 s u j a o r₂ a₂ o₂
    → (r ≡ r₂) × (a' ≡ a₂) × (o' ≡ o₂)
determined s u j a o r r₂ a' a₂ o' o₂ d e =
    let n : r.number ≡ r₂.number = d.number ∙ sym e.number in
    split (eqb r.number 0)
    (λ y.
    let z = eqb-true r.number 0 y in
    let f = d.exact z in
    let g = e.exact (sym n ∙ z) in
    let x : r.report ≡ r₂.report = f.report ∙ sym g.report in
    let q : r.position ≡ r₂.position = f.position ∙ sym g.position in
    let w : o' ≡ o₂ = f.report_written ∙ sym g.report_written in
    let h : r.held ≡ r₂.held = f.held ∙ rw q (sym g.held) in
    let k : r.reported ≡ r₂.reported = f.reported ∙ rw (x, w) (sym g.reported) in (
      same_outcome r r₂ n x q h k,
      f.accepted_written ∙ sym g.accepted_written,
      w,
    ))
    (λ y.
    let z = eqb-false r.number 0 y in
    let f = d.unplayed z in
    let g = e.unplayed (λ w. z (n ∙ w)) in (
      same_outcome r r₂ n (f.report ∙ sym g.report) (f.position ∙ sym g.position) (f.held ∙ sym g.held) (f.reported ∙ sym g.reported),
      f.accepted_kept ∙ sym g.accepted_kept,
      f.report_kept ∙ sym g.report_kept,
    ))
