-- The answers of a page, case by case.
-- Assumes nothing.
use Rattle.laws.proofs.Prelude.{ℕ, suc, ◌*◌, ◌≤◌, ◌<◌, ◌≡◌, refl, sym, ◌∙◌, List, eqb, length, take, eqb-true, eqb-false, arith, split, over}
use Rattle.position.proofs.Rules.{count, Fit, accepted, buffer_short, row_width, reported_line, slot_count, run, printed_line}
use Rattle.dated.specs.Report.{report_answer}
use Rattle.dated.proofs.ReportAnswers.{counts_after, rows_after, rows_length, report_as, report_buffer}
use Rattle.position.proofs.Passing.{not_passed_on, passed_short, passed_whole}
use Rattle.call_run.proofs.Runs.{ran_fit}
use Rattle.call_run.proofs.Bounds.{written_bounds}
use Rattle.call_page.specs.Page.{page_of, page_answer}
use Rattle.call_page.proofs.Lines.{page_length}
use Rattle.call_page.proofs.Rows.{lines_readable, page_same}

-- the number of a page
pub page_below : (s u j out : List ℕ) → (page_answer s u j out).refusal < 33
unfolding page_answer
page_below s u j out = (written_bounds s u j (page_of (count s) (printed_line s u (run s u j).position)) out 0).0

-- a page for every position has 73 bytes for the header and for each transaction
pub page_size : (s u j : List ℕ) → Fit s u → length (page_of (count s) (printed_line s u (run s u j).position)) ≡ 73 * suc (count s)
page_size s u j h = page_length (count s) (printed_line s u (run s u j).position) (lines_readable s u (run s u j).position h.checked.sized.few)

-- a report into rows that are always enough: its number, and what is in the rows then
pub record Reported (s u j l : List ℕ) (number : ℕ) : Type 0 where
  pub rows : List ℕ
  pub long : length rows ≡ slot_count * row_width
  pub is : number ≡ (report_answer s u j rows).refusal
  pub buffer : l ≡ (report_answer s u j rows).buffer

module _ {s u j l : List ℕ} {number : ℕ} (q : Reported s u j l number) where
  shown : List ℕ
  shown = page_of (count s) (printed_line s u (run s u j).position)

  -- the number is the run's
  number_run : number ≡ (run s u j).refusal
  number_run =
      let r = run s u j in
      q.is ∙ rw (report_as s u j q.rows)
      (split (eqb r.refusal 0)
      (λ y.
      let z = eqb-true r.refusal 0 y in
      let few = (ran_fit s u j r refl z).checked.sized.few in
      rw (passed_whole r (rows_after s u j) q.rows 0 z (omega (arith, few, q.long, rows_length s u j))) (sym z))
      (λ y. rw (not_passed_on r (rows_after s u j) q.rows 0 (eqb-false r.refusal 0 y))))

  pub page_refused : (out : List ℕ) → (number ≡ 0 → ⊥) → (number ≡ (page_answer s u j out).refusal) × (out ≡ (page_answer s u j out).buffer)
  unfolding page_answer shown
  page_refused out h = rw (not_passed_on (run s u j) shown out 0 (λ z. h (number_run ∙ z))) (number_run, refl)

  module _ (z : number ≡ 0) where
    page_runs : (run s u j).refusal ≡ 0
    page_runs = sym number_run ∙ z

    pub page_fit : Fit s u
    page_fit = ran_fit s u j (run s u j) refl page_runs

    module _ {n : ℕ} (c : n ≡ count s) where
      pub few : n ≤ 32
      few = omega (arith, page_fit.checked.sized.few)

      -- the rows that the code lends are the report's
      rows_are : take (row_width * n) l ≡ rows_after s u j
      rows_are = rw (c, q.buffer) (report_buffer s u j q.rows (sym q.is ∙ z))

      pub rows_long : length (take (row_width * n) l) ≡ row_width * n
      rows_long = rw (rows_are, c) (rows_length s u j)

      long : length shown ≡ 73 * suc n
      unfolding shown
      long = rw c (page_size s u j page_fit)

      pub page_short : (out : List ℕ) → length out < 73 * suc n → (buffer_short ≡ (page_answer s u j out).refusal) × (out ≡ (page_answer s u j out).buffer)
      unfolding page_answer shown
      page_short out h = rw (passed_short (run s u j) shown out 0 page_runs (rw long h)) (refl, refl)

      pub page_whole : (out l' : List ℕ) → 73 * suc n ≤ length out → l' ≡ over (page_of n (reported_line (take (row_width * n) l))) out
          → (accepted ≡ (page_answer s u j out).refusal) × (l' ≡ (page_answer s u j out).buffer)
      unfolding page_answer shown
      page_whole out l' h e =
          rw (passed_whole (run s u j) shown out 0 page_runs (rw long h))
          (refl, e ∙ rw (rows_are, c, page_same s u (run s u j).position (counts_after s u j)))
