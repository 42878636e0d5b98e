-- Refused with the report, too short a buffer, or the lines.
use Rattle.laws.proofs.Prelude.{ℕ, ◌*◌, ◌≡◌, List, length, refl, sym, arith}
use Rattle.position.proofs.Rules.{row_width, slot_count}
use Rattle.dated.specs.Report.{report_answer}
use Rattle.call_page.proofs.Pages.{Reported, page_refused, page_fit, rows_long, few, page_short, page_whole}
use Rattle.call_page.proofs.page.Goals as goal

reported : (s u j rows l : List ℕ) (number : ℕ) → length rows ≡ slot_count * row_width → number ≡ (report_answer s u j rows).refusal
    → l ≡ (report_answer s u j rows).buffer → Reported s u j l number
reported s u j rows l number h e f = record { rows = rows; long = h; is = e; buffer = f }

pub returns-then-number-ne0-clause-value : goal.returns-then-number-ne0-clause-value
returns-then-number-ne0-clause-value c = (page_refused (reported _ _ _ _ _ _ refl c.report-number.ensures.value c.report-number.ensures.out_after) c.args.out.now c.if-number-ne0.true).0

pub returns-then-number-ne0-clause-out_after : goal.returns-then-number-ne0-clause-out_after
returns-then-number-ne0-clause-out_after c = (page_refused (reported _ _ _ _ _ _ refl c.report-number.ensures.value c.report-number.ensures.out_after) c.args.out.now c.if-number-ne0.true).1

pub count-n-requires : goal.count-n-requires
count-n-requires c = let h = (page_fit (reported _ _ _ _ _ _ refl c.report-number.ensures.value c.report-number.ensures.out_after) c.if-number-ne0.false).checked.sized in omega (arith, h.head, h.size)

pub returns-then-out-n-clause-value : goal.returns-then-out-n-clause-value
returns-then-out-n-clause-value c = (page_short (reported _ _ _ _ _ _ refl c.report-number.ensures.value c.report-number.ensures.out_after) c.if-number-ne0.false c.count-n.ensures.is c.args.out.now (omega (arith, c.if-out-n.true))).0

pub returns-then-out-n-clause-out_after : goal.returns-then-out-n-clause-out_after
returns-then-out-n-clause-out_after c = (page_short (reported _ _ _ _ _ _ refl c.report-number.ensures.value c.report-number.ensures.out_after) c.if-number-ne0.false c.count-n.ensures.is c.args.out.now (omega (arith, c.if-out-n.true))).1

pub slice_bounds-rows-end : goal.slice_bounds-rows-end
slice_bounds-rows-end c = omega (arith, few (reported _ _ _ _ _ _ refl c.report-number.ensures.value c.report-number.ensures.out_after) c.if-number-ne0.false c.count-n.ensures.is)

pub slice_bounds-write_page-end : goal.slice_bounds-write_page-end
slice_bounds-write_page-end c = sym (rows_long (reported _ _ _ _ _ _ refl c.report-number.ensures.value c.report-number.ensures.out_after) c.if-number-ne0.false c.count-n.ensures.is)

pub write_page-requires : goal.write_page-requires
write_page-requires c =
    let q = reported _ _ _ _ _ _ refl c.report-number.ensures.value c.report-number.ensures.out_after in
    record {
      n_bound = few q c.if-number-ne0.false c.count-n.ensures.is;
      n_in_bounds = omega (arith, rows_long q c.if-number-ne0.false c.count-n.ensures.is);
      n_in_bounds_2 = omega (arith, c.if-out-n.false);
    }

pub returns-clause-value : goal.returns-clause-value
returns-clause-value c =
    (page_whole (reported _ _ _ _ _ _ refl c.report-number.ensures.value c.report-number.ensures.out_after) c.if-number-ne0.false c.count-n.ensures.is c.args.out.now _ (omega (arith, c.if-out-n.false)) c.write_page.ensures).0

pub returns-clause-out_after : goal.returns-clause-out_after
returns-clause-out_after c =
    (page_whole (reported _ _ _ _ _ _ refl c.report-number.ensures.value c.report-number.ensures.out_after) c.if-number-ne0.false c.count-n.ensures.is c.args.out.now _ (omega (arith, c.if-out-n.false)) c.write_page.ensures).1
