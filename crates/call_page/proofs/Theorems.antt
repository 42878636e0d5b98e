-- Every line has its length; read back, it gives the report's row.
-- Assumes nothing.
use Rattle.laws.proofs.Prelude.{ℕ, suc, ◌*◌, ◌^◌, ◌≤◌, ◌<◌, ◌≡◌, refl, sym, ap, ◌∙◌, true, false, List, ◌++◌, ◌⊎◌, inl, inr, eqb, ltb, length, take, drop}
use Rattle.laws.proofs.Prelude.{length-drop, eqb-true, eqb-false, ltb-true, ltb-false, lt-ltb, le-ltb, arith, zero-add, mul-le-mul_left, drop_at, split, over, take_over}
use Rattle.laws.proofs.Prelude.{length_over, stores_over}
use Rattle.position.proofs.Rules.{accepted, buffer_short, count, entry_to, slot, is_confirmed, confirmed_to, block_of, lock_height_in, deadline_in, run, unconfirmed}
use Rattle.position.specs.declared.Position.{Position}
use Rattle.position.proofs.Rules.{status, payee, row, printed_line, Written}
use lib.Seq.{sets-eq, take-append-le, drop-append-le}
use Rattle.step_laws.specs.Wellformed.{Wellformed}
use Rattle.call_page.specs.Line.{line}
use Rattle.call_page.specs.Page.{line_texts, page_of, page_answer}
use Rattle.call_page.specs.Claim.{line_at, LinesLong, ReadsBack, RunsReadBack, PageWritten, PageAnswered, PageAnswers}
use Rattle.call_page.proofs.Lines.{line_length}
use Rattle.call_page.proofs.Pages.{page_size}
use Rattle.position.proofs.Passing.{not_passed_on, passed_short, passed_whole}
use Rattle.call_run.proofs.Runs.{ran_fit}
use Rattle.step_laws.proofs.Wellformeds.{wellformed_run}
use Rattle.call_page.proofs.Rows.{low, low_bytes, low_most, low_below, status_few, lines_readable, read_line}
use Rattle.call_page.proofs.Cuts.{part_at}
use Rattle.call_page.proofs.Back.{values_back}

-- line i of a page is the line of its texts
line_at_lem : (s u : List ℕ) (p : Position) → count s ≤ 32 → (i : ℕ) → i ≤ count s
    → line_at (page_of (count s) (printed_line s u p)) i ≡ line (line_texts (printed_line s u p) i)
unfolding line_at page_of
line_at_lem s u p few i h =
    part_at (λ k. line (line_texts (printed_line s u p) k)) 73 (suc (count s)) i (λ k l. line_length (count s) (printed_line s u p) (lines_readable s u p few) k (omega arith)) (omega arith)

pub lines_long : LinesLong
lines_long s u p few i h =
    ap length (line_at_lem s u p few i h) ∙ line_length (count s) (printed_line s u p) (lines_readable s u p few) i h

-- a payee is a destination, or nobody
payee_known : (s : List ℕ) (p : Position) → Wellformed s p → (t : ℕ) → (payee p t ≤ 3) ⊎ (payee p t ≡ unconfirmed)
unfolding payee confirmed_to entry_to
payee_known s p w t =
    split (is_confirmed p t)
    (λ e. rw e (inl (omega (arith, (w.slots t).confirmed))))
    (λ e. rw e (inr refl))

block_few : (s : List ℕ) (p : Position) → Wellformed s p → (t : ℕ) → low (block_of p t) < 10 ^ 8
unfolding block_of
block_few s p w t = omega (arith, low_most (slot p t).height, (w.slots t).height, w.mined)

pub reads_back : ReadsBack
unfolding line_texts row
reads_back s u p few w t l =
    let b =
    values_back t (status s p t) (payee p t) (low (block_of p t)) (low (lock_height_in s u p t)) (low (deadline_in s u p t))
    (omega arith) (omega (arith, status_few s p t)) (payee_known s p w t) (block_few s p w t) (low_below (lock_height_in s u p t)) (low_below (deadline_in s u p t)) in
    rw (line_at_lem s u p few (suc t) l, read_line s u p t)
    (rw (low_bytes (block_of p t), low_bytes (lock_height_in s u p t), low_bytes (deadline_in s u p t)) at b)

pub runs_read_back : RunsReadBack
runs_read_back s u j z t l =
    let k = (ran_fit s u j (run s u j) refl z).checked in
    reads_back s u (run s u j).position k.sized.few (wellformed_run s u k j) t l

-- The same of what the call answers.
module _ (s u j out : List ℕ) where
  abbrev page : List ℕ
  page = page_of (count s) (printed_line s u (run s u j).position)

  size : (run s u j).refusal ≡ accepted → length page ≡ 73 * suc (count s)
  size z = page_size s u j (ran_fit s u j (run s u j) refl z)

  -- the page at the front of a buffer that has room for it
  module _ (z : (run s u j).refusal ≡ accepted) (room : 73 * suc (count s) ≤ length out) where
    few : count s ≤ 32
    few = (ran_fit s u j (run s u j) refl z).checked.sized.few

    whole : over page out ≡ page ++ drop (length page) out
    whole = rw zero-add at (sym (stores_over page out) ∙ sets-eq page out 0 (omega (arith, size z)))

    -- a line of the page is that line of the buffer
    line_kept : (i : ℕ) → i ≤ count s → line_at (over page out) i ≡ line_at page i
    unfolding line_at
    line_kept i l =
        let fits : 73 * suc i ≤ 73 * suc (count s) = mul-le-mul_left 73 (omega arith) in
        rw whole
        (ap (λ r. take 73 r) (drop-append-le (73 * i) page (drop (length page) out) (omega (arith, size z)))
        ∙ take-append-le 73 (drop (73 * i) page) (drop (length page) out) (omega (arith, size z, length-drop (73 * i) page)))

    page_written : PageWritten s u j out (over page out)
    page_written =
        record {
          unrefused = z;
          bytes = rw (← size z) (take_over page out (omega (arith, size z)));
          lines_long = λ i l. ap length (line_kept i l) ∙ lines_long s u (run s u j).position few i l;
          reads_back = λ t l. rw (line_kept (suc t) l) (runs_read_back s u j z t l);
          beyond = rw (whole, drop_at page (drop (length page) out) (73 * suc (count s)) (size z), size z);
          long = length_over page out;
        }

  -- the run is refused, or the page has no room, or it is written
  abbrev Answers : Written → Type 0
  Answers w = PageAnswered s u j out w.refusal w.buffer

  by_run : eqb (run s u j).refusal accepted ≡ false → Answers (page_answer s u j out)
  unfolding page_answer
  by_run y =
      rw (not_passed_on (run s u j) page out 0 (eqb-false (run s u j).refusal accepted y))
      (record { number = rw y; written = λ z. absurd (eqb-false (run s u j).refusal accepted y z); refused = λ f. refl })

  by_room : eqb (run s u j).refusal accepted ≡ true → length out < 73 * suc (count s) → Answers (page_answer s u j out)
  unfolding page_answer
  by_room y l =
      let z = eqb-true (run s u j).refusal accepted y in
      rw (passed_short (run s u j) page out 0 z (omega (arith, size z)))
      (record { number = rw (y, lt-ltb (length out) (73 * suc (count s)) l); written = λ z. absurd (eqb-false buffer_short accepted refl z); refused = λ f. refl })

  by_page : eqb (run s u j).refusal accepted ≡ true → 73 * suc (count s) ≤ length out → Answers (page_answer s u j out)
  unfolding page_answer
  by_page y l =
      let z = eqb-true (run s u j).refusal accepted y in
      rw (passed_whole (run s u j) page out 0 z (omega (arith, size z)))
      (record { number = rw (y, le-ltb (length out) (73 * suc (count s)) l, z); written = λ f. page_written z l; refused = λ f. absurd (f refl) })

pub page_answers : PageAnswers
page_answers s u j out =
    split (eqb (run s u j).refusal accepted)
    (λ y.
    split (ltb (length out) (73 * suc (count s)))
    (λ l. by_room s u j out y (ltb-true (length out) (73 * suc (count s)) l))
    (λ l. by_page s u j out y (ltb-false (length out) (73 * suc (count s)) l)))
    (by_run s u j out)
