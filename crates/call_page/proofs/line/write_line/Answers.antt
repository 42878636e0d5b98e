-- The columns before k; then the end of the line.
use Rattle.laws.proofs.Prelude.{ℕ, ◌+◌, ◌-◌, ◌≤◌, ◌<◌, ◌≡◌, List, [], ◌∷◌, ◌++◌, length, get_or, take, drop, arith, over, gather, Wrote, Turns, turns_start, turn_room, turn_end, turn_more, turns_done}
use Rattle.laws.proofs.Prelude.{wrote_room, wrote_more}
use Rattle.position.proofs.Rules.{reported_line}
use borrow.Rule.Slice.PartMut.{put_mid}
use Rattle.call_page.specs.Line.{line_feed, column, line}
use Rattle.call_page.specs.Page.{line_texts}
use Rattle.call_page.specs.Forms.Cell.{cell}
use Rattle.call_page.proofs.Lines.{Readable, bytes_readable, cells_short, cells_room, line_length, line_parts}
use Rattle.call_page.proofs.line.write_line.Goals as goal

module _ (report : List ℕ) (i : ℕ) (few : i ≤ 32) (bytes : (n : ℕ) → get_or report n 0 < 256) where
  readable : Readable i (reported_line report)
  readable = bytes_readable i report few bytes

  start : (out : List ℕ) → 73 ≤ length out → Turns (cell (reported_line report) i) 6 out out 0 0
  start out h = turns_start _ _ _ (cells_room i (reported_line report) readable i _ (omega arith) h)

  module _ (l₀ l : List ℕ) (at k : ℕ) (h : 73 ≤ length l₀) (t : Turns (cell (reported_line report) i) 6 l₀ l at k) (e : 6 ≤ k) where
    -- what the loop has written, and that the line fits
    done : Wrote (gather 6 (cell (reported_line report) i)) l₀ l at
    done = turns_done _ _ _ _ _ _ t e

    parts : gather 6 (cell (reported_line report) i) ++ column (73 - at) (line_feed ∷ []) ≡ line (line_texts (reported_line report) i)
    parts = line_parts (reported_line report) i _ done.at

    fits : length (gather 6 (cell (reported_line report) i) ++ column (73 - at) (line_feed ∷ [])) ≤ length l₀
    fits = rw parts (omega (arith, h, line_length i (reported_line report) readable i (omega arith)))

    short : at ≤ 58
    short = omega (arith, done.at, cells_short i (reported_line report) readable i (omega arith))

    room : length (column (73 - at) (line_feed ∷ [])) ≤ length (take (length l - at) (drop at l))
    room = wrote_room _ _ _ _ _ done fits

    whole : (n : ℕ) (ys : List ℕ) → n ≡ length (column (73 - at) (line_feed ∷ [])) → ys ≡ over (column (73 - at) (line_feed ∷ [])) (take (length l - at) (drop at l))
        → Wrote (line (line_texts (reported_line report) i)) l₀ (put_mid at (length l - at) l ys) (at + n)
    whole n ys f g = rw parts at (wrote_more _ _ _ _ _ _ _ done fits f g)

pub loop-k-init : goal.loop-k-init
loop-k-init c = start _ _ c.requires.i_bound (λ n. omega (arith, c.type_inv.report n)) _ c.requires.in_bounds

pub slice_bounds-write_cell-count : goal.slice_bounds-write_cell-count
slice_bounds-write_cell-count c = omega (arith, c.loop-k.invariant.wrote)

pub slice_bounds-write_cell-start : goal.slice_bounds-write_cell-start
slice_bounds-write_cell-start c = omega (arith, c.loop-k.invariant.wrote)

pub write_cell-wrote-requires : goal.write_cell-wrote-requires
write_cell-wrote-requires c =
    record { i_bound = c.requires.i_bound; k_bound = c.loop-k-test.true; i_in_bounds = c.requires.i_in_bounds; k_in_bounds = turn_room _ _ _ _ _ _ c.loop-k.invariant c.loop-k-test.true }

pub overflow_add-at : goal.overflow_add-at
overflow_add-at c = omega (arith, turn_end _ _ _ _ _ _ _ c.loop-k.invariant c.loop-k-test.true c.write_cell-wrote.ensures.value)

pub loop-k-preserved : goal.loop-k-preserved
loop-k-preserved c = turn_more _ _ _ _ _ _ _ _ c.loop-k.invariant c.loop-k-test.true c.write_cell-wrote.ensures.value c.write_cell-wrote.ensures.out_after

pub overflow_sub-at : goal.overflow_sub-at
overflow_sub-at c = omega (arith, short _ _ c.requires.i_bound (λ n. omega (arith, c.type_inv.report n)) _ _ _ _ c.requires.in_bounds c.loop-k.invariant c.loop-k-test.false)

pub slice_bounds-write_text-count : goal.slice_bounds-write_text-count
slice_bounds-write_text-count c = omega (arith, done _ _ c.requires.i_bound (λ n. omega (arith, c.type_inv.report n)) _ _ _ _ c.requires.in_bounds c.loop-k.invariant c.loop-k-test.false)

pub slice_bounds-write_text-start : goal.slice_bounds-write_text-start
slice_bounds-write_text-start c = omega (arith, done _ _ c.requires.i_bound (λ n. omega (arith, c.type_inv.report n)) _ _ _ _ c.requires.in_bounds c.loop-k.invariant c.loop-k-test.false)

pub write_text-requires : goal.write_text-requires
write_text-requires c = room _ _ c.requires.i_bound (λ n. omega (arith, c.type_inv.report n)) _ _ _ _ c.requires.in_bounds c.loop-k.invariant c.loop-k-test.false

pub shape_of-out : goal.shape_of-out
shape_of-out c = (whole _ _ c.requires.i_bound (λ n. omega (arith, c.type_inv.report n)) _ _ _ _ c.requires.in_bounds c.loop-k.invariant c.loop-k-test.false _ _ c.write_text.ensures.value c.write_text.ensures.out_after).long

pub returns : goal.returns
returns c = (whole _ _ c.requires.i_bound (λ n. omega (arith, c.type_inv.report n)) _ _ _ _ c.requires.in_bounds c.loop-k.invariant c.loop-k-test.false _ _ c.write_text.ensures.value c.write_text.ensures.out_after).is
