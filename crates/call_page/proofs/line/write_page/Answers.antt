-- The lines before i.
use Rattle.laws.proofs.Prelude.{ℕ, suc, ◌*◌, ◌<◌, ◌≤◌, ◌≡◌, sym, List, length, get_or, arith, Turns, turns_start, turn_room, turn_end, turn_more, turns_done}
use Rattle.position.proofs.Rules.{reported_line}
use Rattle.call_page.specs.Line.{line}
use Rattle.call_page.specs.Page.{line_texts, page_of}
use Rattle.call_page.proofs.Lines.{bytes_readable, line_length, page_room}
use Rattle.call_page.proofs.line.write_page.Goals as goal

module _ (report : List ℕ) (n : ℕ) (few : n ≤ 32) (bytes : (k : ℕ) → get_or report k 0 < 256) where
  -- line i has its length
  long : (i : ℕ) → i ≤ n → length (line (line_texts (reported_line report) i)) ≡ 73
  long i h = line_length n (reported_line report) (bytes_readable n report few bytes) i h

  start : (out : List ℕ) → 73 * suc n ≤ length out → Turns (λ j. line (line_texts (reported_line report) j)) (suc n) out out 0 0
  start out h = turns_start _ _ _ (page_room n (reported_line report) (bytes_readable _ _ few bytes) _ h)

pub loop-i-init : goal.loop-i-init
loop-i-init c = start _ _ c.requires.n_bound (λ k. omega (arith, c.type_inv.report k)) _ c.requires.n_in_bounds_2

pub slice_bounds-write_line-count : goal.slice_bounds-write_line-count
slice_bounds-write_line-count c = omega (arith, c.loop-i.invariant.wrote)

pub slice_bounds-write_line-start : goal.slice_bounds-write_line-start
slice_bounds-write_line-start c = omega (arith, c.loop-i.invariant.wrote)

pub write_line-requires : goal.write_line-requires
write_line-requires c =
    let l : c.loop-i.i < suc c.args.n = omega (arith, c.loop-i-test.true) in
    record {
      i_bound = omega (arith, c.requires.n_bound, l);
      i_in_bounds = omega (arith, c.requires.n_in_bounds, l);
      in_bounds = omega (arith, long c.args.report.now c.args.n c.requires.n_bound (λ k. omega (arith, c.type_inv.report k)) c.loop-i.i (omega (arith, c.loop-i-test.true)), turn_room _ _ _ _ _ _ c.loop-i.invariant l);
    }

pub overflow_add-at : goal.overflow_add-at
overflow_add-at c = omega (arith, turn_end _ _ _ _ _ _ 73 c.loop-i.invariant (omega (arith, c.loop-i-test.true)) (sym (long c.args.report.now c.args.n c.requires.n_bound (λ k. omega (arith, c.type_inv.report k)) c.loop-i.i (omega (arith, c.loop-i-test.true)))))

pub loop-i-preserved : goal.loop-i-preserved
loop-i-preserved c = turn_more _ _ _ _ _ _ _ 73 c.loop-i.invariant (omega (arith, c.loop-i-test.true)) (sym (long c.args.report.now c.args.n c.requires.n_bound (λ k. omega (arith, c.type_inv.report k)) c.loop-i.i (omega (arith, c.loop-i-test.true)))) c.write_line.ensures

pub shape_of-out : goal.shape_of-out
shape_of-out c = c.loop-i.invariant.wrote.long

pub returns : goal.returns
unfolding page_of
returns c = (turns_done _ _ _ _ _ _ c.loop-i.invariant (omega (arith, c.loop-i-test.false))).is
