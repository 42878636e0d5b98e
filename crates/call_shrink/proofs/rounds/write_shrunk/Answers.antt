-- The row copied, shrunk, and written where it fits.
use Rattle.laws.proofs.Prelude.{◌≤◌, sym, rules, arith}
use Rattle.call_shrink.proofs.Answering.{row_copied, left_few, left_long, left_short, left_written}
use Rattle.call_shrink.proofs.rounds.write_shrunk.Goals as goal
use Rattle.call_shrink.proofs.rounds.write_shrunk.Goals.{After-rounds-n}

few : (c : After-rounds-n) → c.rounds-n.result ≤ 1024
few c =
    left_few _ _ _ c.args.row.now _ _ _ c.requires.row_len_bound
    (row_copied c.args.row.now _ _ c.requires.row_len (omega (arith, c.requires.row_len_bound)) c.copy.ensures) c.rounds-n.ensures

pub rounds-n-requires : goal.rounds-n-requires
rounds-n-requires c =
    let e = row_copied c.args.row.now _ _ c.requires.row_len (omega (arith, c.requires.row_len_bound)) c.copy.ensures in
    record { fit = c.requires.fit; n_bound = omega (arith, c.requires.row_len_bound); n_in_bounds = search rules; part_in_bounds = search rules; part_value = rw e c.requires.row_value }

pub overflow_mul-end : goal.overflow_mul-end
overflow_mul-end c = record { fits = omega (arith, few (goal.at.overflow_mul-end c).After-rounds-n) }

pub returns-then-out-end : goal.returns-then-out-end
returns-then-out-end c =
    let whole = left_short _ _ _ c.args.row.now _ _ _ c.requires.row_len_bound (row_copied c.args.row.now _ _ c.requires.row_len (omega (arith, c.requires.row_len_bound)) c.copy.ensures) c.rounds-n.ensures _ c.if-out-end.true in
    record { refusal_value = whole.0; count_value = whole.1.0; out_after = whole.1.1 }

pub slice_bounds-part-end : goal.slice_bounds-part-end
slice_bounds-part-end c = omega (arith, few (goal.at.slice_bounds-part-end c).After-rounds-n)

pub slice_bounds-copy-end-2 : goal.slice_bounds-copy-end-2
slice_bounds-copy-end-2 c = sym (left_long _ _ _ c.args.row.now _ _ _ c.requires.row_len_bound (row_copied c.args.row.now _ _ c.requires.row_len (omega (arith, c.requires.row_len_bound)) c.copy.ensures) c.rounds-n.ensures)

pub copy-requires-2 : goal.copy-requires-2
copy-requires-2 c =
    omega (
      arith,
      left_long _ _ _ c.args.row.now _ _ _ c.requires.row_len_bound
          (row_copied c.args.row.now _ _ c.requires.row_len (omega (arith, c.requires.row_len_bound)) c.copy.ensures) c.rounds-n.ensures,
      c.if-out-end.false,
    )

pub overflow_cast-result : goal.overflow_cast-result
overflow_cast-result c = omega (arith, few (goal.at.overflow_cast-result c).After-rounds-n)

pub returns : goal.returns
returns c =
    let whole = left_written _ _ _ c.args.row.now _ _ _ c.requires.row_len_bound (row_copied c.args.row.now _ _ c.requires.row_len
    (omega (arith, c.requires.row_len_bound)) c.copy.ensures) c.rounds-n.ensures _ c.if-out-end.false _ c.copy-2.ensures in
    record { refusal_value = whole.0; count_value = whole.1.0; out_after = whole.1.1 }
