-- As many bytes as four for each step.
use Rattle.laws.proofs.Prelude.{arith}
use Rattle.call_list.proofs.Lists.{sets_bound, sets_room, gives_short, gives_whole}
use Rattle.call_list.proofs.listing.write_fitting.Goals as goal

pub overflow_mul-count : goal.overflow_mul-count
overflow_mul-count c = record { fits = omega (arith, c.sets_count-count.ensures, sets_bound c.args.alice c.args.bob c.args.carol c.args.miner) }

pub returns-then-out-count : goal.returns-then-out-count
returns-then-out-count c =
    let whole = gives_short _ _ _ _ _ _ c.sets_count-count.ensures c.if-out-count.true in
    record { refusal_value = whole.0; count_value = whole.1.0; out_after = whole.1.1 }

pub write_all-requires : goal.write_all-requires
write_all-requires c = sets_room c.args.alice c.args.bob c.args.carol c.args.miner _ c.args.out.now c.sets_count-count.ensures c.if-out-count.false

pub overflow_cast-result : goal.overflow_cast-result
overflow_cast-result c = record { fits = omega (arith, c.sets_count-count.ensures, sets_bound c.args.alice c.args.bob c.args.carol c.args.miner) }

pub returns : goal.returns
returns c =
    let whole = gives_whole _ _ _ _ _ _ c.sets_count-count.ensures _ c.if-out-count.false c.write_all.ensures in
    record { refusal_value = whole.0; count_value = whole.1.0; out_after = whole.1.1 }
