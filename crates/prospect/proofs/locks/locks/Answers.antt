-- Those below t.
use Rattle.laws.proofs.Prelude.{refl, rules, arith}
use Rattle.soonest.proofs.Tables.{filled_start, filled_more, filled_done}
use Rattle.prospect.proofs.LockHeights.{block_small, own_lock}
use Rattle.prospect.proofs.locks.locks.Goals as goal

pub loop-t-init : goal.loop-t-init
loop-t-init c = filled_start _ _ refl

pub lock_at-requires : goal.lock_at-requires
lock_at-requires c =
    let h =
    block_small c.args.sheet.now.bytes c.args.setup.now c.args.position c.requires.checked c.loop-t.t
    (omega (arith, c.loop-t-test.true, c.count-t-end.ensures.is))
    _ c.per_day-per_day.ensures _ c.soonest_blocks-soonest.ensures c.since-since.result c.block_or-e.result
    c.since-since.ensures (search rules) (rw (← c.above.ensures) c.block_or-e.ensures) in
    search rules

pub loop-t-preserved : goal.loop-t-preserved
loop-t-preserved c =
    let h =
    own_lock c.args.sheet.now.bytes c.args.setup.now c.args.position c.requires.checked c.loop-t.t
    (omega (arith, c.loop-t-test.true, c.count-t-end.ensures.is))
    _ c.per_day-per_day.ensures _ c.soonest_blocks-soonest.ensures c.since-since.result c.block_or-e.result
    c.since-since.ensures (search rules) (rw (← c.above.ensures) c.block_or-e.ensures)
    _ c.lock_at.ensures in
    filled_more _ _ _ _ c.loop-t.invariant (search rules) h

pub returns : goal.returns
returns c = filled_done _ _ _ _ (omega (arith, c.loop-t-test.false, c.count-t-end.ensures.is)) c.loop-t.invariant
