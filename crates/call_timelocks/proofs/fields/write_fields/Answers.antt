-- The numbers of the transactions before t.
use Rattle.call_timelocks.proofs.Lengths.{field_length, fields_room}
use Rattle.call_timelocks.specs.Fields.{n_lock_time, n_sequence, field_bytes, timelock_bytes}
use Rattle.call_timelocks.specs.Limits.{absolute_right}
use Rattle.laws.proofs.Prelude.{all_at, bytes_of, turns_start, turn_more, turns_done, ℕ, ◌+◌, ◌*◌, ◌<◌, ◌≡◌, sym, List, ◌++◌, arith}
use Rattle.sheet.specs.Field.{count}
use Rattle.call_timelocks.proofs.fields.write_fields.Goals as goal

pair-written : (s : List ℕ) (d base t a b : ℕ) → a ≡ n_lock_time s d base t → b ≡ n_sequence s d t → bytes_of 4 a ++ bytes_of 4 b ≡ field_bytes s d base t
unfolding field_bytes
pair-written s d base t a b e f = rw (e, f)

pub loop-t-init : goal.loop-t-init
loop-t-init c = turns_start _ _ _ (fields_room c.args.sheet.now.bytes c.args.per_day c.args.base _ c.requires.sheet_in_bounds)

pub lock_time-first-requires-clause-t_value : goal.lock_time-first-requires-clause-t_value
lock_time-first-requires-clause-t_value c = all_at _ (absolute_right c.args.sheet.now.bytes c.args.per_day c.args.base) c.requires.base_value _ (omega (arith, c.loop-t-test.true, c.count-t-end.ensures.is))

pub loop-t-preserved : goal.loop-t-preserved
loop-t-preserved c =
    let low : c.loop-t.t < count c.args.sheet.now.bytes = omega (arith, c.loop-t-test.true, c.count-t-end.ensures.is) in
    let next : 8 * c.loop-t.t + 8 ≡ 8 * (c.loop-t.t + 1) = omega arith in
    let wrote = pair-written c.args.sheet.now.bytes c.args.per_day c.args.base c.loop-t.t _ _ c.lock_time-first.ensures c.sequence-second.ensures in
    rw (← next) (turn_more _ _ _ _ _ _ _ 8 c.loop-t.invariant low (sym (field_length c.args.sheet.now.bytes c.args.per_day c.args.base c.loop-t.t)) (rw wrote at c.write_pair.ensures))

pub returns : goal.returns
unfolding timelock_bytes
returns c = (turns_done _ _ _ _ _ _ c.loop-t.invariant (omega (arith, c.loop-t-test.false, c.count-t-end.ensures.is))).is
