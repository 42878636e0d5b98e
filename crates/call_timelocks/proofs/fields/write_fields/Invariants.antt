-- The numbers of the transactions before t.
use Rattle.call_timelocks.specs.Fields.{field_bytes}
use Rattle.laws.proofs.Prelude.{Turns, ◌*◌}
use Rattle.sheet.specs.Field.{count}
use Rattle.call_timelocks.proofs.fields.write_fields.Given as goal

abbrev pub invariant-loop-t : goal.invariant-loop-t
invariant-loop-t l =
    Turns (field_bytes l.sheet.bytes l.per_day l.base) (count l.sheet.bytes) l.initial.out l.out (8 * l.t) l.t
