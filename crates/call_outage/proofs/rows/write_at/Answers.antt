-- What was read once makes the row.
use Rattle.call_outage.specs.Forms.Row.{row_in}
use Rattle.laws.proofs.Prelude.{arith}
use Rattle.call_outage.proofs.rows.write_at.Goals as goal

pub soonest_deadline-until-requires : goal.soonest_deadline-until-requires
soonest_deadline-until-requires c = record { t_bound = c.requires.t_bound; e_bound = omega (arith, c.above-e.ensures, c.requires.t_bound_2) }

pub returns : goal.returns
unfolding row_in
returns c =
    rw (
      ← c.per_day-per_day.ensures,
      ← c.dead_in-dead.ensures,
      ← c.above-e.ensures,
      ← c.soonest_deadline-until.ensures,
      ← c.verdict-judged.ensures,
      ← c.payees_below-paid.ensures,
      ← c.block_from-from.ensures,
    )
    c.write_row.ensures
