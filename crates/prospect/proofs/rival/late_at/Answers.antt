-- What is read for the two.
use Rattle.prospect.specs.Forms.Tables.{late_at}
use Rattle.prospect.proofs.rival.late_at.Goals as goal

pub late_from-requires : goal.late_from-requires
late_from-requires c = c.requires.sound.low _ c.requires.t_lt_count

pub returns : goal.returns
unfolding late_at
returns c =
    rw (
      ← c.has.ensures,
      ← c.has-since.ensures,
      ← c.has-runs.ensures,
      ← c.has-fixed.ensures,
    )
    c.late_from.ensures
