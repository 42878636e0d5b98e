-- What is read for the two.
use Rattle.prospect.specs.Forms.Tables.{sooner_at}
use Rattle.prospect.proofs.rival.sooner_at.Goals as goal

pub returns : goal.returns
unfolding sooner_at
returns c =
    rw (
      ← c.has.ensures,
      ← c.has-runs.ensures,
      ← c.has-fixed.ensures,
      ← c.has-pooled.ensures,
    )
    c.sooner_from.ensures
