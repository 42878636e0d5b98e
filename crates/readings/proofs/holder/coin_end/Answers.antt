-- The last of those below t.
use Rattle.readings.proofs.Holders.{end_start, end_more, end_done}
use Rattle.readings.specs.Holder.{holder}
use Rattle.readings.specs.Forms.Holder.{coin_end}
use Rattle.laws.proofs.Prelude.{◌∙◌}
use Rattle.readings.proofs.holder.coin_end.Goals as goal
use Rattle.readings.proofs.holder.coin_end.Goals.{then-ends_coin, else-ends_coin}

pub loop-t-init : goal.loop-t-init
unfolding coin_end holder
loop-t-init c = end_start _

pub loop-t-preserved : goal.loop-t-preserved
unfolding coin_end holder
loop-t-preserved c =
    end_more _ _ _ _ c.loop-t.invariant
    (elim c.if-ends_coin.branch [ then-ends_coin w ↦ w.found-is ∙ rw (← c.ends_coin.ensures, w.if-ends_coin.true) | else-ends_coin w ↦ w.found-is ∙ rw (← c.ends_coin.ensures, w.if-ends_coin.false) ])

pub returns : goal.returns
unfolding coin_end holder
returns c = rw (← c.count-n.ensures.is) (end_done _ _ _ _ c.loop-t.auto.t-end c.loop-t-test.false c.loop-t.invariant)
