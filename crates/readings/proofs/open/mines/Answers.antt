-- The miner, and no test fails.
use Rattle.readings.specs.Forms.Context.{mines_in}
use Rattle.laws.proofs.Prelude.{ne_eqb}
use Rattle.sheet.proofs.Refusing.{ok_number}
use Rattle.readings.proofs.open.mines.Goals as goal

pub returns-then-actor-ne2 : goal.returns-then-actor-ne2
unfolding mines_in
returns-then-actor-ne2 c = rw (ne_eqb _ _ c.if-actor-ne2.true)

pub returns : goal.returns
unfolding mines_in
returns c = rw (c.if-actor-ne2.false, c.is_ok.ensures.value, ok_number c.mine_refusal.result, c.mine_refusal.ensures)
