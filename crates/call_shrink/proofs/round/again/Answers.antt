-- The four bytes of each.
use Rattle.laws.proofs.Prelude.{◌-◌, ◌∙◌, arith}
use Rattle.call_shrink.proofs.Twins.{same_slices}
use Rattle.call_shrink.proofs.round.again.Goals as goal

pub returns-then-not-went : goal.returns-then-not-went
returns-then-not-went c =
    let h = c.requires.le_i c.if-not-went.true in
    rw c.if-not-went.true (c.eq.ensures ∙ same_slices c.args.steps.now (c.args.i - 4) c.args.i _ _ (omega (arith, h, c.requires.i_in_bounds)) c.requires.i_in_bounds (omega (arith, h)) (omega (arith, h)))
