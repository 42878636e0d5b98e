-- In the mask, and t in its line.
use Rattle.laws.proofs.Prelude.{◌∙◌, arith}
use Rattle.slots.proofs.LineSets.{line_bit}
use Rattle.endings.proofs.planned.leads_to.Goals as goal

pub returns-then-has : goal.returns-then-has
returns-then-has c = simp (← c.has.ensures, c.if-has.true) (c.has-then-has.ensures ∙ rw c.line_of.ensures (line_bit _ _ _ (omega (arith, c.args.sheet.now.sized.few, c.requires.x_bound)) (omega (arith, c.args.sheet.now.sized.few, c.requires.t_bound))))

pub returns : goal.returns
returns c = simp (← c.has.ensures, c.if-has.false)
