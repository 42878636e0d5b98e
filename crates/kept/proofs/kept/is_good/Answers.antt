-- By its children, then by what it rules.
use Rattle.kept.specs.Forms.Evaluation.{good_in}
use Rattle.kept.proofs.kept.is_good.Goals as goal

pub returns-then-leads : goal.returns-then-leads
unfolding good_in
returns-then-leads c = rw (← c.leads.ensures, c.if-leads.true, ← c.remove.ensures) c.within.ensures

pub returns : goal.returns
unfolding good_in
returns c = rw (← c.leads.ensures, c.if-leads.false)
