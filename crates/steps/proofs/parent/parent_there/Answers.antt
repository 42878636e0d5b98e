-- None to ask for, or a member of the set.
use Rattle.slots.specs.Ancestry.{has_parent}
use Rattle.laws.proofs.Prelude.{bit_above, sym, rules}
use Rattle.steps.proofs.parent.parent_there.Goals as goal

pub returns-then-opening : goal.returns-then-opening
unfolding has_parent
returns-then-opening c = rw (← c.opening.ensures, c.if-opening.true)

pub returns-then-up-lt32 : goal.returns-then-up-lt32
unfolding has_parent
returns-then-up-lt32 c = rw (← c.opening.ensures, c.if-opening.false, c.has.ensures, c.parent-up.ensures.is)

pub returns : goal.returns
unfolding has_parent
returns c = rw (← c.opening.ensures, c.if-opening.false, ← c.parent-up.ensures.is) (sym (bit_above c.args.members 32 c.parent-up.result (search rules) c.if-up-lt32.false))
