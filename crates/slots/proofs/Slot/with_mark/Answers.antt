-- One more mark, by party number; the other fields stay.
use Rattle.laws.proofs.Prelude.{one-mul, arith, tests}
use lib.Pow.{shl_exact}
use Rattle.slots.specs.Slot.{with_mark}
use Rattle.slots.proofs.Slot.with_mark.Goals as goal

pub returns-then-party-eq0 : goal.returns-then-party-eq0
unfolding with_mark
returns-then-party-eq0 c = rw (c.if-party-eq0.true, shl_exact {a = 1} 1 c.args.destination 8 (omega arith) (omega arith), one-mul)

pub returns-then-party-eq1 : goal.returns-then-party-eq1
unfolding with_mark
returns-then-party-eq1 c = rw (c.if-party-eq1.true, shl_exact {a = 1} 1 c.args.destination 8 (omega arith) (omega arith), one-mul)

pub returns-then-party-eq3 : goal.returns-then-party-eq3
unfolding with_mark
returns-then-party-eq3 c = rw (c.if-party-eq3.true, shl_exact {a = 1} 1 c.args.destination 8 (omega arith) (omega arith), one-mul)

pub returns-else-party-eq3 : goal.returns-else-party-eq3
unfolding with_mark
returns-else-party-eq3 c = simp (tests, c.if-party-eq0.false, c.if-party-eq1.false, c.if-party-eq3.false)
