-- By the two lock heights.
use Rattle.soonest.specs.Soonest.{counts_at}
use Rattle.laws.proofs.Prelude.{tests, rules, arith}
use Rattle.soonest.proofs.deadline.counts_at.Goals as goal

pub returns-then-own-his : goal.returns-then-own-his
unfolding counts_at
returns-then-own-his c = simp (tests, ← c.requires.lock.is, ← c.lock_at-his.ensures.is, c.if-own-his.true)

pub overflow_add-result : goal.overflow_add-result
overflow_add-result c =
    let h = c.requires.lock.small 4294967295 (omega arith) (omega (arith, c.requires.e_bound)) in
    search rules

pub returns-then-may_rise : goal.returns-then-may_rise
unfolding counts_at
returns-then-may_rise c = simp (tests, ← c.requires.lock.is, ← c.lock_at-his.ensures.is, c.if-own-his.false, ← c.may_rise.ensures, c.if-may_rise.true)

pub returns : goal.returns
unfolding counts_at
returns c = simp (tests, ← c.requires.lock.is, ← c.lock_at-his.ensures.is, c.if-own-his.false, ← c.may_rise.ensures, c.if-may_rise.false)
