-- The greatest is between the two.
use Rattle.laws.specs.Booleans.{held}
use Rattle.laws.specs.Greatest.{halves_start, halves_up, halves_down, halves_none, halves_done}
use Rattle.laws.proofs.Prelude.{sym, ◌∙◌, not-true, rules, arith}
use Rattle.kept.proofs.greatest.kept_for.Goals as goal

pub kept_over-requires : goal.kept_over-requires
kept_over-requires c = record { bounded = c.requires.bounded; blocks_le_longest = search rules }

pub returns-then-not-kept_over : goal.returns-then-not-kept_over
returns-then-not-kept_over c = sym (halves_none _ _ c.requires.falls _ (sym c.kept_over.ensures ∙ not-true _ c.if-not-kept_over.true-raw))

pub loop-low-init : goal.loop-low-init
loop-low-init c = halves_start _ _ (held _ _ c.kept_over.ensures c.if-not-kept_over.false-raw)

pub overflow_add-low : goal.overflow_add-low
overflow_add-low c = omega (arith, c.loop-low.invariant.apart, c.loop-low.invariant.high)

pub overflow_add-middle : goal.overflow_add-middle
overflow_add-middle c = omega (arith, c.loop-low.invariant.apart, c.loop-low.invariant.high)

pub kept_over-requires-in-loop-low : goal.kept_over-requires-in-loop-low
kept_over-requires-in-loop-low c = record { bounded = c.requires.bounded; blocks_le_longest = omega (arith, c.loop-low.invariant.apart, c.loop-low.invariant.high) }

pub loop-low-smaller-then-kept_over : goal.loop-low-smaller-then-kept_over
loop-low-smaller-then-kept_over c = omega (arith, c.loop-low-test.true, c.loop-low.invariant.apart)

pub loop-low-preserved-then-kept_over : goal.loop-low-preserved-then-kept_over
loop-low-preserved-then-kept_over c = halves_up _ _ _ _ _ c.loop-low.invariant (omega (arith, c.loop-low-test.true)) (sym c.kept_over-in-loop-low.ensures ∙ c.if-kept_over.true)

pub loop-low-smaller : goal.loop-low-smaller
loop-low-smaller c = omega (arith, c.loop-low-test.true, c.loop-low.invariant.apart)

pub loop-low-preserved : goal.loop-low-preserved
loop-low-preserved c = halves_down _ _ c.requires.falls _ _ _ c.loop-low.invariant (omega (arith, c.loop-low-test.true)) (omega (arith, c.loop-low-test.true)) (sym c.kept_over-in-loop-low.ensures ∙ c.if-kept_over.false)

pub returns : goal.returns
returns c = sym (halves_done _ _ _ _ _ c.loop-low.invariant c.loop-low-test.false)
