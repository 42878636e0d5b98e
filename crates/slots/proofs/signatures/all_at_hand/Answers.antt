-- Each signature that is needed is at hand: the subset test of both masks, shifted, is what is left of it.
use Rattle.laws.proofs.Prelude.{refl, sym, ◌∙◌, not-true, not-false, rules, arith}
use Rattle.laws.specs.Bits.{subset_none, subset_shift}
use Rattle.slots.proofs.signatures.all_at_hand.Goals as goal

pub loop-needed-init : goal.loop-needed-init
loop-needed-init c = (search rules, refl)

pub returns-then-not-at_hand : goal.returns-then-not-at_hand
returns-then-not-at_hand c = sym (c.loop-needed.invariant.1 ∙ subset_shift 8 _ _ c.loop-needed.invariant.0 ∙ rw (sym c.at_hand.ensures ∙ not-true _ c.if-not-at_hand.true-raw))

pub loop-needed-smaller : goal.loop-needed-smaller
loop-needed-smaller c = omega (arith, c.loop-needed-test.true)

pub loop-needed-preserved : goal.loop-needed-preserved
loop-needed-preserved c = (
  omega (arith, c.loop-needed.invariant.0),
  c.loop-needed.invariant.1 ∙ subset_shift 8 _ _ c.loop-needed.invariant.0 ∙ rw (sym c.at_hand.ensures ∙ not-false _ c.if-not-at_hand.false-raw),
)

pub returns : goal.returns
returns c = sym (c.loop-needed.invariant.1 ∙ rw c.loop-needed-test.false (subset_none 8 _))
