-- What is left to pass from each entry on is the whole.
use Rattle.laws.proofs.Prelude.{refl, ◌∙◌, arith}
use Rattle.call_blocks.proofs.Walk.{left_all, left_on, left_stopped, left_ended}
use Rattle.call_blocks.proofs.Rise.{behind, latest, rise_first}
use Rattle.call_blocks.proofs.block_list.entries_rise.Goals as goal

pub loop-k-init : goal.loop-k-init
loop-k-init c = left_all behind latest _ _ ∙ rise_first _

pub returns-then-not-rises : goal.returns-then-not-rises
returns-then-not-rises c = left_stopped behind latest _ _ _ _ _ _ c.loop-k.invariant (omega (arith, c.loop-k-test.true)) c.listed_at-entry.ensures c.rises.ensures c.if-not-rises.true-raw

pub loop-k-preserved : goal.loop-k-preserved
loop-k-preserved c = left_on behind latest _ _ _ _ _ _ _ c.loop-k.invariant (omega (arith, c.loop-k-test.true)) c.listed_at-entry.ensures c.rises.ensures c.if-not-rises.false-raw refl

pub returns : goal.returns
returns c = left_ended behind latest _ _ _ _ c.loop-k.invariant (omega (arith, c.loop-k-test.false))
