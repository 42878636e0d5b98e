-- Never, or the sum.
use Rattle.laws.proofs.Prelude.{tests, arith}
use Rattle.sheet.specs.LockHeight.{since_parent}
use Rattle.slots.proofs.lock_height.since_parent.Goals as goal

pub returns-then-block-eq0 : goal.returns-then-block-eq0
unfolding since_parent
returns-then-block-eq0 c = record { is = simp c.if-block-eq0.true; small = λ bound h k. h }

pub returns : goal.returns
unfolding since_parent
returns c = record { is = simp (tests, c.if-block-eq0.false); small = λ bound h k. omega (arith, c.requires.block_bound, c.requires.blocks_bound) }
