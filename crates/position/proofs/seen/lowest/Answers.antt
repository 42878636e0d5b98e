-- The zeros at the low end, unless all are zeros.
use Rattle.laws.proofs.Prelude.{tests, rules}
use Rattle.position.specs.Forms.Seen.{lowest}
use lib.Count.{trailing_le}
use Rattle.position.proofs.seen.lowest.Goals as goal

pub overflow_cast-k : goal.overflow_cast-k
overflow_cast-k c = let h = trailing_le 32 c.args.set in search rules

pub returns-then-k-lt32 : goal.returns-then-k-lt32
unfolding lowest
returns-then-k-lt32 c = (simp (tests, c.if-k-lt32.true), search rules)

pub returns : goal.returns
unfolding lowest
returns c = (simp (tests, c.if-k-lt32.false), search rules)
