-- The slack and what a party counts on, over the prospect of the position as it stands and that of the settled one.
-- Assumes nothing.
use Rattle.std.specs.Prelude.{ℕ, ◌+◌, eqb}
use Rattle.laws.specs.Booleans.{pick}
use Rattle.sheet.specs.LockHeight.{never}
use Rattle.soonest.specs.Soonest.{greater}
use Rattle.slack.specs.Counted.{none}
use Rattle.kept.specs.declared.Prospect.{Prospect}
use Rattle.kept.specs.Forms.Evaluation.{counted_in}

-- the greater of those that are numbers, b only if it is 1 at least
unfoldable pub longer : ℕ → ℕ → ℕ
longer a b = pick (eqb b 0) a (pick (eqb b never) a (pick (eqb a never) b (greater a b)))

-- over the outage that the slack allows
unfoldable pub counted_at_in : Prospect → ℕ → ℕ
counted_at_in q blocks = pick (eqb blocks never) none (counted_in q (q.mined + blocks))

-- the same over the two, where q keeps for a blocks
unfoldable pub counted_both : Prospect → Prospect → ℕ → ℕ → ℕ
counted_both q settled a blocks = pick (eqb blocks a) (counted_at_in q blocks) (counted_at_in settled blocks)
