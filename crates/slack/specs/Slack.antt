-- For how many blocks a party X can take no step. The words in quotes are those of docs/DECISIONS.md, "Slack".
-- Assumes nothing.
use Rattle.std.specs.Prelude.{ℕ, ◌+◌, Bool, ◌||◌, List}
use Rattle.laws.specs.Greatest.{greatest_to}
use Rattle.sheet.specs.LockHeight.{never}
use Rattle.position.specs.declared.Position.{Position}
use Rattle.soonest.specs.Soonest.{greater}
use Rattle.slack.specs.Kept.{kept_to, kept, longest}
use Rattle.slack.specs.Settled.{settled}

-- "kept in the settled position": X is off for the next block at least
unfoldable pub kept_settled : List ℕ → List ℕ → Position → ℕ → ℕ → Bool
kept_settled s u p x k = kept_to s u (settled s u p x) x (p.mined + greater k 1)

-- "lasts(k): kept(k) as the position stands, or in the settled position"
unfoldable pub lasts : List ℕ → List ℕ → Position → ℕ → ℕ → Bool
lasts s u p x k = kept s u p x k || kept_settled s u p x k

-- "The slack of X is the greatest k ≤ 10,000 with lasts(k); none where lasts(0) is false.": never then
unfoldable pub slack : List ℕ → List ℕ → Position → ℕ → ℕ
slack s u p x = greatest_to longest (lasts s u p x) never
