-- Bumps: when one is owed, and what it brings into the block.
-- Assumes nothing.
use Rattle.std.specs.Prelude.{ℕ, Bool, ◌&&◌, List}
use Rattle.laws.specs.Below.{any_below}
use Rattle.sheet.specs.Field.{count}
use Rattle.slots.specs.Ancestry.{is_self_or_ancestor}
use Rattle.steps.specs.Tests.{waiting_rule, owed_rule}
use Rattle.position.specs.declared.Position.{Position}
use Rattle.position.specs.Position.{in_pool, in_block, deadline_in}

-- it waits outside the block
unfoldable pub waiting : Position → ℕ → Bool
unfolding waiting_rule
waiting p t = waiting_rule (in_pool p t) (in_block p t)

-- a bump of t is owed
unfoldable pub owed : List ℕ → List ℕ → Position → ℕ → Bool
unfolding owed_rule
owed s u p t = owed_rule (waiting p t) p.mined (deadline_in s u p t)

-- "a bump owed"
unfoldable pub any_owed : List ℕ → List ℕ → Position → Bool
any_owed s u p = any_below (count s) (owed s u p)

-- "It and, here, all its waiting ancestors outside the block enter": k enters where t is bumped
unfoldable pub enters : List ℕ → Position → ℕ → ℕ → Bool
enters s p t k = waiting p k && is_self_or_ancestor s k t
