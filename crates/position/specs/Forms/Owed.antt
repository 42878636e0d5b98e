-- Bumps that are owed, looked for in a set; and the soonest deadline of those that wait.
-- Assumes nothing.
use Rattle.std.specs.Prelude.{ℕ, ◌≡◌, Bool, ◌&&◌, List, eqb, ltb}
use Rattle.laws.specs.Booleans.{pick}
use Rattle.laws.specs.Least.{least_below}
use Rattle.laws.specs.Mask.{bit}
use Rattle.sheet.specs.Field.{count}
use Rattle.sheet.specs.LockHeight.{never}
use Rattle.slots.specs.Deadline.{deadline}
use Rattle.steps.specs.Tests.{owed_rule}
use Rattle.position.specs.declared.Position.{Position}
use Rattle.position.specs.Position.{deadline_in}
use Rattle.position.specs.Owed.{waiting}
use Rattle.position.specs.Forms.View.{since_in}

-- t is a member, and at its deadline
unfoldable pub due_in : List ℕ → ℕ → Position → ℕ → ℕ → ℕ → Bool
unfolding owed_rule
due_in s d p mined among t = owed_rule (bit among t) mined (deadline s d (λ k. since_in s p t) t)

-- the least deadline above the blocks mined of the members of a set, else never
unfoldable pub soonest_in : List ℕ → ℕ → Position → ℕ → ℕ → ℕ
soonest_in s d p mined among =
    least_below (count s) (λ t. bit among t && ltb mined (deadline s d (λ k. since_in s p t) t)) (λ t. deadline s d (λ k. since_in s p t) t) never

-- the same of all that wait outside the block
unfoldable pub soonest_due : List ℕ → List ℕ → Position → ℕ
soonest_due s u p = least_below (count s) (λ t. waiting p t && ltb p.mined (deadline_in s u p t)) (deadline_in s u p) never

-- it is looked for before a block is mined, which is kind 6
unfoldable pub due_before : List ℕ → List ℕ → Position → ℕ → ℕ
due_before s u p kind = pick (eqb kind 6) (soonest_due s u p) 0

-- what is known of it, where 0 is nothing
abbrev pub DueKnown : List ℕ → List ℕ → Position → ℕ → Type 0
DueKnown s u p known = (known ≡ 0 → ⊥) → known ≡ soonest_due s u p
