-- The tests of kinds 5 and 6 over a view, where `any` says that some bump is owed, and when one is.
-- Assumes nothing.
use Rattle.std.specs.Prelude.{ℕ, Bool, not, ◌&&◌, List, eqb}
use Rattle.laws.specs.Booleans.{pick}
use Rattle.laws.specs.Mask.{bit}
use Rattle.slots.specs.Deadline.{deadline}
use Rattle.steps.specs.declared.View.{View}
use Rattle.steps.specs.Tests.{waiting_rule, owed_rule, include_rule, block_met_rule, mine_rule}
use Rattle.steps.specs.Forms.View.{placed_set}

-- with `since`, the parent's block
unfoldable pub owed_in : List ℕ → ℕ → View → ℕ → ℕ → Bool
unfolding waiting_rule owed_rule
owed_in s d v since t = owed_rule (waiting_rule (bit v.pool t) (bit v.block t)) v.mined (deadline s d (λ k. since) t)

-- what is known after a step of the soonest deadline before it: an empty block leaves it; else nothing, which is 0
unfoldable pub still_due : ℕ → ℕ → ℕ → ℕ
still_due kind block due = pick (eqb kind 6 && eqb block 0) due 0

-- kind 5
unfoldable pub include_tests_in : List ℕ → View → Bool → ℕ → List (ℕ × Bool)
unfolding include_rule
include_tests_in s v any t = include_rule s (bit (placed_set v)) (bit v.pool t) any t

-- kind 6
unfoldable pub mine_tests_in : View → Bool → List (ℕ × Bool)
unfolding mine_rule
mine_tests_in v any = mine_rule any (block_met_rule (not (eqb v.block 0)) (bit v.confirmed 0)) v.mined
