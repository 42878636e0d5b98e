-- The tests of kinds 5, 6 and 7 over a view are those of the rules.
-- Assumes nothing.
use Rattle.laws.proofs.Prelude.{ℕ, ◌≤◌, ◌<◌, ◌≡◌, ap, ◌∙◌, Bool, List, first_failing, set_bit}
use Rattle.laws.specs.Sets.{set_some}
use Rattle.sheet.specs.Field.{count, parent}
use Rattle.sheet.specs.Setup.{per_day}
use Rattle.sheet.specs.Checked.{Checked}
use Rattle.steps.specs.declared.View.{View}
use Rattle.steps.specs.Forms.View.{placed_set}
use Rattle.steps.specs.Forms.Mining.{owed_in, include_tests_in, mine_tests_in}
use Rattle.position.specs.declared.Position.{Position}
use Rattle.position.specs.Position.{in_pool, in_block, block_of, is_confirmed, placed}
use Rattle.position.specs.Owed.{waiting, owed, any_owed}
use Rattle.position.specs.Tests.{include_tests, block_met, mine_tests}
use Rattle.position.specs.Forms.View.{view_below}
use Rattle.position.proofs.SendTests.{no_conflict_set, has_parent_set, placed_bit, deadline_parent}

module _ (s u : List ℕ) (p : Position) (few : count s ≤ 32) where
  pub owed_view : (t : ℕ) → t < count s → owed_in s (per_day u) (view_below s (count s) p) (block_of p (parent s t)) t ≡ owed s u p t
  unfolding owed_in view_below owed waiting
  owed_view t l =
      rw (set_bit (count s) (in_pool p) few t l, set_bit (count s) (in_block p) few t l, deadline_parent s u p t)

module _ (s u : List ℕ) (p : Position) (ok : Checked s) where
  pub include_tests_lem : (t : ℕ) → t < count s → include_tests_in s (view_below s (count s) p) (any_owed s u p) t ≡ include_tests s u p t
  unfolding include_tests_in include_tests view_below
  include_tests_lem t l =
      rw (
        no_conflict_set s (placed_set (view_below s (count s) p)) (placed p) (placed_bit s p ok.sized.few) t,
        has_parent_set s (placed_set (view_below s (count s) p)) (placed p) (placed_bit s p ok.sized.few) t ok l,
        set_bit (count s) (in_pool p) ok.sized.few t l,
      )

  pub include_answer : (t : ℕ) → t < count s → (v : View) (any : Bool) (r : ℕ) → v ≡ view_below s (count s) p → any ≡ any_owed s u p
      → r ≡ first_failing (include_tests_in s v any t) → r ≡ first_failing (include_tests s u p t)
  include_answer t l v any r e f h = (h ∙ rw (e, f)) ∙ ap first_failing (include_tests_lem t l)

  pub mine_tests_lem : mine_tests_in (view_below s (count s) p) (any_owed s u p) ≡ mine_tests s u p
  unfolding mine_tests_in mine_tests view_below block_met
  mine_tests_lem =
      rw (set_some (count s) (in_block p) ok.sized.few, set_bit (count s) (is_confirmed p) ok.sized.few 0 ok.some)

  pub mine_answer : (v : View) (any : Bool) (r : ℕ) → v ≡ view_below s (count s) p → any ≡ any_owed s u p → r ≡ first_failing (mine_tests_in v any)
      → r ≡ first_failing (mine_tests s u p)
  mine_answer v any r e f h = (h ∙ rw (e, f)) ∙ ap first_failing mine_tests_lem
