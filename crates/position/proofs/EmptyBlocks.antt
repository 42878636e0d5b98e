-- A mined block with nothing in it alters nothing but the number of blocks.
-- Assumes nothing.
use Rattle.laws.proofs.Prelude.{ℕ, ◌+◌, ◌≤◌, ◌<◌, ◌≡◌, sym, ◌∙◌, false, List, clash, fails_by, no_bit, set_bit}
use Rattle.laws.specs.Each.{rewrite_kept}
use Rattle.sheet.specs.Field.{count}
use Rattle.slots.specs.Slot.{empty_slot, standing}
use Rattle.slots.specs.Ancestry.{meets_other}
use Rattle.slots.proofs.Ancestors.{other_find}
use Rattle.steps.specs.declared.View.{View}
use Rattle.steps.specs.Mined.{confirm_entry}
use Rattle.position.specs.declared.Position.{Position}
use Rattle.position.specs.Position.{slot, in_block}
use Rattle.position.specs.Forms.View.{view_below}
use Rattle.position.specs.Effect.{with_slots, change_slots, leaves_pool, mine_slot, with_mined, after_mine}

module _ (s : List ℕ) (p : Position) (none : (k : ℕ) → k < count s → in_block p k ≡ false) where
  none_leaves : (t : ℕ) → t < count s → leaves_pool s (in_block p) t ≡ false
  unfolding leaves_pool
  none_leaves t l =
      rw (none t l) (fails_by (meets_other s (in_block p) t) (λ y. let w = other_find s (in_block p) t y in clash w.5 (none w.1 w.3)))

  no_entry : (t : ℕ) → t < count s → standing (slot p t).block ≡ false
  unfolding in_block
  no_entry t l = none t l

  kept : (t : ℕ) → t < count s → mine_slot s p t (slot p t) ≡ slot p t
  unfolding mine_slot confirm_entry
  kept t l = rw (none_leaves t l, no_entry t l)

  mine_none : after_mine s p ≡ with_mined (p.mined + 1) p
  unfolding after_mine with_mined change_slots with_slots slot
  mine_none = rw (rewrite_kept (count s) (mine_slot s p) p.slots empty_slot kept)

-- no transaction is in the block
pub none_in_block : (s : List ℕ) (p : Position) → count s ≤ 32 → (view_below s (count s) p).block ≡ 0 → (k : ℕ) → k < count s → in_block p k ≡ false
unfolding view_below
none_in_block s p few e k l = sym (set_bit (count s) (in_block p) few k l) ∙ rw e (no_bit k)

pub mine_empty : (s : List ℕ) (p : Position) → count s ≤ 32 → (view_below s (count s) p).block ≡ 0 → after_mine s p ≡ with_mined (p.mined + 1) p
mine_empty s p few e = mine_none s p (none_in_block s p few e)

-- where v is the view that the code found
module _ (s : List ℕ) (p : Position) (v : View) (few : count s ≤ 32) (e : v ≡ view_below s (count s) p) where
  pub answer_empty : v.block ≡ 0 → with_mined (p.mined + 1) p ≡ after_mine s p
  answer_empty h = sym (mine_empty s p few (rw e at h))
