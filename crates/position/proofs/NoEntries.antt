-- A transaction that is neither in the pool nor in the block: a mined block and a bump leave its slot as it is; so does a block that
-- strikes nobody, of one that is not in it.
-- Assumes nothing.
use Rattle.laws.proofs.Prelude.{ℕ, ◌≤◌, ◌<◌, ◌≡◌, sym, ap, ◌∙◌, false, ◌||◌, List, eqb, eqb-true, ltb-false, arith, bit_or, split, or_neither, bit, bit_or_lem, set_below}
use Rattle.laws.proofs.Prelude.{set_bit}
use Rattle.sheet.specs.Field.{count}
use Rattle.slots.specs.declared.Slot.{Slot}
use Rattle.slots.specs.Slot.{standing}
use Rattle.slots.specs.Ancestry.{in_ancestry}
use Rattle.slots.specs.Forms.Line.{line_set}
use Rattle.slots.proofs.AncestrySets.{line_none}
use Rattle.steps.specs.declared.View.{View}
use Rattle.steps.specs.Mined.{confirm_entry}
use Rattle.steps.specs.Forms.Blocks.{affected_in, mined_slot, bumped_slot, enters_in, Outside}
use Rattle.steps.proofs.Unmoved.{pool_out, block_out}
use Rattle.position.specs.declared.Position.{Position}
use Rattle.position.specs.Position.{slot, in_pool, in_block}
use Rattle.position.specs.Forms.View.{view_below}

no_entry : (n : ℕ) → standing n ≡ false → n ≡ 0
unfolding standing
no_entry n h = omega (arith, ltb-false 0 n h)

confirm_none : (s : List ℕ) (b t : ℕ) (x : Slot) → x.block ≡ 0 → confirm_entry s b t x ≡ x
unfolding confirm_entry standing
confirm_none s b t x e = rw e

-- where v is the view of a position
module _ (s : List ℕ) (p : Position) (v : View) (few : count s ≤ 32) (e : v ≡ view_below s (count s) p) where
  pub out_of_block : (t : ℕ) → t < count s → bit v.block t ≡ false → (slot p t).block ≡ 0
  unfolding view_below in_block
  out_of_block t l h =
      no_entry (slot p t).block (sym (set_bit (count s) (in_block p) few t l) ∙ ap (λ (x : View). bit x.block t) (sym e) ∙ h)

  pub outside : (t : ℕ) → t < count s → bit (bit_or v.pool v.block) t ≡ false → (bit v.pool t ≡ false) × ((slot p t).pool ≡ 0) × ((slot p t).block ≡ 0)
  unfolding view_below in_pool
  outside t l h =
      let w = or_neither (bit v.pool t) (bit v.block t) (sym (bit_or_lem v.pool v.block t) ∙ h) in (
        w.0,
        no_entry (slot p t).pool (sym (set_bit (count s) (in_pool p) few t l) ∙ ap (λ (x : View). bit x.pool t) (sym e) ∙ w.0),
        out_of_block t l w.1,
      )

  pub mined_outside : (b m members : ℕ) → members ≡ affected_in v m → Outside s (mined_slot s b v.block m) members p.slots
  unfolding mined_slot affected_in slot
  mined_outside b m members f =
      record {
        same = λ t l o.
            let h = rw f at o in
            split (eqb m 0)
            (λ y.
            let z : bit v.block t ≡ false = rw y at h in
            rw (confirm_none s b t (slot p t) (out_of_block t l z), z, eqb-true m 0 y, line_none s t))
            (λ y.
            let w = outside t l (rw y at h) in
            rw (confirm_none s b t (slot p t) w.2) (sym (pool_out (bit v.block t || in_ancestry s (bit m) t) (slot p t) w.1)));
      }

  pub bumped_outside : (t n m : ℕ) → n ≡ set_below (count s) (enters_in v (line_set s t))
      → Outside s (bumped_slot s n m) (bit_or v.pool v.block) p.slots
  unfolding bumped_slot slot enters_in
  bumped_outside t n m f =
      record {
        same = λ k l h.
            let w = outside k l h in
            let stays : bit n k ≡ false = ap (λ x. bit x k) f ∙ set_bit (count s) (enters_in v (line_set s t)) few k l ∙ rw w.0 in
            rw stays (sym (block_out (in_ancestry s (bit m) k) (slot p k) w.2));
      }
