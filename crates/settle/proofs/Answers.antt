-- What the functions answer, of the rules.
-- Assumes nothing.
use Rattle.laws.proofs.Prelude.{ℕ, ◌+◌, ◌≤◌, ◌<◌, ◌≡◌, refl, sym, ◌∙◌, true, false, List, eqb, ltb, ltb-true, ltb-false, length, get_or, arith, pick, split}
use Rattle.laws.proofs.Prelude.{any_same, bit, no_bit, set_below, set_bit, set_same, none_set, rewrite_first, rewritten, not_rewritten, length_rewrite_first}
use mathlib.Core.Bool.{and_assoc}
use lib.Seq.{ext_get_or}
use Rattle.laws.specs.Each.{rewrite_kept}
use Rattle.sheet.specs.Checked.{Checked}
use Rattle.sheet.specs.Field.{count}
use Rattle.slots.specs.declared.Slot.{Slot}
use Rattle.slots.specs.Slot.{empty_slot}
use Rattle.slots.specs.Ancestry.{in_ancestry, is_self_or_ancestor, meets_other}
use Rattle.slots.specs.Forms.Conflict.{found_in}
use Rattle.slots.specs.Forms.Line.{line_set}
use Rattle.slots.proofs.LineSets.{line_bit}
use Rattle.slots.proofs.AncestrySets.{line_none}
use Rattle.steps.specs.Mined.{confirm_entry}
use Rattle.steps.specs.Forms.Blocks.{mined_slot, Outside}
use Rattle.position.specs.declared.Position.{Position}
use Rattle.position.specs.Position.{in_block, deadline_in}
use Rattle.position.specs.Effect.{with_slots, change_slots}
use Rattle.position.proofs.BlockSets.{set_meets_other}
use Rattle.attainable.specs.Attainable.{attainable}
use Rattle.slack.specs.Settled.{throws_out, settles, settled}
use Rattle.settle.specs.Forms.Thrown.{is_due, throws_in, stays_in, confirm_in}

-- the line of g meets the set of those with another rival in the line of y
pub line_meets : (s : List ℕ) → count s ≤ 32 → (g y line rivals : ℕ) → g < count s → y < count s → line ≡ line_set s y
    → rivals ≡ set_below (count s) (found_in s (bit line) true) → in_ancestry s (bit rivals) g ≡ meets_other s (λ r. is_self_or_ancestor s r y) g
line_meets s few g y line rivals l m e f =
    rw (f, e)
    (set_meets_other s (line_set s y) (λ r. is_self_or_ancestor s r y) g few l (λ k h. line_bit s y k (omega (arith, m, few)) (omega (arith, h, few))))

-- a mined block that nothing enters or leaves confirms its entries
pub mined_confirms : (s : List ℕ) (b t : ℕ) (x : Slot) → mined_slot s b 0 0 t x ≡ confirm_entry s b t x
unfolding mined_slot
mined_confirms s b t x = rw (no_bit t, line_none s t)

-- the slots of those that are no members stay
pub confirm_outside : (s : List ℕ) (b members : ℕ) (l : List Slot) → Outside s (confirm_in s b members) members l
unfolding confirm_in
confirm_outside s b members l = record { same = λ t h o. rw o }

pub confirm_member : (s : List ℕ) (b members t : ℕ) (x : Slot) → bit members t ≡ true → confirm_in s b members t x ≡ confirm_entry s b t x
unfolding confirm_in
confirm_member s b members t x h = rw h

module _ (s u : List ℕ) (p : Position) (x : ℕ) (ok : Checked s) where
  abbrev few : count s ≤ 32
  few = ok.sized.few

  module _ (entries : ℕ) (e : entries ≡ set_below (count s) (in_block p)) where
    entry_bit : (g : ℕ) → g < count s → bit entries g ≡ in_block p g
    entry_bit g l = rw e (set_bit (count s) (in_block p) few g l)

    -- nothing settles in an empty block
    pub none_settling : entries ≡ 0 → 0 ≡ set_below (count s) (settles s u p x)
    unfolding settles
    none_settling z = sym (none_set (count s) (settles s u p x) (λ g l. rw (← (entry_bit g l), z, no_bit g)))

    -- where a set has what can come, and a set those of it that are due
    module _ (can due : ℕ) (f : can ≡ attainable s u p x (bit 0)) (d : due ≡ set_below (count s) (is_due s u p can)) where
      throws_same : (g y : ℕ) → y < count s → throws_in s due g y ≡ throws_out s u p x g y
      unfolding throws_in throws_out is_due
      throws_same g y l =
          rw (d, set_bit (count s) (is_due s u p can) few y l, f)
          (and_assoc (bit (attainable s u p x (bit 0)) y) (eqb (deadline_in s u p y) (p.mined + 1)) (meets_other s (λ r. is_self_or_ancestor s r y) g))

      stays_same : (g : ℕ) → g < count s → stays_in s entries due g ≡ settles s u p x g
      unfolding stays_in settles
      stays_same g l = rw (entry_bit g l, any_same (count s) (throws_in s due g) (throws_out s u p x g) (throws_same g))

      pub staying_settles : set_below (count s) (stays_in s entries due) ≡ set_below (count s) (settles s u p x)
      staying_settles = set_same (count s) (stays_in s entries due) (settles s u p x) stays_same

  -- where a set has what settles
  module _ (members : ℕ) (e : members ≡ set_below (count s) (settles s u p x)) where
    abbrev rule : ℕ → Slot → Slot
    rule t y = pick (settles s u p x t) (confirm_entry s (p.mined + 1) t y) y

    member_bit : (g : ℕ) → g < count s → bit members g ≡ settles s u p x g
    member_bit g l = rw e (set_bit (count s) (settles s u p x) few g l)

    pub none_settled : members ≡ 0 → p ≡ settled s u p x
    unfolding settled change_slots with_slots
    none_settled z =
        let kept : rewrite_first (count s) rule p.slots ≡ p.slots =
        rewrite_kept (count s) rule p.slots empty_slot (λ g l. let off : settles s u p x g ≡ false = sym (member_bit g l) ∙ rw z (no_bit g) in rw off) in
        rw kept refl

    abbrev those : ℕ → Slot → Slot
    those = confirm_in s (p.mined + 1) members

    -- the two rules agree at each place
    same_at : (i : ℕ) → i < length p.slots → get_or (rewrite_first (count s) those p.slots) i empty_slot ≡ get_or (rewrite_first (count s) rule p.slots) i empty_slot
    unfolding confirm_in
    same_at i m =
        split (ltb i (count s))
        (λ y.
        let l = ltb-true i (count s) y in
        rewritten (count s) those p.slots i empty_slot l m ∙ rw (member_bit i l) (sym (rewritten (count s) rule p.slots i empty_slot l m)))
        (λ y.
        let l = ltb-false i (count s) y in
        not_rewritten (count s) those p.slots i empty_slot l ∙ sym (not_rewritten (count s) rule p.slots i empty_slot l))

    pub confirmed_settled : change_slots s those p ≡ settled s u p x
    unfolding settled change_slots
    confirmed_settled =
        let long = length_rewrite_first (count s) those p.slots in
        let same : rewrite_first (count s) those p.slots ≡ rewrite_first (count s) rule p.slots =
        ext_get_or empty_slot _ _ (long ∙ sym (length_rewrite_first (count s) rule p.slots)) (λ i m. same_at i (rw long at m)) in
        rw same refl
