-- Slots that a change leaves as they are.
-- Assumes nothing.
use Rattle.laws.proofs.Prelude.{ℕ, ◌≡◌, ◌∙◌, List, arith}
use Rattle.laws.specs.Each.{rewrite_first, rewrite_upto}
use Rattle.sheet.specs.Field.{count}
use Rattle.slots.specs.declared.Slot.{Slot}
use Rattle.slots.specs.Slot.{empty_slot}
use Rattle.slots.proofs.Walks.{Gap}
use Rattle.steps.specs.Forms.Blocks.{Outside}

-- going through the members of a set outside which the slots stay: where those below m are done, those below the next member are
pub changed_upto : (s : List ℕ) (f : ℕ → Slot → Slot) (members : ℕ) (l : List Slot) → Outside s f members l → (n : ℕ) → n ≡ count s
    → (m t : ℕ) (r : List Slot) → Gap members m n t → r ≡ rewrite_first m f l → r ≡ rewrite_first t f l
changed_upto s f members l o n e m t r h k =
    k ∙ rewrite_upto m t f l empty_slot h.low (λ i a b. o.same i (omega (arith, e, b, h.high)) (h.none i a b))
