-- A loop over the members of a set that rewrites their slots, where the others would stay: a mined block's and a bump's.
-- Assumes nothing.
use Rattle.laws.proofs.Prelude.{ℕ, true, bit, ◌≤◌, ◌≡◌, refl, ◌∙◌, List, length, set, length-set, rewrite_first, rewrite_start, rewrite_again}
use Rattle.sheet.specs.Field.{count}
use Rattle.slots.specs.declared.Slot.{Slot}
use Rattle.slots.specs.Slot.{empty_slot}
use Rattle.slots.specs.Forms.Members.{Between, Least}
use Rattle.slots.proofs.Walks.{Gap, Walked, walk_start, walk_turn, walk_on, walk_end}
use Rattle.steps.specs.Forms.Blocks.{Outside}
use Rattle.steps.proofs.Kept.{changed_upto}
use Rattle.position.specs.declared.Position.{Position}
use Rattle.position.specs.Position.{slot}
use Rattle.position.specs.Effect.{with_slots, change_slots}

-- q is p with the slots below t rewritten
abbrev pub Rewritten : (ℕ → Slot → Slot) → ℕ → Position → Position → Type 0
Rewritten f t p q = (q.slots ≡ rewrite_first t f p.slots) × (q.mined ≡ p.mined) × (q.keys ≡ p.keys) × (length q.slots ≡ 32)

module _ (s : List ℕ) (f : ℕ → Slot → Slot) (members : ℕ) (p : Position) (o : Outside s f members p.slots) (n : ℕ) (e : n ≡ count s) where
  pub rewritten_start : (left : ℕ) → n ≤ 32 → length p.slots ≡ 32 → Between members 0 n left → Walked members n (λ t. Rewritten f t p p) left
  rewritten_start left few l b = walk_start members n left few b (rewrite_start f p.slots, refl, refl, l)

  module _ (q : Position) (left : ℕ) (w : Walked members n (λ t. Rewritten f t p q) left) where
    upto : (k : ℕ) → Gap members w.from n k → q.slots ≡ rewrite_first k f p.slots
    upto k h = changed_upto s f members p.slots o n e w.from k q.slots h w.done.0

    pub rewritten_more : (k r : ℕ) (y : Slot) → Least left k r → (bit members k ≡ true → y ≡ f k (slot q k))
        → Walked members n (λ t. Rewritten f t p (with_slots (set q.slots k y) q)) r
    unfolding with_slots slot
    rewritten_more k r y g h =
        let t = walk_turn w k r g in
        walk_on w k r t (rewrite_again k f p.slots q.slots empty_slot y (upto k t.gap) (h t.here), w.done.1, w.done.2, length-set q.slots k y ∙ w.done.3)

    pub rewritten_done : left ≡ 0 → q ≡ change_slots s f p
    unfolding change_slots with_slots
    rewritten_done g =
        let done : q.slots ≡ rewrite_first (count s) f p.slots = rw (← e) (upto n (walk_end w g)) in
        rw (← done, ← w.done.1, ← w.done.2) refl
