-- A position whose slots are changed: what each slot is afterwards.
-- Assumes nothing.
use Rattle.laws.proofs.Prelude.{ℕ, ◌≤◌, ◌<◌, ◌≡◌, refl, sym, ap, ◌∙◌, false, List, eqb, ltb, length, get_or, length-set, eqb-true, eqb-false, ltb-true, ltb-false, arith}
use Rattle.laws.proofs.Prelude.{List·getD-eq-default, get_or-set_same, get_or-set_other, set_out, pick, split, rewrite_first, length_rewrite_first, rewritten, not_rewritten}
use Rattle.sheet.specs.Field.{count}
use Rattle.slots.specs.declared.Slot.{Slot}
use Rattle.slots.specs.Slot.{empty_slot}
use Rattle.position.specs.declared.Position.{Position}
use Rattle.position.specs.Position.{slot}
use Rattle.position.specs.Effect.{with_slots, change_slot, change_slots}

-- one slot changed
module _ (t : ℕ) (f : Slot → Slot) (p : Position) where
  pub one_length : length (change_slot t f p).slots ≡ length p.slots
  unfolding change_slot with_slots
  one_length = length-set p.slots t (f (slot p t))

  pub one_mined : (change_slot t f p).mined ≡ p.mined
  unfolding change_slot with_slots
  one_mined = refl

  pub one_other : (k : ℕ) → eqb k t ≡ false → slot (change_slot t f p) k ≡ slot p k
  unfolding change_slot with_slots slot
  one_other k n = get_or-set_other p.slots t k (f (get_or p.slots t empty_slot)) empty_slot (eqb-false k t n)

  pub one_slot : t < length p.slots → (k : ℕ) → slot (change_slot t f p) k ≡ pick (eqb k t) (f (slot p k)) (slot p k)
  unfolding change_slot with_slots slot
  one_slot l k =
      split (eqb k t)
      (λ y. let e = eqb-true k t y in rw (y, e) (get_or-set_same p.slots t (f (get_or p.slots t empty_slot)) empty_slot l))
      (λ y. rw y (one_other k y))

  -- what f leaves alone stays, at every place
  pub one_kept : {A : Type 0} (field : Slot → A) → ((x : Slot) → field (f x) ≡ field x) → (k : ℕ) → field (slot (change_slot t f p) k) ≡ field (slot p k)
  unfolding change_slot with_slots slot
  one_kept field h k =
      split (ltb t (length p.slots))
      (λ l. split (eqb k t) (λ y. ap field (one_slot (ltb-true t (length p.slots) l) k ∙ rw y) ∙ h (slot p k)) (λ y. ap field (one_other k y)))
      (λ l. rw (set_out p.slots t (f (slot p t)) (ltb-false t (length p.slots) l)))

-- the slots of a sheet's transactions changed
module _ (s : List ℕ) (f : ℕ → Slot → Slot) (p : Position) where
  pub all_length : length (change_slots s f p).slots ≡ length p.slots
  unfolding change_slots with_slots
  all_length = length_rewrite_first (count s) f p.slots

  pub all_beyond : (k : ℕ) → count s ≤ k → slot (change_slots s f p) k ≡ slot p k
  unfolding change_slots with_slots slot
  all_beyond k h = not_rewritten (count s) f p.slots k empty_slot h

  pub all_slot : (k : ℕ) → k < count s → k < length p.slots → slot (change_slots s f p) k ≡ f k (slot p k)
  unfolding change_slots with_slots slot
  all_slot k h l = rewritten (count s) f p.slots k empty_slot h l

  -- what f leaves alone stays, at every place
  pub all_kept : {A : Type 0} (field : Slot → A) → ((k : ℕ) (x : Slot) → field (f k x) ≡ field x) → (k : ℕ) → field (slot (change_slots s f p) k) ≡ field (slot p k)
  unfolding change_slots with_slots slot
  all_kept field h k =
      split (ltb k (count s))
      (λ y.
      split (ltb k (length p.slots))
      (λ l. ap field (all_slot k (ltb-true k (count s) y) (ltb-true k (length p.slots) l)) ∙ h k (slot p k))
      (λ l.
      let b = ltb-false k (length p.slots) l in
      ap field (List·getD-eq-default (rewrite_first (count s) f p.slots) empty_slot {n = k} (rw (length_rewrite_first (count s) f p.slots) b) ∙ sym (List·getD-eq-default p.slots empty_slot {n = k} b))))
      (λ y. ap field (all_beyond k (ltb-false k (count s) y)))

  -- what a field is afterwards, at every place: as f makes it, and past the sheet as it was
  pub all_seen : count s ≤ length p.slots → {A : Type 0} (field : Slot → A) (g : ℕ → A) → ((k : ℕ) → field (f k (slot p k)) ≡ g k) → ((k : ℕ) → count s ≤ k → field (slot p k) ≡ g k)
      → (k : ℕ) → field (slot (change_slots s f p) k) ≡ g k
  all_seen few field g at out k =
      split (ltb k (count s))
      (λ y. let l = ltb-true k (count s) y in ap field (all_slot k l (omega arith)) ∙ at k)
      (λ y. let l = ltb-false k (count s) y in ap field (all_beyond k l) ∙ out k l)
