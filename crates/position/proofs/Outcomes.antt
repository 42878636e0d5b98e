-- A method that stores a slot, or keys, whether or not it refuses: where it does, what stood there is stored again.
-- Assumes nothing.
use Rattle.laws.proofs.Prelude.{ℕ, zero, suc, ◌+◌, ◌^◌, ◌≡◌, refl, sym, ap, ◌∙◌, Bool, true, ◌&&◌, ◌||◌, List, [], ◌∷◌, eqb, get_or, set, eqb-true, eqb-false}
use Rattle.laws.proofs.Prelude.{eq-eqb, ne_eqb, bit_or, pick, split, first_failing}
use Rattle.sheet.specs.Refusal.{accepted}
use Rattle.sheet.specs.Field.{count}
use Rattle.sheet.specs.Setup.{conduct}
use Rattle.slots.specs.declared.Slot.{Slot}
use Rattle.slots.specs.declared.Step.{Step}
use Rattle.slots.specs.declared.Step.TheVariants.{Share, Give, SendToPool, HandToMiner, Include}
use Rattle.slots.specs.declared.Destination.{Destination}
use Rattle.slots.specs.Destination.{destination_number}
use Rattle.slots.specs.Slot.{empty_slot, entry_for, with_pool, with_block, with_shared, with_mark}
use Rattle.slots.specs.Signatures.{share_mask, exposed_mask}
use Rattle.steps.specs.Decode.{no_transaction}
use Rattle.steps.specs.declared.View.{View}
use Rattle.steps.specs.Forms.View.{keys_in}
use Rattle.position.specs.declared.Position.{Position}
use Rattle.position.specs.Position.{slot, keys}
use Rattle.position.specs.Conduct.{is_open, may_share, may_give, send_allowed, paying_first, conduct_allows}
use Rattle.position.specs.Tests.{share_tests, give_tests, pool_tests, miner_tests, include_tests}
use Rattle.position.specs.StepRefusal.{tests, step_refusal}
use Rattle.position.specs.Effect.{with_slots, change_slot, with_key, share_one, after_share, after_give, after_send, after_hand_in, after_include, with_mined, effect}
use Rattle.position.specs.Play.{take_step}
use Rattle.position.specs.Forms.View.{view_below}
use Rattle.position.proofs.StepCases.{refuses, accepts}

-- what stands at a place, stored there
set_own : {A : Type 0} (l : List A) (i : ℕ) (d : A) → set l i (get_or l i d) ≡ l
set_own [] i d = refl
set_own (x ∷ l) zero d = refl
set_own (x ∷ l) (suc i) d = ap (λ m. x ∷ m) (set_own l i d)

-- r is the number that the method found
module _ (s u : List ℕ) (p : Position) (x : Step) (r : ℕ) (found : r ≡ step_refusal s u p x) where
  -- a position q that is the step's where it is accepted and p where it is refused
  pub outcome : (q : Position) → (r ≡ accepted → q ≡ effect s p x) → ((r ≡ accepted → ⊥) → q ≡ p) → record { refusal = r; position = q } ≡ take_step s u p x
  outcome q f g =
      split (eqb r accepted)
      (λ e. let z = eqb-true r accepted e in rw z (accepts s u p x r q found z (f z)))
      (λ e. let n = eqb-false r accepted e in rw (g n) (refuses s u p x r found n))

  -- one slot
  pub slot_outcome : (t : ℕ) (f : Slot → Slot) (y : Slot) → effect s p x ≡ change_slot t f p → y ≡ pick (eqb r accepted) (f (slot p t)) (slot p t)
      → record { refusal = r; position = with_slots (set p.slots t y) p } ≡ take_step s u p x
  unfolding change_slot with_slots slot
  slot_outcome t f y e h =
      outcome (with_slots (set p.slots t y) p)
      (λ z. rw (h, eq-eqb r accepted z) (sym e))
      (λ n. rw (h, ne_eqb r accepted n, set_own p.slots t empty_slot) refl)

  -- the keys of one party
  pub key_outcome : (receiver i held : ℕ) → effect s p x ≡ with_key receiver i p → held ≡ pick (eqb r accepted) (bit_or (keys p receiver) (2 ^ i)) (keys p receiver)
      → record { refusal = r; position = record { slots = p.slots; mined = p.mined; keys = set p.keys receiver held } } ≡ take_step s u p x
  unfolding with_key keys
  key_outcome receiver i held e h =
      outcome (record { slots = p.slots; mined = p.mined; keys = set p.keys receiver held })
      (λ z. rw (h, eq-eqb r accepted z) (sym e))
      (λ n. rw (h, ne_eqb r accepted n, set_own p.keys receiver 0) refl)

  -- the blocks mined
  pub mined_outcome : (mined : ℕ) → (r ≡ accepted → with_mined (p.mined + 1) p ≡ effect s p x) → mined ≡ pick (eqb r accepted) (p.mined + 1) p.mined
      → record { refusal = r; position = with_mined mined p } ≡ take_step s u p x
  unfolding with_mined
  mined_outcome mined e h =
      outcome (with_mined mined p)
      (λ z. rw (h, eq-eqb r accepted z) (e z))
      (λ n. rw (h, ne_eqb r accepted n) refl)

-- the kinds that change one slot, where k and d are the numbers that the method reads, z what it makes of the slot and y what it stores
module _ (s u : List ℕ) (p : Position) (party t : ℕ) (to : Destination) (r k d : ℕ) (z y : Slot) (kt : k ≡ t) (dt : d ≡ destination_number to)
    (e : y ≡ pick (eqb r accepted) z (slot p k)) where
  pub share_outcome : (k ≡ no_transaction → ⊥) → r ≡ first_failing (share_tests (is_open u || may_share s u p party t) s p party t d)
      → z ≡ with_mark party d (with_shared d (share_mask s (keys p party) k) (slot p k))
      → record { refusal = r; position = with_slots (set p.slots k y) p } ≡ take_step s u p (Share party t to)
  unfolding step_refusal tests conduct_allows effect after_share share_one
  share_outcome n h f =
      slot_outcome s u p (Share party t to) r (rw (← dt) h) k
      (λ x. with_mark party d (with_shared d (share_mask s (keys p party) k) x)) y (rw (← kt, ← dt, ne_eqb k no_transaction n) refl) (e ∙ rw f refl)

  pub send_outcome : r ≡ first_failing (pool_tests (send_allowed s u p party k && paying_first s u p party k) s u p party k d)
      → z ≡ with_pool (entry_for d) (with_shared d (exposed_mask s k) (slot p k))
      → record { refusal = r; position = with_slots (set p.slots k y) p } ≡ take_step s u p (SendToPool party t to)
  unfolding step_refusal tests conduct_allows effect after_send
  send_outcome h f =
      slot_outcome s u p (SendToPool party t to) r (rw (← kt, ← dt) h) k
      (λ x. with_pool (entry_for d) (with_shared d (exposed_mask s k) x)) y (rw (← kt, ← dt) refl) (e ∙ rw f refl)

  pub hand_outcome : r ≡ first_failing (miner_tests (send_allowed s u p party k && paying_first s u p party k) s u p party k d)
      → z ≡ with_block (entry_for d) (slot p k)
      → record { refusal = r; position = with_slots (set p.slots k y) p } ≡ take_step s u p (HandToMiner party t to)
  unfolding step_refusal tests conduct_allows effect after_hand_in
  hand_outcome h f =
      slot_outcome s u p (HandToMiner party t to) r (rw (← kt, ← dt) h) k (with_block (entry_for d)) y (rw (← kt, ← dt) refl) (e ∙ rw f refl)

-- 5, whose destination is not read
pub include_outcome : (s u : List ℕ) (p : Position) (party t : ℕ) (to : Destination) (r k : ℕ) (z y : Slot) → k ≡ t
    → y ≡ pick (eqb r accepted) z (slot p k) → r ≡ first_failing (include_tests s u p k) → z ≡ with_block (slot p k).pool (slot p k)
    → record { refusal = r; position = with_slots (set p.slots k y) p } ≡ take_step s u p (Include party t to)
unfolding step_refusal tests effect after_include
include_outcome s u p party t to r k z y kt e h f =
    slot_outcome s u p (Include party t to) r (rw (← kt) h) k (λ x. with_block x.pool x) y (rw (← kt) refl) (e ∙ rw f refl)

-- 2, where d is the receiver
pub give_outcome : (s u : List ℕ) (p : Position) (party i : ℕ) (to : Destination) (r k d held after : ℕ) → k ≡ d → d ≡ destination_number to
    → held ≡ keys p d → after ≡ pick (eqb r accepted) (bit_or held (2 ^ i)) held
    → r ≡ first_failing (give_tests (is_open u || may_give s u p party i) p party i d)
    → record { refusal = r; position = record { slots = p.slots; mined = p.mined; keys = set p.keys k after } } ≡ take_step s u p (Give party i to)
unfolding step_refusal tests conduct_allows effect after_give
give_outcome s u p party i to r k d held after kd dt hd e h =
    rw kd (key_outcome s u p (Give party i to) r (rw (← dt) h) d i after (rw (← dt) refl) (e ∙ rw hd refl))

-- the keys that a party holds, read off the view
pub keys_read : (s : List ℕ) (p : Position) (v : View) (party r : ℕ) → v ≡ view_below s (count s) p → r ≡ keys_in v party → r ≡ keys p party
unfolding keys_in view_below keys
keys_read s p v party r e h = h ∙ rw e refl

-- entries are confirmed by an accepted step only
pub entries_accepted : (r block entries : ℕ) → entries ≡ pick (eqb r accepted) block 0 → (entries ≡ 0 → ⊥) → r ≡ accepted
entries_accepted r block entries e h =
    split (eqb r accepted) (λ y. eqb-true r accepted y) (λ y. absurd (h (e ∙ rw y)))

pub entries_of_lem : (r block entries : ℕ) → entries ≡ pick (eqb r accepted) block 0 → entries ≡ 0 → r ≡ accepted → block ≡ 0
entries_of_lem r block entries e h z = sym (e ∙ rw (eq-eqb r accepted z)) ∙ h

-- under open conduct a party may send anything
pub sends_open : (s u : List ℕ) (p : Position) (party t : ℕ) → conduct u ≡ 0 → true ≡ send_allowed s u p party t
unfolding send_allowed is_open
sends_open s u p party t e = rw e

-- and share and give anything
pub any_open : (u : List ℕ) (b : Bool) → conduct u ≡ 0 → true ≡ (is_open u || b)
unfolding is_open
any_open u b e = rw e
