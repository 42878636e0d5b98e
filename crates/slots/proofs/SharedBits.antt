-- The shared signatures of a slot: where one comes from, and that each stays.
-- Assumes nothing.
use Rattle.laws.proofs.Prelude.{ℕ, zero, suc, ◌<◌, ◌≡◌, refl, sym, Bool, true, false, ◌⊎◌, inl, inr, eqb, eqb-true, arith, bit_or, pick, either, bit, bit_or_lem, or_bit}
use Rattle.laws.proofs.Prelude.{union_bit}
use Rattle.slots.specs.declared.Slot.{Slot}
use Rattle.slots.specs.Destination.{alice, bob, carol, contract, destinations}
use Rattle.slots.specs.Slot.{with_pool, with_block, with_confirmed, shared_for, with_shared, shared_any, with_mark}

-- a mask that grows where a test holds
pub grew : (b : Bool) (x m i : ℕ) → bit (pick b (bit_or x m) x) i ≡ true → (bit x i ≡ true) ⊎ ((b ≡ true) × (bit m i ≡ true))
grew true x m i h = either (or_bit x m i h) inl (λ y. inr (refl, y))
grew false x m i h = inl h

pub kept : (b : Bool) (x m i : ℕ) → bit x i ≡ true → bit (pick b (bit_or x m) x) i ≡ true
kept true x m i h = rw (bit_or_lem x m i, h)
kept false x m i h = h

pub shared_from : (to m : ℕ) (x : Slot) (e i : ℕ) → e < destinations → bit (shared_for (with_shared to m x) e) i ≡ true
    → (bit (shared_for x e) i ≡ true) ⊎ ((e ≡ to) × (bit m i ≡ true))
unfolding shared_for with_shared
shared_from to m x zero i l h = either (grew (eqb to alice) x.alice m i h) inl (λ g. inr (sym (eqb-true to 0 g.0), g.1))
shared_from to m x (suc zero) i l h = either (grew (eqb to bob) x.bob m i h) inl (λ g. inr (sym (eqb-true to 1 g.0), g.1))
shared_from to m x (suc (suc zero)) i l h =
    either (grew (eqb to contract) x.contract m i h) inl (λ g. inr (sym (eqb-true to 2 g.0), g.1))
shared_from to m x (suc (suc (suc zero))) i l h =
    either (grew (eqb to carol) x.carol m i h) inl (λ g. inr (sym (eqb-true to 3 g.0), g.1))
shared_from to m x (suc (suc (suc (suc e)))) i l h = absurd (omega arith)

pub shared_kept : (to m : ℕ) (x : Slot) (e i : ℕ) → e < destinations → bit (shared_for x e) i ≡ true
    → bit (shared_for (with_shared to m x) e) i ≡ true
unfolding shared_for with_shared
shared_kept to m x zero i l h = kept (eqb to alice) x.alice m i h
shared_kept to m x (suc zero) i l h = kept (eqb to bob) x.bob m i h
shared_kept to m x (suc (suc zero)) i l h = kept (eqb to contract) x.contract m i h
shared_kept to m x (suc (suc (suc zero))) i l h = kept (eqb to carol) x.carol m i h
shared_kept to m x (suc (suc (suc (suc e)))) i l h = absurd (omega arith)

-- entries and marks leave them as they are
pub shared_pool : (entry : ℕ) (x : Slot) (e : ℕ) → shared_for (with_pool entry x) e ≡ shared_for x e
unfolding shared_for with_pool
shared_pool entry x e = refl

pub shared_block : (entry : ℕ) (x : Slot) (e : ℕ) → shared_for (with_block entry x) e ≡ shared_for x e
unfolding shared_for with_block
shared_block entry x e = refl

pub shared_confirmed : (entry b : ℕ) (x : Slot) (e : ℕ) → shared_for (with_confirmed entry b x) e ≡ shared_for x e
unfolding shared_for with_confirmed
shared_confirmed entry b x e = refl

pub shared_mark : (party to : ℕ) (x : Slot) (e : ℕ) → shared_for (with_mark party to x) e ≡ shared_for x e
unfolding shared_for with_mark
shared_mark party to x e = refl

-- what is shared for any destination is shared for one
pub shared_any_lem : (x : Slot) (i : ℕ) → bit (shared_any x) i ≡ true → (e : ℕ) × (e < destinations) × (bit (shared_for x e) i ≡ true)
unfolding shared_any
shared_any_lem x i h = union_bit destinations (shared_for x) i h
