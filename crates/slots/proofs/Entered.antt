-- An entry for a destination in a slot, wherever it stands, and where it comes from when the slot changes.
-- Assumes nothing.
use Rattle.laws.proofs.Prelude.{ℕ, ◌<◌, ◌≡◌, true, ◌⊎◌, inl, inr}
use Rattle.slots.specs.declared.Slot.{Slot}
use Rattle.slots.specs.Slot.{standing, entry_to, with_pool, with_block, with_confirmed, with_shared, with_mark}

-- "in pool", "in the block" or "confirmed", with this destination
pub data Entered (x : Slot) (e : ℕ) : Type 0 where
  pooled : standing x.pool ≡ true → entry_to x.pool ≡ e → Entered x e
  filled : standing x.block ≡ true → entry_to x.block ≡ e → Entered x e
  settled : 0 < x.height → entry_to x.confirmed ≡ e → Entered x e

pub after_pool : (entry : ℕ) (x : Slot) (e : ℕ) → Entered (with_pool entry x) e
    → Entered x e ⊎ ((standing entry ≡ true) × (entry_to entry ≡ e))
unfolding with_pool
after_pool entry x e (pooled on to) = inr (on, to)
after_pool entry x e (filled on to) = inl (filled on to)
after_pool entry x e (settled on to) = inl (settled on to)

pub after_block : (entry : ℕ) (x : Slot) (e : ℕ) → Entered (with_block entry x) e
    → Entered x e ⊎ ((standing entry ≡ true) × (entry_to entry ≡ e))
unfolding with_block
after_block entry x e (pooled on to) = inl (pooled on to)
after_block entry x e (filled on to) = inr (on, to)
after_block entry x e (settled on to) = inl (settled on to)

pub after_confirmed : (entry b : ℕ) (x : Slot) (e : ℕ) → Entered (with_confirmed entry b x) e → Entered x e ⊎ (entry_to entry ≡ e)
unfolding with_confirmed
after_confirmed entry b x e (pooled on to) = inl (pooled on to)
after_confirmed entry b x e (filled on to) = inl (filled on to)
after_confirmed entry b x e (settled on to) = inr to

pub after_shared : (to mask : ℕ) (x : Slot) (e : ℕ) → Entered (with_shared to mask x) e → Entered x e
unfolding with_shared
after_shared d mask x e (pooled on to) = pooled on to
after_shared d mask x e (filled on to) = filled on to
after_shared d mask x e (settled on to) = settled on to

pub after_mark : (party to : ℕ) (x : Slot) (e : ℕ) → Entered (with_mark party to x) e → Entered x e
unfolding with_mark
after_mark party d x e (pooled on to) = pooled on to
after_mark party d x e (filled on to) = filled on to
after_mark party d x e (settled on to) = settled on to
