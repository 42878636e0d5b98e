-- The parts of a position that a step leaves as they are: pool, block being filled, confirmations.
-- Assumes nothing.
use Rattle.laws.proofs.Prelude.{ℕ, ◌≡◌, refl, ap, fun_ext, List}
use Rattle.position.proofs.Rules.{Slot, standing, entry_to, slot, in_pool, pool_to, in_block, block_to, block_of, confirmed_to, with_slots, change_slot, change_slots}
use Rattle.position.specs.declared.Position.{Position}
use Rattle.position.proofs.Changed.{one_kept, all_kept}

pub record SamePool (p q : Position) : Type 0 where
  pub there : in_pool q ≡ in_pool p
  pub to : pool_to q ≡ pool_to p

pub record SameBlock (p q : Position) : Type 0 where
  pub there : in_block q ≡ in_block p
  pub to : block_to q ≡ block_to p

pub record SameConfirmed (p q : Position) : Type 0 where
  pub blocks : block_of q ≡ block_of p
  pub to : confirmed_to q ≡ confirmed_to p
  pub mined : q.mined ≡ p.mined

-- a part is the same where its field is, in every slot
module _ {p q : Position} where
  pub same_pool : ((k : ℕ) → (slot q k).pool ≡ (slot p k).pool) → SamePool p q
  unfolding in_pool pool_to
  same_pool e = record { there = fun_ext (λ k. ap standing (e k)); to = fun_ext (λ k. ap entry_to (e k)) }

  pub same_block : ((k : ℕ) → (slot q k).block ≡ (slot p k).block) → SameBlock p q
  unfolding in_block block_to
  same_block e = record { there = fun_ext (λ k. ap standing (e k)); to = fun_ext (λ k. ap entry_to (e k)) }

  pub same_confirmed : ((k : ℕ) → (slot q k).height ≡ (slot p k).height) → ((k : ℕ) → (slot q k).confirmed ≡ (slot p k).confirmed) → q.mined ≡ p.mined → SameConfirmed p q
  unfolding block_of confirmed_to
  same_confirmed h c m = record { blocks = fun_ext h; to = fun_ext (λ k. ap entry_to (c k)); mined = m }

-- one slot changed by an f that leaves the part alone
module _ (t : ℕ) (f : Slot → Slot) (p : Position) where
  pub one_pool : ((x : Slot) → (f x).pool ≡ x.pool) → SamePool p (change_slot t f p)
  one_pool h = same_pool (one_kept t f p (λ x. x.pool) h)

  pub one_block : ((x : Slot) → (f x).block ≡ x.block) → SameBlock p (change_slot t f p)
  one_block h = same_block (one_kept t f p (λ x. x.block) h)

  pub one_confirmed : ((x : Slot) → (f x).height ≡ x.height) → ((x : Slot) → (f x).confirmed ≡ x.confirmed) → SameConfirmed p (change_slot t f p)
  unfolding change_slot with_slots
  one_confirmed h c = same_confirmed (one_kept t f p (λ x. x.height) h) (one_kept t f p (λ x. x.confirmed) c) refl

-- the slots of a sheet's transactions changed so
module _ (s : List ℕ) (f : ℕ → Slot → Slot) (p : Position) where
  pub all_pool : ((k : ℕ) (x : Slot) → (f k x).pool ≡ x.pool) → SamePool p (change_slots s f p)
  all_pool h = same_pool (all_kept s f p (λ x. x.pool) h)

  pub all_confirmed : ((k : ℕ) (x : Slot) → (f k x).height ≡ x.height) → ((k : ℕ) (x : Slot) → (f k x).confirmed ≡ x.confirmed) → SameConfirmed p (change_slots s f p)
  unfolding change_slots with_slots
  all_confirmed h c = same_confirmed (all_kept s f p (λ x. x.height) h) (all_kept s f p (λ x. x.confirmed) c) refl
