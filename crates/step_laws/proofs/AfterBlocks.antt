-- Kinds 6 and 7: a mined block, and a bump.
-- Assumes nothing.
use Rattle.laws.proofs.Prelude.{ℕ, ◌+◌, ◌≤◌, ◌≡◌, refl, fun_ext, Bool, true, false, not, ◌&&◌, ◌||◌, List, length, pick, split, and_parts}
use Rattle.position.proofs.Rules.{count, Slot, empty_slot, standing, entry_to, with_pool, with_block, with_confirmed, with_shared, is_self_or_ancestor, meets_conflict}
use Rattle.position.specs.declared.Position.{Position}
use Rattle.position.proofs.Rules.{slot, in_pool, pool_to, in_block, block_to, block_of, confirmed_to, waiting, enters, confirm_entry, leaves_pool, mine_slot, with_mined, after_mine}
use Rattle.position.proofs.Rules.{leaves_block, bump_slot, after_bump}
use Rattle.position.proofs.Changed.{all_length, all_beyond, all_seen}
use Rattle.step_laws.proofs.Untouched.{SamePool, SameConfirmed, all_pool, all_confirmed}

-- nothing stands in an empty slot
pub none_stands : standing 0 ≡ false
unfolding standing
none_stands = refl

-- an entry that stays unless it leaves
stays : (a b : Bool) (x : ℕ) → standing x ≡ a → standing (pick b 0 x) ≡ (a && not b)
unfolding standing
stays true true x e = refl
stays true false x e = e
stays false true x e = refl
stays false false x e = e

-- a block entry after a bump
bumped : (c a b : Bool) (x y : ℕ) → (c ≡ true → standing x ≡ true) → standing y ≡ a → standing (pick c x (pick b 0 y)) ≡ (c || (a && not b))
bumped true a b x y e f = e refl
bumped false a b x y e f = stays a b y f

-- a mined block, slot by slot
module _ (s : List ℕ) (p : Position) (t : ℕ) (x : Slot) where
  mine_slot_height : (mine_slot s p t x).height ≡ pick (standing x.block) (p.mined + 1) x.height
  unfolding mine_slot confirm_entry with_pool with_block with_confirmed with_shared
  mine_slot_height =
      split (leaves_pool s (in_block p) t)
      (λ y. split (standing x.block) (λ z. rw (y, z)) (λ z. rw (y, z)))
      (λ y. split (standing x.block) (λ z. rw (y, z)) (λ z. rw (y, z)))

  mine_slot_confirmed : (mine_slot s p t x).confirmed ≡ pick (standing x.block) x.block x.confirmed
  unfolding mine_slot confirm_entry with_pool with_block with_confirmed with_shared
  mine_slot_confirmed =
      split (leaves_pool s (in_block p) t)
      (λ y. split (standing x.block) (λ z. rw (y, z)) (λ z. rw (y, z)))
      (λ y. split (standing x.block) (λ z. rw (y, z)) (λ z. rw (y, z)))

  mine_slot_block : standing (mine_slot s p t x).block ≡ false
  unfolding mine_slot confirm_entry with_pool with_block with_confirmed with_shared
  mine_slot_block =
      split (leaves_pool s (in_block p) t)
      (λ y. split (standing x.block) (λ z. rw (y, z) none_stands) (λ z. rw (y, z) z))
      (λ y. split (standing x.block) (λ z. rw (y, z) none_stands) (λ z. rw (y, z) z))

  mine_slot_pool : (mine_slot s p t x).pool ≡ pick (leaves_pool s (in_block p) t) 0 x.pool
  unfolding mine_slot confirm_entry with_pool with_block with_confirmed with_shared
  mine_slot_pool =
      split (leaves_pool s (in_block p) t)
      (λ y. rw y)
      (λ y. split (standing x.block) (λ z. rw (y, z)) (λ z. rw (y, z)))

module _ (s : List ℕ) (p : Position) (few : count s ≤ length p.slots) (beyond : (k : ℕ) → count s ≤ k → slot p k ≡ empty_slot) where
  pub out_pool : (k : ℕ) → count s ≤ k → in_pool p k ≡ false
  unfolding in_pool
  out_pool k h = rw (beyond k h) none_stands

  pub out_block : (k : ℕ) → count s ≤ k → in_block p k ≡ false
  unfolding in_block
  out_block k h = rw (beyond k h) none_stands

  -- 6 "the block is confirmed"
  pub mine_blocks : block_of (after_mine s p) ≡ (λ k. pick (in_block p k) (p.mined + 1) (block_of p k))
  unfolding after_mine with_mined slot block_of in_block
  mine_blocks =
      fun_ext (all_seen s (mine_slot s p) p few (λ (x : Slot). x.height) (λ k. pick (in_block p k) (p.mined + 1) (block_of p k))
      (λ k. mine_slot_height s p k (slot p k))
      (λ k h. rw (out_block k h)))

  pub mine_to : confirmed_to (after_mine s p) ≡ (λ k. pick (in_block p k) (block_to p k) (confirmed_to p k))
  unfolding after_mine with_mined slot confirmed_to block_to in_block
  mine_to =
      fun_ext (all_seen s (mine_slot s p) p few (λ (x : Slot). entry_to x.confirmed) (λ k. pick (in_block p k) (block_to p k) (confirmed_to p k))
      (λ k. rw (mine_slot_confirmed s p k (slot p k)) (split (standing (slot p k).block) (λ y. rw y) (λ y. rw y)))
      (λ k h. rw (out_block k h)))

  pub mine_block : in_block (after_mine s p) ≡ (λ k. false)
  unfolding after_mine with_mined slot in_block
  mine_block =
      fun_ext (all_seen s (mine_slot s p) p few (λ (x : Slot). standing x.block) (λ k. false) (λ k. mine_slot_block s p k (slot p k)) out_block)

  mine_pool_entry : (k : ℕ) → (slot (after_mine s p) k).pool ≡ pick (leaves_pool s (in_block p) k) 0 (slot p k).pool
  unfolding after_mine with_mined slot
  mine_pool_entry =
      all_seen s (mine_slot s p) p few (λ (x : Slot). x.pool) (λ k. pick (leaves_pool s (in_block p) k) 0 (slot p k).pool)
      (λ k. mine_slot_pool s p k (slot p k))
      (λ k h. rw (beyond k h) (split (leaves_pool s (in_block p) k) (λ y. rw y) (λ y. rw y)))

  -- who leaves the pool
  pub mine_pool : in_pool (after_mine s p) ≡ (λ k. in_pool p k && not (leaves_pool s (in_block p) k))
  unfolding in_pool
  mine_pool = fun_ext (λ k. rw (mine_pool_entry k) (stays (standing (slot p k).pool) (leaves_pool s (in_block p) k) (slot p k).pool refl))

  pub mine_pool_to : (k : ℕ) → leaves_pool s (in_block p) k ≡ false → pool_to (after_mine s p) k ≡ pool_to p k
  unfolding pool_to
  mine_pool_to k h = rw (mine_pool_entry k, h)

  pub mine_mined : (after_mine s p).mined ≡ p.mined + 1
  unfolding after_mine with_mined
  mine_mined = refl

  pub mine_length : length (after_mine s p).slots ≡ length p.slots
  unfolding after_mine with_mined
  mine_length = all_length s (mine_slot s p) p

  pub mine_beyond : (k : ℕ) → count s ≤ k → slot (after_mine s p) k ≡ slot p k
  unfolding after_mine with_mined slot
  mine_beyond k h = all_beyond s (mine_slot s p) p k h

  -- 7 "It and, here, all its waiting ancestors outside the block enter; block entries whose line meets a rival of these leave first."
  module _ (t : ℕ) where
    bump_slot_block : (k : ℕ) (x : Slot) → (bump_slot s p t k x).block ≡ pick (enters s p t k) x.pool (pick (meets_conflict s (enters s p t) k) 0 x.block)
    unfolding bump_slot leaves_block with_block
    bump_slot_block k x =
        split (enters s p t k)
        (λ y. rw y)
        (λ y. split (meets_conflict s (enters s p t) k) (λ z. rw (y, z)) (λ z. rw (y, z)))

    bump_slot_kept : {A : Type 0} (field : Slot → A) → ((e : ℕ) (x : Slot) → field (with_block e x) ≡ field x) → (k : ℕ) (x : Slot) → field (bump_slot s p t k x) ≡ field x
    unfolding bump_slot
    bump_slot_kept field h k x =
        split (enters s p t k)
        (λ y. rw y (h x.pool x))
        (λ y. split (leaves_block s (enters s p t) k) (λ z. rw (y, z) (h 0 x)) (λ z. rw (y, z)))

    pub enters_in_lem : (k : ℕ) → enters s p t k ≡ true → in_pool p k ≡ true
    unfolding enters waiting
    enters_in_lem k h = (and_parts (in_pool p k) (not (in_block p k)) (and_parts (in_pool p k && not (in_block p k)) (is_self_or_ancestor s k t) h).0).0

    enters_out : (k : ℕ) → count s ≤ k → enters s p t k ≡ false
    unfolding enters waiting
    enters_out k h = rw (out_pool k h)

    bump_entry : (k : ℕ) → (slot (after_bump s t p) k).block ≡ pick (enters s p t k) (slot p k).pool (pick (meets_conflict s (enters s p t) k) 0 (slot p k).block)
    unfolding after_bump
    bump_entry =
        all_seen s (bump_slot s p t) p few (λ (x : Slot). x.block)
        (λ k. pick (enters s p t k) (slot p k).pool (pick (meets_conflict s (enters s p t) k) 0 (slot p k).block))
        (λ k. bump_slot_block k (slot p k))
        (λ k h. rw (enters_out k h, beyond k h) (split (meets_conflict s (enters s p t) k) (λ y. rw y) (λ y. rw y)))

    pub bump_block : in_block (after_bump s t p) ≡ (λ k. enters s p t k || (in_block p k && not (meets_conflict s (enters s p t) k)))
    unfolding in_block in_pool
    bump_block =
        fun_ext (λ k. rw (bump_entry k)
        (bumped (enters s p t k) (standing (slot p k).block) (meets_conflict s (enters s p t) k) (slot p k).pool (slot p k).block (enters_in_lem k) refl))

    -- an entry's destination: the pool entry's where it enters, else as it was
    pub bump_to_entered : (k : ℕ) → enters s p t k ≡ true → block_to (after_bump s t p) k ≡ pool_to p k
    unfolding block_to pool_to
    bump_to_entered k h = rw (bump_entry k, h)

    pub bump_to_kept : (k : ℕ) → enters s p t k ≡ false → meets_conflict s (enters s p t) k ≡ false → block_to (after_bump s t p) k ≡ block_to p k
    unfolding block_to
    bump_to_kept k h m = rw (bump_entry k, h, m)

    pub bump_pool : SamePool p (after_bump s t p)
    unfolding after_bump with_block
    bump_pool = all_pool s (bump_slot s p t) p (bump_slot_kept (λ x. x.pool) (λ e x. refl))

    pub bump_confirmed : SameConfirmed p (after_bump s t p)
    unfolding after_bump with_block
    bump_confirmed =
        all_confirmed s (bump_slot s p t) p (bump_slot_kept (λ x. x.height) (λ e x. refl)) (bump_slot_kept (λ x. x.confirmed) (λ e x. refl))

    pub bump_length : length (after_bump s t p).slots ≡ length p.slots
    unfolding after_bump
    bump_length = all_length s (bump_slot s p t) p

    pub bump_beyond : (k : ℕ) → count s ≤ k → slot (after_bump s t p) k ≡ slot p k
    unfolding after_bump
    bump_beyond k h = all_beyond s (bump_slot s p t) p k h
