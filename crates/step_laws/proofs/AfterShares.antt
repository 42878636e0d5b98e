-- Kinds 1 and 2: a share and a give leave pool, block and confirmations alone.
-- Assumes nothing.
use Rattle.laws.proofs.Prelude.{ℕ, ◌≤◌, ◌<◌, ◌≡◌, refl, ◌∙◌, true, false, List, [], ◌∷◌, eqb, ltb, length, ltb-true, ne_eqb, arith, split, and_parts, every}
use Rattle.position.proofs.Rules.{count, Slot, contract, with_shared, with_mark, share_mask, slot, in_pool, pool_to, in_block, block_to, block_of, confirmed_to, keys}
use Rattle.position.specs.declared.Position.{Position}
use Rattle.position.proofs.Rules.{no_transaction, first_shares, with_key, share_one, share_each, after_share, after_give}
use Rattle.position.proofs.Changed.{one_length, one_mined, one_other, one_kept}
use Rattle.step_laws.proofs.Untouched.{SamePool, SameBlock, SameConfirmed, same_pool, same_block, same_confirmed}

-- what marks and shared masks do not touch
abbrev pub Spared : {A : Type 0} → (Slot → A) → Type 0
Spared field = (party d m : ℕ) (x : Slot) → field (with_mark party d (with_shared d m x)) ≡ field x

module _ (s : List ℕ) (party : ℕ) where
  module _ {A : Type 0} (field : Slot → A) (spared : Spared field) where
    share_one_kept : (t d : ℕ) (p : Position) (k : ℕ) → field (slot (share_one s party t d p) k) ≡ field (slot p k)
    unfolding share_one
    share_one_kept t d p k =
        one_kept t (λ x. with_mark party d (with_shared d (share_mask s (keys p party) t) x)) p field (λ x. spared party d (share_mask s (keys p party) t) x) k

    share_each_kept : (l : List ℕ) (p : Position) (k : ℕ) → field (slot (share_each s party l p) k) ≡ field (slot p k)
    unfolding share_each
    share_each_kept [] p k = refl
    share_each_kept (t ∷ l) p k = share_each_kept l (share_one s party t contract p) k ∙ share_one_kept t contract p k

    share_kept : (t d : ℕ) (p : Position) (k : ℕ) → field (slot (after_share s party t d p) k) ≡ field (slot p k)
    unfolding after_share
    share_kept t d p k =
        split (eqb t no_transaction) (λ y. rw y (share_each_kept (first_shares party) p k)) (λ y. rw y (share_one_kept t d p k))

  share_one_length : (t d : ℕ) (p : Position) → length (share_one s party t d p).slots ≡ length p.slots
  unfolding share_one
  share_one_length t d p = one_length t (λ x. with_mark party d (with_shared d (share_mask s (keys p party) t) x)) p

  share_one_mined : (t d : ℕ) (p : Position) → (share_one s party t d p).mined ≡ p.mined
  unfolding share_one
  share_one_mined t d p = one_mined t (λ x. with_mark party d (with_shared d (share_mask s (keys p party) t) x)) p

  share_each_length : (l : List ℕ) (p : Position) → length (share_each s party l p).slots ≡ length p.slots
  unfolding share_each
  share_each_length [] p = refl
  share_each_length (t ∷ l) p = share_each_length l (share_one s party t contract p) ∙ share_one_length t contract p

  share_each_mined : (l : List ℕ) (p : Position) → (share_each s party l p).mined ≡ p.mined
  unfolding share_each
  share_each_mined [] p = refl
  share_each_mined (t ∷ l) p = share_each_mined l (share_one s party t contract p) ∙ share_one_mined t contract p

  pub share_length : (t d : ℕ) (p : Position) → length (after_share s party t d p).slots ≡ length p.slots
  unfolding after_share
  share_length t d p = split (eqb t no_transaction) (λ y. rw y (share_each_length (first_shares party) p)) (λ y. rw y (share_one_length t d p))

  share_mined : (t d : ℕ) (p : Position) → (after_share s party t d p).mined ≡ p.mined
  unfolding after_share
  share_mined t d p = split (eqb t no_transaction) (λ y. rw y (share_each_mined (first_shares party) p)) (λ y. rw y (share_one_mined t d p))

  share_one_beyond : (t d : ℕ) (p : Position) → t < count s → (k : ℕ) → count s ≤ k → slot (share_one s party t d p) k ≡ slot p k
  unfolding share_one
  share_one_beyond t d p l k h =
      one_other t (λ x. with_mark party d (with_shared d (share_mask s (keys p party) t) x)) p k (ne_eqb k t (λ e. omega arith))

  share_each_beyond : (l : List ℕ) (p : Position) → every (λ t. ltb t (count s)) l ≡ true → (k : ℕ) → count s ≤ k → slot (share_each s party l p) k ≡ slot p k
  unfolding share_each every
  share_each_beyond [] p e k h = refl
  share_each_beyond (t ∷ l) p e k h =
      let w = and_parts (ltb t (count s)) (every (λ j. ltb j (count s)) l) e in
      share_each_beyond l (share_one s party t contract p) w.1 k h ∙ share_one_beyond t contract p (ltb-true t (count s) w.0) k h

  -- no slot past the sheet's changes, where the shared transactions are the sheet's
  pub share_beyond : (t d : ℕ) (p : Position) → (eqb t no_transaction ≡ true → every (λ j. ltb j (count s)) (first_shares party) ≡ true) → (eqb t no_transaction ≡ false → t < count s)
      → (k : ℕ) → count s ≤ k → slot (after_share s party t d p) k ≡ slot p k
  unfolding after_share
  share_beyond t d p e l k h =
      split (eqb t no_transaction) (λ y. rw y (share_each_beyond (first_shares party) p (e y) k h)) (λ y. rw y (share_one_beyond t d p (l y) k h))

  module _ (t d : ℕ) (p : Position) where
    pub share_pool : SamePool p (after_share s party t d p)
    unfolding with_mark with_shared
    share_pool = same_pool (share_kept (λ x. x.pool) (λ a b m x. refl) t d p)

    pub share_block : SameBlock p (after_share s party t d p)
    unfolding with_mark with_shared
    share_block = same_block (share_kept (λ x. x.block) (λ a b m x. refl) t d p)

    pub share_confirmed : SameConfirmed p (after_share s party t d p)
    unfolding with_mark with_shared
    share_confirmed =
        same_confirmed (share_kept (λ x. x.height) (λ a b m x. refl) t d p) (share_kept (λ x. x.confirmed) (λ a b m x. refl) t d p) (share_mined t d p)

-- a give changes no slot
pub give_slots : (i receiver : ℕ) (p : Position) → (after_give i receiver p).slots ≡ p.slots
unfolding after_give with_key
give_slots i receiver p = refl

pub give_slot : (i receiver : ℕ) (p : Position) → slot (after_give i receiver p) ≡ slot p
unfolding after_give with_key slot
give_slot i receiver p = refl

module _ (i receiver : ℕ) (p : Position) where
  pub give_pool : SamePool p (after_give i receiver p)
  unfolding after_give with_key in_pool pool_to slot
  give_pool = record { there = refl; to = refl }

  pub give_block : SameBlock p (after_give i receiver p)
  unfolding after_give with_key in_block block_to slot
  give_block = record { there = refl; to = refl }

  pub give_confirmed : SameConfirmed p (after_give i receiver p)
  unfolding after_give with_key block_of confirmed_to slot
  give_confirmed = record { blocks = refl; to = refl; mined = refl }
