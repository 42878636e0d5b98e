-- What the rules read of a position whose block is emptied: everything but the block is as it was.
-- Assumes nothing.
use Rattle.laws.proofs.Prelude.{ℕ, ◌≡◌, refl, sym, ap, ◌∙◌, fun_ext, List}
use Rattle.position.proofs.Rules.{Slot, empty_slot, standing, with_block, shared_for, shared_any, marked_for, marks_of, slot, in_pool, block_of, is_confirmed, sent}
use Rattle.position.specs.declared.Position.{Position}
use Rattle.position.proofs.Rules.{shared, keys, marked, sender_has, deadline_in, lock_height_in, with_slots, first_shares_made}
use lib.ListN.{get_or-map}
use Rattle.claim_handins.specs.Claim.{emptied, BlockApart}

module _ (p : Position) where
  pub slot_emptied : (t : ℕ) → slot (emptied p) t ≡ with_block 0 (slot p t)
  unfolding emptied with_slots slot with_block
  slot_emptied t = get_or-map (with_block 0) p.slots t empty_slot

  -- a part of a slot that a block entry does not touch
  part_same : {A : Type 0} (f : Slot → A) → ((x : Slot) → f (with_block 0 x) ≡ f x) → (t : ℕ) → f (slot (emptied p) t) ≡ f (slot p t)
  part_same f h t = ap f (slot_emptied t) ∙ h (slot p t)

  pub mined_same : (emptied p).mined ≡ p.mined
  unfolding emptied with_slots
  mined_same = refl

  pub keys_same : keys (emptied p) ≡ keys p
  unfolding keys emptied with_slots
  keys_same = refl

  pub pool_same : in_pool (emptied p) ≡ in_pool p
  unfolding in_pool with_block
  pool_same = fun_ext (part_same (λ x. standing x.pool) (λ x. refl))

  pub blocks_same : block_of (emptied p) ≡ block_of p
  unfolding block_of with_block
  blocks_same = fun_ext (part_same (λ x. x.height) (λ x. refl))

  pub confirmed_same : is_confirmed (emptied p) ≡ is_confirmed p
  unfolding is_confirmed
  confirmed_same = fun_ext (λ t. rw blocks_same)

  pub sent_same : sent (emptied p) ≡ sent p
  unfolding sent
  sent_same = fun_ext (λ t. rw (pool_same, confirmed_same))

  pub shared_same : shared (emptied p) ≡ shared p
  unfolding shared with_block shared_for
  shared_same = fun_ext (λ t. fun_ext (λ d. part_same (λ x. shared_for x d) (λ x. refl) t))

  any_same : ◌≡◌ {A = ℕ → ℕ} (λ k. shared_any (slot (emptied p) k)) (λ k. shared_any (slot p k))
  unfolding with_block shared_any shared_for
  any_same = fun_ext (part_same shared_any (λ x. refl))

  pub has_same : (s : List ℕ) → sender_has s (emptied p) ≡ sender_has s p
  unfolding sender_has
  has_same s = fun_ext (λ party. fun_ext (λ t. fun_ext (λ d. rw (keys_same, any_same, shared_same))))

  pub marked_same : marked (emptied p) ≡ marked p
  unfolding marked marked_for marks_of with_block
  marked_same = fun_ext (λ party. fun_ext (λ t. fun_ext (λ d. part_same (λ x. marked_for x party d) (λ x. refl) t)))

  pub made_same : first_shares_made (emptied p) ≡ first_shares_made p
  unfolding first_shares_made
  made_same = fun_ext (λ party. rw marked_same)

  pub lock_same : (s u : List ℕ) → lock_height_in s u (emptied p) ≡ lock_height_in s u p
  unfolding lock_height_in
  lock_same s u = fun_ext (λ t. rw blocks_same)

  pub deadline_same : (s u : List ℕ) → deadline_in s u (emptied p) ≡ deadline_in s u p
  unfolding deadline_in
  deadline_same s u = fun_ext (λ t. rw blocks_same)

-- what is the same for each position and its emptied one is the same for two that differ in the block alone
pub alike : {A : Type 0} (f : Position → A) → ((p : Position) → f p ≡ f (emptied p)) → (p q : Position) → BlockApart p q → f p ≡ f q
alike f h p q a = h p ∙ ap f a ∙ sym (h q)
