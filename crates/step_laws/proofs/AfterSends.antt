-- Kinds 3, 4 and 5: one transaction more waits in the pool, or in the block being filled.
-- Assumes nothing.
use Rattle.laws.proofs.Prelude.{ℕ, ◌+◌, ◌<◌, ◌≡◌, refl, ap, ◌∙◌, fun_ext, Bool, true, false, ◌||◌, List, eqb, length, eqb-true, lt-ltb, arith, pick, split}
use Rattle.position.proofs.Rules.{Slot, standing, entry_for, entry_to, with_pool, with_block, with_shared, exposed_mask, slot, in_pool, pool_to, in_block, block_to}
use Rattle.position.specs.declared.Position.{Position}
use Rattle.position.proofs.Rules.{after_send, after_hand_in, after_include}
use Rattle.position.proofs.Changed.{one_slot}
use Rattle.step_laws.proofs.Untouched.{SamePool, SameBlock, SameConfirmed, one_pool, one_block, one_confirmed}

pub entry_stands : (d : ℕ) → standing (entry_for d) ≡ true
unfolding standing entry_for
entry_stands d = lt-ltb 0 (d + 1) (omega arith)

pub entry_names : (d : ℕ) → entry_to (entry_for d) ≡ d
unfolding entry_to entry_for
entry_names d = omega arith

picked : {A B : Type 0} (f : A → B) (b : Bool) (x y : A) → f (pick b x y) ≡ pick b (f x) (f y)
picked f true x y = refl
picked f false x y = refl

-- an entry put at one place
entered : (b : Bool) (e x : ℕ) → standing e ≡ true → standing (pick b e x) ≡ (b || standing x)
entered true e x h = h
entered false e x h = refl

module _ (s : List ℕ) (t d : ℕ) (p : Position) where
  send_entry : t < length p.slots → (k : ℕ) → (slot (after_send s t d p) k).pool ≡ pick (eqb k t) (entry_for d) (slot p k).pool
  unfolding after_send with_pool
  send_entry l k =
      ap (λ (x : Slot). x.pool) (one_slot t (λ x. with_pool (entry_for d) (with_shared d (exposed_mask s t) x)) p l k)
      ∙ picked (λ (x : Slot). x.pool) (eqb k t) (with_pool (entry_for d) (with_shared d (exposed_mask s t) (slot p k))) (slot p k)

  pub send_pool : t < length p.slots → in_pool (after_send s t d p) ≡ (λ k. eqb k t || in_pool p k)
  unfolding in_pool
  send_pool l = fun_ext (λ k. rw (send_entry l k) (entered (eqb k t) (entry_for d) (slot p k).pool (entry_stands d)))

  pub send_to : t < length p.slots → pool_to (after_send s t d p) ≡ (λ k. pick (eqb k t) d (pool_to p k))
  unfolding pool_to
  send_to l = fun_ext (λ k. rw (send_entry l k, picked entry_to (eqb k t) (entry_for d) (slot p k).pool, entry_names d))

  pub send_block : SameBlock p (after_send s t d p)
  unfolding after_send with_pool with_shared
  send_block = one_block t (λ x. with_pool (entry_for d) (with_shared d (exposed_mask s t) x)) p (λ x. refl)

  pub send_confirmed : SameConfirmed p (after_send s t d p)
  unfolding after_send with_pool with_shared
  send_confirmed = one_confirmed t (λ x. with_pool (entry_for d) (with_shared d (exposed_mask s t) x)) p (λ x. refl) (λ x. refl)

module _ (t d : ℕ) (p : Position) where
  hand_entry : t < length p.slots → (k : ℕ) → (slot (after_hand_in t d p) k).block ≡ pick (eqb k t) (entry_for d) (slot p k).block
  unfolding after_hand_in with_block
  hand_entry l k =
      ap (λ (x : Slot). x.block) (one_slot t (with_block (entry_for d)) p l k) ∙ picked (λ (x : Slot). x.block) (eqb k t) (with_block (entry_for d) (slot p k)) (slot p k)

  pub hand_block : t < length p.slots → in_block (after_hand_in t d p) ≡ (λ k. eqb k t || in_block p k)
  unfolding in_block
  hand_block l = fun_ext (λ k. rw (hand_entry l k) (entered (eqb k t) (entry_for d) (slot p k).block (entry_stands d)))

  pub hand_to : t < length p.slots → block_to (after_hand_in t d p) ≡ (λ k. pick (eqb k t) d (block_to p k))
  unfolding block_to
  hand_to l = fun_ext (λ k. rw (hand_entry l k, picked entry_to (eqb k t) (entry_for d) (slot p k).block, entry_names d))

  pub hand_pool : SamePool p (after_hand_in t d p)
  unfolding after_hand_in with_block
  hand_pool = one_pool t (with_block (entry_for d)) p (λ x. refl)

  pub hand_confirmed : SameConfirmed p (after_hand_in t d p)
  unfolding after_hand_in with_block
  hand_confirmed = one_confirmed t (with_block (entry_for d)) p (λ x. refl) (λ x. refl)

module _ (t : ℕ) (p : Position) where
  include_entry : t < length p.slots → (k : ℕ) → (slot (after_include t p) k).block ≡ pick (eqb k t) (slot p k).pool (slot p k).block
  unfolding after_include with_block
  include_entry l k =
      ap (λ (x : Slot). x.block) (one_slot t (λ x. with_block x.pool x) p l k)
      ∙ picked (λ (x : Slot). x.block) (eqb k t) (with_block (slot p k).pool (slot p k)) (slot p k)

  pub include_block : t < length p.slots → in_pool p t ≡ true → in_block (after_include t p) ≡ (λ k. eqb k t || in_block p k)
  unfolding in_block in_pool
  include_block l i = fun_ext (λ k. rw (include_entry l k) (at k))
    where
      at : (k : ℕ) → standing (pick (eqb k t) (slot p k).pool (slot p k).block) ≡ (eqb k t || standing (slot p k).block)
      at k = split (eqb k t) (λ y. rw (y, eqb-true k t y) i) (λ y. rw y)

  pub include_to : t < length p.slots → block_to (after_include t p) ≡ (λ k. pick (eqb k t) (pool_to p k) (block_to p k))
  unfolding block_to pool_to
  include_to l = fun_ext (λ k. rw (include_entry l k) (picked entry_to (eqb k t) (slot p k).pool (slot p k).block))

  pub include_pool : SamePool p (after_include t p)
  unfolding after_include with_block
  include_pool = one_pool t (λ x. with_block x.pool x) p (λ x. refl)

  pub include_confirmed : SameConfirmed p (after_include t p)
  unfolding after_include with_block
  include_confirmed = one_confirmed t (λ x. with_block x.pool x) p (λ x. refl) (λ x. refl)
