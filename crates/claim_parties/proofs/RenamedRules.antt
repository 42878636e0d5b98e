-- The tests and effects of a step and of the step with the parties renamed, on one sheet, under open conduct.
-- Assumes nothing.
use Rattle.laws.proofs.Prelude.{ℕ, ◌+◌, ◌<◌, ◌≡◌, refl, ap, fun_ext, Bool, true, false, List, eqb}
use Rattle.position.proofs.Rules.{destinations, shared_any, entry_for, shared_secrets, share_mask, exposed_mask, no_transaction, confirm_entry, slot, keys, holds}
use Rattle.position.specs.declared.Position.{Position}
use Rattle.position.proofs.Rules.{marked, shared, in_block, sender_has, lock_height_in, deadline_in, owed, any_owed, enters, share_met, share_tests, give_met, give_tests}
use Rattle.position.proofs.Rules.{send_tests, pool_tests, miner_tests, include_tests, mine_tests, bump_tests, share_one, after_share, after_give, after_send, after_hand_in}
use Rattle.position.proofs.Rules.{after_include, leaves_pool, mine_slot, after_mine, leaves_block, bump_slot, after_bump}
use Rattle.position.specs.Tests.{block_met}
use Rattle.claim_parties.specs.Renaming.{Renaming, RenamedSlot, Renamed}
use Rattle.claim_parties.proofs.RenamedNumbers.{entry_for_lem, entry_none}
use Rattle.claim_parties.proofs.RenamedSlots.{picked_both, any_same, with_pool_lem, with_block_lem, with_shared_lem, with_mark_lem, confirm_renamed}
use Rattle.claim_parties.proofs.RenamedPositions.{pool_same, block_same, heights_same, confirmed_same, sent_same, placed_same, waiting_same, slot_changed, slots_changed, mined_changed, key_given}

module _ (ρ : Renaming) (s u : List ℕ) (p q : Position) (r : Renamed ρ p q) where
  pub lock_in : lock_height_in s u q ≡ lock_height_in s u p
  unfolding lock_height_in
  lock_in = fun_ext (λ t. rw (heights_same ρ p q r))

  pub deadline_in_lem : deadline_in s u q ≡ deadline_in s u p
  unfolding deadline_in
  deadline_in_lem = fun_ext (λ t. rw (heights_same ρ p q r))

  secrets_in : shared_secrets s (λ k. shared_any (slot q k)) ≡ shared_secrets s (λ k. shared_any (slot p k))
  secrets_in = ap (shared_secrets s) (fun_ext (λ k. any_same ρ (slot p k) (slot q k) (r.slots_same k)))

  owed_in_lem : owed s u q ≡ owed s u p
  unfolding owed
  owed_in_lem = fun_ext (λ t. rw (waiting_same ρ p q r, deadline_in_lem, r.mined_same))

  any_owed_lem : any_owed s u q ≡ any_owed s u p
  unfolding any_owed
  any_owed_lem = rw owed_in_lem

  enters_in_lem : enters s q ≡ enters s p
  unfolding enters
  enters_in_lem = fun_ext (λ t. fun_ext (λ k. rw (waiting_same ρ p q r)))

  pub include_tests_lem : (t : ℕ) → include_tests s u q t ≡ include_tests s u p t
  unfolding include_tests
  include_tests_lem t = rw (placed_same ρ p q r, pool_same ρ p q r, any_owed_lem)

  pub mine_tests_lem : mine_tests s u q ≡ mine_tests s u p
  unfolding mine_tests block_met
  mine_tests_lem = rw (any_owed_lem, block_same ρ p q r, confirmed_same ρ p q r, r.mined_same)

  pub bump_tests_lem : (t : ℕ) → bump_tests s u q t ≡ bump_tests s u p t
  unfolding bump_tests
  bump_tests_lem t = rw owed_in_lem

  pub include_renamed : (t : ℕ) → Renamed ρ (after_include t p) (after_include t q)
  unfolding after_include
  include_renamed t =
      slot_changed ρ p q r t _ _
      (with_block_lem ρ (slot p t) (slot q t) (r.slots_same t) (slot p t).pool (slot q t).pool (r.slots_same t).pools)

  mine_slot_lem : (t : ℕ) → RenamedSlot ρ (mine_slot s p t (slot p t)) (mine_slot s q t (slot q t))
  unfolding mine_slot
  mine_slot_lem t =
      let x = confirm_entry s (p.mined + 1) t (slot p t) in
      let y = confirm_entry s (q.mined + 1) t (slot q t) in
      let z : RenamedSlot ρ x y =
      confirm_renamed ρ s (p.mined + 1) (q.mined + 1) t (ap (λ (m : ℕ). m + 1) r.mined_same) (slot p t) (slot q t) (r.slots_same t) in
      picked_both ρ (leaves_pool s (in_block p) t) (leaves_pool s (in_block q) t)
      (ap (λ (f : ℕ → Bool). leaves_pool s f t) (block_same ρ p q r))
      (λ e. with_pool_lem ρ x y z 0 0 (entry_none ρ))
      z

  pub mine_renamed : Renamed ρ (after_mine s p) (after_mine s q)
  unfolding after_mine
  mine_renamed =
      mined_changed ρ _ _ (slots_changed ρ p q r s (mine_slot s p) (mine_slot s q) mine_slot_lem)
      (p.mined + 1) (q.mined + 1) (ap (λ (m : ℕ). m + 1) r.mined_same)

  bump_slot_lem : (b t : ℕ) → RenamedSlot ρ (bump_slot s p b t (slot p t)) (bump_slot s q b t (slot q t))
  unfolding bump_slot
  bump_slot_lem b t =
      let x = slot p t in
      let y = slot q t in
      let z = r.slots_same t in
      picked_both ρ (enters s p b t) (enters s q b t)
      (ap (λ (f : ℕ → ℕ → Bool). f b t) enters_in_lem)
      (λ e. with_block_lem ρ x y z x.pool y.pool z.pools)
      (picked_both ρ (leaves_block s (enters s p b) t) (leaves_block s (enters s q b) t)
      (ap (λ (f : ℕ → ℕ → Bool). leaves_block s (f b) t) enters_in_lem)
      (λ e. with_block_lem ρ x y z 0 0 (entry_none ρ))
      z)

  pub bump_renamed : (t : ℕ) → Renamed ρ (after_bump s t p) (after_bump s t q)
  unfolding after_bump
  bump_renamed t = slots_changed ρ p q r s (bump_slot s p t) (bump_slot s q t) (bump_slot_lem t)

  -- the steps of parties
  module _ (a t d : ℕ) (l : a < destinations) (m : d < destinations) where
    mask_same : share_mask s (keys q (ρ.to a)) t ≡ share_mask s (keys p a) t
    mask_same = ap (λ (k : ℕ). share_mask s k t) (r.keys_same a l)

    has_same : sender_has s q (ρ.to a) t (ρ.to d) ≡ sender_has s p a t d
    unfolding sender_has shared
    has_same = rw (r.keys_same a l, secrets_in, (r.slots_same t).shares d m)

    pub share_tests_lem : eqb t no_transaction ≡ false → share_tests true s q (ρ.to a) t (ρ.to d) ≡ share_tests true s p a t d
    unfolding share_tests share_met marked
    share_tests_lem n = rw (n, mask_same, (r.slots_same t).marks a d l m)

    pub give_tests_lem : give_tests true q (ρ.to a) t (ρ.to d) ≡ give_tests true p a t d
    unfolding give_tests give_met holds
    give_tests_lem = rw (r.keys_same a l, r.keys_same d m)

    send_tests_lem : (there : ℕ → Bool) → send_tests true s u q there (ρ.to a) t (ρ.to d) ≡ send_tests true s u p there a t d
    unfolding send_tests
    send_tests_lem there = rw (lock_in, has_same, r.mined_same)

    pub pool_tests_lem : pool_tests true s u q (ρ.to a) t (ρ.to d) ≡ pool_tests true s u p a t d
    unfolding pool_tests
    pool_tests_lem = rw (sent_same ρ p q r, deadline_in_lem, send_tests_lem, r.mined_same)

    pub miner_tests_lem : miner_tests true s u q (ρ.to a) t (ρ.to d) ≡ miner_tests true s u p a t d
    unfolding miner_tests
    miner_tests_lem = rw (placed_same ρ p q r, send_tests_lem)

    pub share_renamed : eqb t no_transaction ≡ false → Renamed ρ (after_share s a t d p) (after_share s (ρ.to a) t (ρ.to d) q)
    unfolding after_share share_one
    share_renamed n =
        rw n
        (slot_changed ρ p q r t _ _
        (with_mark_lem ρ _ _
        (with_shared_lem ρ (slot p t) (slot q t) (r.slots_same t) d (ρ.to d) (share_mask s (keys p a) t) (share_mask s (keys q (ρ.to a)) t) refl mask_same)
        a d m))

    pub give_renamed : Renamed ρ (after_give t d p) (after_give t (ρ.to d) q)
    unfolding after_give
    give_renamed = key_given ρ p q r d t m

    pub send_renamed : Renamed ρ (after_send s t d p) (after_send s t (ρ.to d) q)
    unfolding after_send
    send_renamed =
        slot_changed ρ p q r t _ _
        (with_pool_lem ρ _ _
        (with_shared_lem ρ (slot p t) (slot q t) (r.slots_same t) d (ρ.to d) (exposed_mask s t) (exposed_mask s t) refl refl)
        (entry_for d) (entry_for (ρ.to d)) (entry_for_lem ρ d))

    pub hand_renamed : Renamed ρ (after_hand_in t d p) (after_hand_in t (ρ.to d) q)
    unfolding after_hand_in
    hand_renamed =
        slot_changed ρ p q r t _ _
        (with_block_lem ρ (slot p t) (slot q t) (r.slots_same t) (entry_for d) (entry_for (ρ.to d)) (entry_for_lem ρ d))
