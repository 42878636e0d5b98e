-- What a step of kind 1, 2 or 3 does leaves the block alone: it does the same to the position whose block is emptied.
-- Assumes nothing.
use Rattle.laws.proofs.Prelude.{ℕ, zero, suc, ◌≡◌, refl, ap, ◌∙◌, true, List, [], ◌∷◌, eqb, set, map, split, clash}
use Rattle.position.proofs.Rules.{Slot, Step, Share, Give, SendToPool, HandToMiner, Include, Mine, Bump, contract, destination_number, entry_for, with_pool, with_block}
use Rattle.position.proofs.Rules.{with_shared, with_mark, share_mask, exposed_mask, no_transaction, step_bytes, slot, keys, first_shares, with_slots, change_slot}
use Rattle.position.specs.declared.Position.{Position}
use Rattle.position.proofs.Rules.{with_key, share_one, share_each, after_share, after_give, after_send, effect}
use Rattle.claim_handins.specs.Early.{early_kind}
use Rattle.claim_handins.specs.Claim.{emptied}
use Rattle.claim_handins.proofs.Emptied.{slot_emptied, keys_same}
use Rattle.claim_handins.proofs.Refusals.{early_step}

-- a list stored into and then mapped
map_set : {A : Type 0} (f : A → A) (l : List A) (i : ℕ) (v : A) → map f (set l i v) ≡ set (map f l) i (f v)
map_set f [] i v = refl
map_set f (x ∷ l) zero v = refl
map_set f (x ∷ l) (suc i) v = ap (λ r. f x ∷ r) (map_set f l i v)

-- one slot changed by what commutes with emptying it
module _ (t : ℕ) (f : Slot → Slot) (free : (x : Slot) → with_block 0 (f x) ≡ f (with_block 0 x)) (p : Position) where
  changed : emptied (change_slot t f p) ≡ change_slot t f (emptied p)
  unfolding emptied change_slot with_slots
  changed = rw (map_set (with_block 0) p.slots t (f (slot p t)), free (slot p t), ← (slot_emptied p t))

module _ (s : List ℕ) where
  one_emptied : (party t d : ℕ) (p : Position) → emptied (share_one s party t d p) ≡ share_one s party t d (emptied p)
  unfolding share_one with_mark with_shared with_block
  one_emptied party t d p =
      rw (keys_same p) (changed t (λ x. with_mark party d (with_shared d (share_mask s (keys p party) t) x)) (λ x. refl) p)

  each_emptied : (party : ℕ) (l : List ℕ) (p : Position) → emptied (share_each s party l p) ≡ share_each s party l (emptied p)
  unfolding share_each
  each_emptied party [] p = refl
  each_emptied party (t ∷ l) p = each_emptied party l (share_one s party t contract p) ∙ rw (one_emptied party t contract p)

  pub effect_emptied : (x : Step) → early_step x ≡ true → (p : Position) → emptied (effect s p x) ≡ effect s (emptied p) x
  unfolding effect after_share after_give after_send with_key keys emptied with_slots with_pool with_shared with_block early_step early_kind step_bytes
  effect_emptied (Share party t to) e p =
      split (eqb t no_transaction)
      (λ y. rw y (each_emptied party (first_shares party) p))
      (λ y. rw y (one_emptied party t (destination_number to) p))
  effect_emptied (Give party i to) e p = refl
  effect_emptied (SendToPool party t to) e p =
      changed t (λ x. with_pool (entry_for (destination_number to)) (with_shared (destination_number to) (exposed_mask s t) x)) (λ x. refl) p
  effect_emptied (HandToMiner party t to) e p = clash e refl
  effect_emptied (Include party t to) e p = clash e refl
  effect_emptied (Mine party t to) e p = clash e refl
  effect_emptied (Bump party t to) e p = clash e refl
