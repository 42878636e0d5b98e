-- The first shares, gone through as the members of a set.
-- Assumes nothing.
use Rattle.laws.proofs.Prelude.{ℕ, zero, suc, ◌+◌, ◌-◌, ◌≤◌, ◌<◌, ◌≡◌, refl, ◌∙◌, Bool, true, false, not, ◌||◌, List, [], ◌∷◌, ◌++◌, eqb, ltb, set, ltb-true, arith}
use Rattle.laws.proofs.Prelude.{all_below, all_at, pick, split, every, bit}
use Rattle.slots.specs.declared.Slot.{Slot}
use Rattle.slots.specs.Destination.{alice, contract}
use Rattle.slots.proofs.Walks.{Gap}
use Rattle.slots.specs.Signatures.{share_mask}
use Rattle.slots.specs.Slot.{with_shared, with_mark}
use Rattle.steps.specs.Names.{refund1, revoke, refund2, timeout}
use Rattle.position.specs.declared.Position.{Position}
use Rattle.position.specs.Position.{slot, keys, marked}
use Rattle.position.specs.FirstShares.{first_shares, first_shares_made}
use Rattle.position.specs.Forms.FirstShares.{first_set}
use Rattle.position.specs.Effect.{with_slots, change_slot, share_one, share_each}

-- the members of m among the k numbers from t on, rising
unfoldable pub members_in : ℕ → ℕ → ℕ → List ℕ
members_in m zero t = []
members_in m (suc k) t = pick (bit m t) (t ∷ []) [] ++ members_in m k (t + 1)

-- the members of m from t on below 32, rising
unfoldable pub members_from : ℕ → ℕ → List ℕ
members_from m t = members_in m (32 - t) t

module _ (m : ℕ) where
  members_step : (t : ℕ) → t < 32 → members_from m t ≡ pick (bit m t) (t ∷ []) [] ++ members_from m (t + 1)
  unfolding members_from members_in
  members_step t l = let e : 32 - t ≡ suc (32 - (t + 1)) = omega arith in rw e

  members_none : (t : ℕ) → 32 ≤ t → members_from m t ≡ []
  unfolding members_from members_in
  members_none t l = let e : 32 - t ≡ 0 = omega arith in rw e

  -- no member among the k numbers from t on
  skipped : (k t : ℕ) → t + k ≤ 32 → ((j : ℕ) → t ≤ j → j < t + k → bit m j ≡ false) → members_from m t ≡ members_from m (t + k)
  skipped zero t h f = let e : t + 0 ≡ t = omega arith in rw e
  skipped (suc k) t h f =
      let e : t + 1 + k ≡ t + suc k = omega arith in
      (members_step t (omega arith) ∙ rw (f t (omega arith) (omega arith)))
      ∙ (skipped k (t + 1) (omega arith) (λ j a b. f j (omega arith) (omega arith)) ∙ rw e)

  members_next : (t k : ℕ) → Gap m t 32 k → members_from m t ≡ members_from m k
  members_next t k h =
      let e : t + (k - t) ≡ k = omega (arith, h.low) in
      skipped (k - t) t (omega (arith, h.low, h.high)) (λ j a b. h.none j a (omega (arith, h.low))) ∙ rw e

  member_next : (t k : ℕ) → Gap m t 32 k → k < 32 → bit m k ≡ true → members_from m t ≡ k ∷ members_from m (k + 1)
  member_next t k h l e = members_next t k h ∙ (members_step k l ∙ rw e)

  members_end : (t : ℕ) → Gap m t 32 32 → members_from m t ≡ []
  members_end t h = members_next t 32 h ∙ members_none 32 (omega arith)

-- ---- the first shares
alice_members : members_from 80 0 ≡ revoke ∷ timeout ∷ []
unfolding members_from members_in bit
alice_members = refl

bob_members : members_from 120 0 ≡ refund1 ∷ revoke ∷ refund2 ∷ timeout ∷ []
unfolding members_from members_in bit
bob_members = refl

first_members : (party : ℕ) → members_from (first_set party) 0 ≡ first_shares party
unfolding first_set first_shares
first_members party = split (eqb party alice) (λ e. rw e alice_members) (λ e. rw e bob_members)

low_members : (party : ℕ) → all_below 32 (λ t. not (bit (first_set party) t) || ltb t 7) ≡ true
unfolding all_below first_set bit
low_members party = split (eqb party alice) (λ e. rw e) (λ e. rw e)

module _ (m party : ℕ) (is : m ≡ first_set party) where
  pub first_low : (t : ℕ) → t < 32 → bit m t ≡ true → t < 7
  first_low t l e =
      ltb-true t 7 (rw (← is, e) at (all_at 32 (λ k. not (bit (first_set party) k) || ltb k 7) (low_members party) t l))

  first_from : members_from m 0 ≡ first_shares party
  first_from = rw is (first_members party)

-- ---- they are made where the party's marks are on each member
alice_all : (p : ℕ → Bool) → all_below 32 (λ k. not (bit 80 k) || p k) ≡ every p (revoke ∷ timeout ∷ [])
unfolding all_below bit every
alice_all p = split (p revoke) (λ e. split (p timeout) (λ f. rw (e, f)) (λ f. rw (e, f))) (λ e. rw e)

bob_all : (p : ℕ → Bool) → all_below 32 (λ k. not (bit 120 k) || p k) ≡ every p (refund1 ∷ revoke ∷ refund2 ∷ timeout ∷ [])
unfolding all_below bit every
bob_all p =
    split (p refund1)
    (λ e. split (p revoke) (λ f. split (p refund2) (λ g. split (p timeout) (λ h. rw (e, f, g, h)) (λ h. rw (e, f, g, h))) (λ g. rw (e, f, g))) (λ f. rw (e, f)))
    (λ e. rw e)

pub made_all : (m : ℕ) (p : Position) (party : ℕ) → m ≡ first_set party → all_below 32 (λ k. not (bit m k) || marked p party k contract) ≡ first_shares_made p party
unfolding first_set first_shares first_shares_made
made_all m p party is =
    split (eqb party alice)
    (λ e. rw (is, e) (alice_all (λ k. marked p party k contract)))
    (λ e. rw (is, e) (bob_all (λ k. marked p party k contract)))

-- ---- a loop that shares them: its start, a turn, and its end
module _ (m : ℕ) (s : List ℕ) (p : Position) (party : ℕ) where
  pub share_start : m ≡ first_set party → share_each s party (members_from m 0) p ≡ share_each s party (first_shares party) p
  share_start is = rw (first_from m party is)

  module _ (t : ℕ) (q : Position) (so_far : share_each s party (members_from m t) p ≡ q) where
    pub share_more : (k held : ℕ) (x : Slot) → Gap m t 32 k → k < 32 → bit m k ≡ true → held ≡ keys p party
        → x ≡ with_mark party contract (with_shared contract (share_mask s held k) (slot p k))
        → share_each s party (members_from m (k + 1)) (with_slots (set p.slots k x) p) ≡ q
    unfolding share_each share_one change_slot
    share_more k held x h l e a y = rw (y, a) (rw (member_next m t k h l e) at so_far)

    pub share_done : Gap m t 32 32 → p ≡ q
    unfolding share_each
    share_done h = rw (members_end m t h) at so_far
