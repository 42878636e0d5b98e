-- An accepted step of each kind leaves the slots outside `changed_set` as they are, so that the view carried over it is that of the position
-- after it.
-- Assumes nothing.
use Rattle.laws.proofs.Prelude.{ℕ, ◌+◌, ◌^◌, ◌≤◌, ◌<◌, ◌≡◌, refl, sym, ap, ◌∙◌, Bool, true, false, List, [], ◌∷◌, ◌⊎◌, inl, inr, eqb, ltb, length, get_or, eqb-true}
use Rattle.laws.proofs.Prelude.{eqb-false, ltb-true, ltb-false, eq-eqb, ne_eqb, lt-ltb, le-ltb, arith, bit_or, or_lt, List·getD-eq-default, set_out, pick, split, either}
use Rattle.laws.proofs.Prelude.{clash, and_parts, or_neither, bit_or_lem, bit_above, rewrite_first, length_rewrite_first, every, bit, removed, set_small}
use mathlib.Core.Path.{subst}
use lib.Bits.{or_self}
use lib.Count.{count_trailing_zeros}
use lib.Pow.{pow_pos, pow-lt, pow_mono}
use Rattle.laws.specs.Unions.{or_contains, union_contains}
use Rattle.sheet.specs.Field.{count}
use Rattle.sheet.specs.Checked.{Fit}
use Rattle.slots.specs.declared.Slot.{Slot}
use Rattle.slots.specs.declared.Step.{Step}
use Rattle.slots.specs.declared.Step.TheVariants.{Share, Give, SendToPool, HandToMiner, Include, Mine, Bump}
use Rattle.slots.specs.Destination.{alice, bob, carol, contract, destinations, destination_number}
use Rattle.slots.specs.Signatures.{share_mask, exposed_mask}
use Rattle.slots.specs.Slot.{empty_slot, standing, entry_for, entry_to, with_pool, with_block, with_confirmed, with_mark, shared_for, with_shared, shared_any}
use Rattle.slots.proofs.Trailing.{at_trailing}
use Rattle.steps.specs.declared.View.{View}
use Rattle.steps.specs.Decode.{fields_right, step_bytes}
use Rattle.steps.specs.Mined.{confirm_entry}
use Rattle.steps.specs.Forms.Blocks.{conflicted_in, affected_in}
use Rattle.steps.specs.Forms.View.{view_after, view_passed}
use Rattle.steps.proofs.RightFields.{share_listed, pool_listed, miner_listed, include_listed}
use Rattle.steps.proofs.Unmoved.{block_out}
use Rattle.position.specs.declared.Position.{Position}
use Rattle.position.specs.declared.Stepped.{Stepped}
use Rattle.position.specs.Position.{slot, in_pool, in_block, keys}
use Rattle.position.specs.FirstShares.{first_shares}
use Rattle.position.specs.Owed.{waiting, enters}
use Rattle.position.specs.Effect.{with_slots, change_slot, change_slots, with_key, with_mined, share_one, share_each, after_share, after_give}
use Rattle.position.specs.Effect.{after_send, after_hand_in, after_include, leaves_pool, mine_slot, after_mine, leaves_block, bump_slot, after_bump, effect}
use Rattle.position.specs.Play.{FourBytes, decode_bytes, step}
use Rattle.position.specs.Forms.View.{view_below}
use Rattle.position.specs.Forms.Seen.{changed_set, refined_set, lowest, view_kept, view_joined}
use Rattle.position.proofs.BlockSets.{mined_at}
use Rattle.position.proofs.Changed.{one_other, one_slot, all_slot}
use Rattle.position.proofs.Decoding.{decodes}
use Rattle.position.proofs.EmptyBlocks.{mine_empty}
use Rattle.position.proofs.Fields.{share_fields, share_first_fits}
use Rattle.position.proofs.NoEntries.{outside, mined_outside}
use Rattle.position.proofs.Renewed.{Keeps, keeps_same, keeps_on, Moved, renewed_right, power_here, one_member, one_right, none_right}
use Rattle.position.proofs.StepCases.{StepCase, taken, turned_down, step_case}

-- ---- what a step makes of a slot
-- a share adds signatures
picked : (b : Bool) (x m : ℕ) → bit_or x (pick b (bit_or x m) x) ≡ pick b (bit_or x m) x
picked true x m = or_contains x m
picked false x m = or_self x

shared_more : (to m : ℕ) (x : Slot) (k : ℕ) → bit_or (shared_for x k) (shared_for (with_shared to m x) k) ≡ shared_for (with_shared to m x) k
unfolding shared_for with_shared
shared_more to m x k =
    split (eqb k alice)
    (λ a. rw a (picked (eqb to alice) x.alice m))
    (λ a. split (eqb k bob) (λ b. rw (a, b) (picked (eqb to bob) x.bob m)) (λ b.
    split (eqb k contract) (λ c. rw (a, b, c) (picked (eqb to contract) x.contract m)) (λ c. rw (a, b, c) (picked (eqb to carol) x.carol m))))

share_adds : (to m : ℕ) (x : Slot) → bit_or (shared_any x) (shared_any (with_shared to m x)) ≡ shared_any (with_shared to m x)
unfolding shared_any
share_adds to m x = union_contains destinations (shared_for x) (shared_for (with_shared to m x)) (shared_more to m x)

share_keeps : (party to m : ℕ) (x : Slot) → Keeps x (with_mark party to (with_shared to m x))
unfolding with_mark with_shared shared_any shared_for
share_keeps party to m x = ((λ h. h), share_adds to m x)

send_keeps : (entry to m : ℕ) (x : Slot) → Keeps x (with_pool entry (with_shared to m x))
unfolding with_pool with_shared shared_any shared_for
send_keeps entry to m x = ((λ h. h), share_adds to m x)

block_keeps : (entry : ℕ) (x : Slot) → Keeps x (with_block entry x)
unfolding with_block shared_any shared_for
block_keeps entry x = keeps_same x

module _ (s : List ℕ) (p : Position) where
  confirm_keeps : (b t : ℕ) (x : Slot) → 0 < b → Keeps x (confirm_entry s b t x)
  unfolding confirm_entry with_block with_confirmed with_shared shared_any shared_for
  confirm_keeps b t x l =
      split (standing x.block)
      (λ y. rw y ((λ h. lt-ltb 0 b l), share_adds (entry_to x.block) (exposed_mask s t) x))
      (λ y. rw y (keeps_same x))

  out_keeps : (b : Bool) (x y : Slot) → Keeps x y → Keeps x (pick b (with_pool 0 y) y)
  unfolding with_pool shared_any shared_for
  out_keeps true x y h = h
  out_keeps false x y h = h

  mine_keeps : (k : ℕ) → Keeps (slot p k) (mine_slot s p k (slot p k))
  unfolding mine_slot
  mine_keeps k = out_keeps (leaves_pool s (in_block p) k) (slot p k) _ (confirm_keeps (p.mined + 1) k (slot p k) (omega arith))

  bump_keeps : (t k : ℕ) → Keeps (slot p k) (bump_slot s p t k (slot p k))
  unfolding bump_slot
  bump_keeps t k =
      split (enters s p t k)
      (λ y. rw y (block_keeps (slot p k).pool (slot p k)))
      (λ y. split (leaves_block s (enters s p t) k) (λ z. rw (y, z) (block_keeps 0 (slot p k))) (λ z. rw (y, z) (keeps_same (slot p k))))

  -- without an entry
  not_entering : (t k : ℕ) → (slot p k).pool ≡ 0 → enters s p t k ≡ false
  unfolding enters waiting in_pool standing
  not_entering t k a = rw a

  bump_none : (t k : ℕ) → (slot p k).pool ≡ 0 → (slot p k).block ≡ 0 → bump_slot s p t k (slot p k) ≡ slot p k
  unfolding bump_slot
  bump_none t k a b = rw (not_entering t k a) (sym (block_out (leaves_block s (enters s p t) k) (slot p k) b))

-- ---- what it makes of the slots
-- none is changed
kept_moved : (n : ℕ) (p q : Position) → ((k : ℕ) → slot q k ≡ slot p k) → Moved n p q 0
kept_moved n p q same =
    record { small = pow_pos n; out = λ k l h. same k; keeps = λ k l. rw (same k) (keeps_same (slot p k)) }

-- one is changed
one_keeps : (t : ℕ) (f : Slot → Slot) (p : Position) → ((x : Slot) → Keeps x (f x)) → (k : ℕ) → Keeps (slot p k) (slot (change_slot t f p) k)
unfolding change_slot with_slots slot
one_keeps t f p g k =
    split (ltb t (length p.slots))
    (λ l.
    let w = one_slot t f p (ltb-true t (length p.slots) l) k in
    split (eqb k t)
    (λ y. let z : slot (change_slot t f p) k ≡ f (slot p k) = w ∙ rw y refl in rw z (g (slot p k)))
    (λ y. rw (one_other t f p k y) (keeps_same (slot p k))))
    (λ l. rw (set_out p.slots t (f (slot p t)) (ltb-false t (length p.slots) l)) (keeps_same (slot p k)))

one_moved : (n t : ℕ) (f : Slot → Slot) (p : Position) (members : ℕ) → members < 2 ^ n → bit members t ≡ true → ((x : Slot) → Keeps x (f x)) → Moved n p (change_slot t f p) members
one_moved n t f p members l b g =
    record {
      small = l;
      out = λ k i h. one_other t f p k (ne_eqb k t (λ z. clash b (ap (bit members) (sym z) ∙ h)));
      keeps = λ k i. one_keeps t f p g k;
    }

only_moved : (n t : ℕ) (f : Slot → Slot) (p : Position) → n ≤ 32 → t < n → ((x : Slot) → Keeps x (f x)) → Moved n p (change_slot t f p) (2 ^ t)
only_moved n t f p few l g = one_moved n t f p (2 ^ t) (pow-lt l) (power_here t (omega (arith, l, few))) g

-- those of the first shares are changed
module _ (s : List ℕ) (party : ℕ) (l : 120 < 2 ^ count s) where
  each_moved : (ts : List ℕ) (p : Position) → every (bit 120) ts ≡ true → Moved (count s) p (share_each s party ts p) 120
  unfolding share_each share_one every
  each_moved [] p h = record { small = l; out = λ k i o. refl; keeps = λ k i. keeps_same (slot p k) }
  each_moved (t ∷ ts) p h =
      let w = and_parts (bit 120 t) (every (bit 120) ts) h in
      let a = one_moved (count s) t _ p 120 l w.0 (share_keeps party contract (share_mask s (keys p party) t)) in
      let b = each_moved ts (share_one s party t contract p) w.1 in
      record {
        small = l;
        out = λ k i o. b.out k i o ∙ a.out k i o;
        keeps = λ k i. keeps_on (slot p k) _ _ (a.keeps k i) (b.keeps k i);
      }

  first_moved : (p : Position) → Moved (count s) p (share_each s party (first_shares party) p) 120
  unfolding first_shares every bit
  first_moved p = each_moved (first_shares party) p (split (eqb party alice) (λ y. rw y refl) (λ y. rw y refl))

-- each is changed, or stays as it is past the slots
changed_or_not : (s : List ℕ) (f : ℕ → Slot → Slot) (p : Position) (k : ℕ) → k < count s
    → (slot (change_slots s f p) k ≡ f k (slot p k)) ⊎ (slot (change_slots s f p) k ≡ slot p k)
unfolding change_slots with_slots slot
changed_or_not s f p k h =
    split (ltb k (length p.slots))
    (λ y. inl (all_slot s f p k h (ltb-true k (length p.slots) y)))
    (λ y.
    let b = ltb-false k (length p.slots) y in
    inr
    (List·getD-eq-default (rewrite_first (count s) f p.slots) empty_slot {n = k} (rw (length_rewrite_first (count s) f p.slots) b)
    ∙ sym (List·getD-eq-default p.slots empty_slot {n = k} b)))

all_moved : (s : List ℕ) (f : ℕ → Slot → Slot) (members : ℕ) (p q : Position) → members < 2 ^ count s → ((k : ℕ) → slot q k ≡ slot (change_slots s f p) k)
    → ((k : ℕ) → k < count s → bit members k ≡ false → f k (slot p k) ≡ slot p k) → ((k : ℕ) → Keeps (slot p k) (f k (slot p k))) → Moved (count s) p q members
all_moved s f members p q small changed same keeps =
    record {
      small = small;
      out = λ k l h. changed k ∙ either (changed_or_not s f p k l) (λ a. a ∙ same k l h) (λ a. a);
      keeps = λ k l.
          either (changed_or_not s f p k l)
          (λ a. subst (λ (y : Slot). Keeps (slot p k) y) (sym (changed k ∙ a)) (keeps k))
          (λ a. subst (λ (y : Slot). Keeps (slot p k) y) (sym (changed k ∙ a)) (keeps_same (slot p k)));
    }

-- ---- a block and a bump, outside the set that they may change
module _ (s : List ℕ) (p : Position) (v : View) (few : count s ≤ 32) (e : v ≡ view_below s (count s) p) where
  block_small : v.block < 2 ^ count s
  unfolding view_below
  block_small = rw e (set_small (count s) (count s) (in_block p) (omega arith))

  pool_small : v.pool < 2 ^ count s
  unfolding view_below
  pool_small = rw e (set_small (count s) (count s) (in_pool p) (omega arith))

  both_small : bit_or v.pool v.block < 2 ^ count s
  both_small = or_lt (count s) v.pool v.block pool_small block_small

  affected_small : (m : ℕ) → affected_in v m < 2 ^ count s
  unfolding affected_in
  affected_small m = split (eqb m 0) (λ y. rw y block_small) (λ y. rw y both_small)

  affected_both : (m k : ℕ) → bit (bit_or v.pool v.block) k ≡ false → bit (affected_in v m) k ≡ false
  unfolding affected_in
  affected_both m k h =
      split (eqb m 0)
      (λ y. rw y (or_neither (bit v.pool k) (bit v.block k) (sym (bit_or_lem v.pool v.block k) ∙ h)).1)
      (λ y. rw y h)

  mine_moved : Moved (count s) p (after_mine s p) (affected_in v (conflicted_in s v))
  unfolding after_mine with_mined slot
  mine_moved =
      all_moved s (mine_slot s p) (affected_in v (conflicted_in s v)) p (after_mine s p) (affected_small (conflicted_in s v)) (λ k. refl)
      (λ k l h. sym (mined_at s p v (conflicted_in s v) few e refl k l) ∙ (mined_outside s p v few e (p.mined + 1) (conflicted_in s v) (affected_in v (conflicted_in s v)) refl).same k l h)
      (mine_keeps s p)

  mine_wide : Moved (count s) p (after_mine s p) (pick (eqb v.block 0) 0 (bit_or v.pool v.block))
  unfolding with_mined slot
  mine_wide =
      split (eqb v.block 0)
      (λ y. let m = mine_empty s p few (rw e at (eqb-true v.block 0 y)) in rw y (kept_moved (count s) p (after_mine s p) (λ k. rw m refl)))
      (λ y.
      let w = mine_moved in
      rw y (record { small = both_small; out = λ k l h. w.out k l (affected_both (conflicted_in s v) k h); keeps = w.keeps }))

  bump_moved : (t : ℕ) → Moved (count s) p (after_bump s t p) (bit_or v.pool v.block)
  unfolding after_bump
  bump_moved t =
      all_moved s (bump_slot s p t) (bit_or v.pool v.block) p (after_bump s t p) both_small (λ k. refl)
      (λ k l h. let w = outside s p v few e k l h in bump_none s p t k w.1 w.2)
      (bump_keeps s p t)

-- ---- the steps of each kind, where v is the view before them
module _ (s u : List ℕ) (p : Position) (v : View) (fit : Fit s u) (e : v ≡ view_below s (count s) p) where
  few : count s ≤ 32
  few = fit.checked.sized.few

  -- one transaction of the sheet
  listed : (q : Position) (t : ℕ) (f : Slot → Slot) → q ≡ change_slot t f p → t < count s → ((x : Slot) → Keeps x (f x)) → Moved (count s) p q (pick (ltb t 32) (2 ^ t) 120)
  listed q t f d l g = rw (d, lt-ltb t 32 (omega (arith, l, few))) (only_moved (count s) t f p few l g)

  by_kind : (x : Step) → fields_right s u x ≡ true → Moved (count s) p (effect s p x) (changed_set v (get_or (step_bytes x) 0 0) (get_or (step_bytes x) 2 0))
  unfolding step_bytes changed_set effect after_share share_one after_give with_key after_send after_hand_in after_include slot
  by_kind (Share a t to) h =
      split (eqb t 255)
      (λ y.
      let z = eqb-true t 255 y in
      let l = share_first_fits s t few (share_fields s u a t to (Share a t to) refl fit h) z in
      let m : 2 ^ 7 ≤ 2 ^ count s = pow_mono l in
      rw (y, le-ltb t 32 (omega (arith, z))) (first_moved s a (omega (arith, m)) p))
      (λ y.
      let l = share_listed s u a t to (Share a t to) refl h (eqb-false t 255 y) in
      listed (effect s p (Share a t to)) t _ (rw y refl) l (share_keeps a (destination_number to) (share_mask s (keys p a) t)))
  by_kind (Give a i to) h = kept_moved (count s) p (effect s p (Give a i to)) (λ k. refl)
  by_kind (SendToPool a t to) h = listed (effect s p (SendToPool a t to)) t _ refl (pool_listed s u a t to (SendToPool a t to) refl h) (send_keeps (entry_for (destination_number to)) (destination_number to) (exposed_mask s t))
  by_kind (HandToMiner a t to) h = listed (effect s p (HandToMiner a t to)) t _ refl (miner_listed s u a t to (HandToMiner a t to) refl h) (block_keeps (entry_for (destination_number to)))
  by_kind (Include a t to) h = listed (effect s p (Include a t to)) t _ refl (include_listed s u a t to (Include a t to) refl h) (λ x. block_keeps x.pool x)
  by_kind (Mine a t to) h = mine_wide s p v few e
  by_kind (Bump a t to) h = bump_moved s p v few e t

  refined_by_kind : (x : Step) → fields_right s u x ≡ true
      → Moved (count s) p (effect s p x) (refined_set s v (get_or (step_bytes x) 0 0) (changed_set v (get_or (step_bytes x) 0 0) (get_or (step_bytes x) 2 0)))
  unfolding step_bytes refined_set effect
  refined_by_kind (Share a t to) h = by_kind (Share a t to) h
  refined_by_kind (Give a i to) h = by_kind (Give a i to) h
  refined_by_kind (SendToPool a t to) h = by_kind (SendToPool a t to) h
  refined_by_kind (HandToMiner a t to) h = by_kind (HandToMiner a t to) h
  refined_by_kind (Include a t to) h = by_kind (Include a t to) h
  refined_by_kind (Mine a t to) h = mine_moved s p v few e
  refined_by_kind (Bump a t to) h = by_kind (Bump a t to) h

  -- the least member is a transaction of the sheet
  member_low : (members k : ℕ) → members < 2 ^ count s → bit members k ≡ true → k < count s
  member_low members k small h =
      split (ltb k (count s)) (λ y. ltb-true k (count s) y) (λ y. clash h (bit_above members (count s) k small (ltb-false k (count s) y)))

  lowest_low : (members : ℕ) → members < 2 ^ count s → lowest members < count s
  unfolding lowest
  lowest_low members small =
      split (ltb (count_trailing_zeros 32 members) 32)
      (λ y.
      let l = ltb-true (count_trailing_zeros 32 members) 32 y in
      rw y (member_low members (count_trailing_zeros 32 members) small (at_trailing 32 members l)))
      (λ y. rw y fit.checked.some)

  -- a step of four bytes, where r is what the code got from it
  module _ (b : FourBytes) (r : Stepped) (f : r ≡ step s u p b) (z : r.refusal ≡ 0) where
    moved : Moved (count s) p r.position (changed_set v b.kind b.transaction)
        × Moved (count s) p r.position (refined_set s v b.kind (changed_set v b.kind b.transaction))
    unfolding decode_bytes
    moved = by (step_case s u p b)
      where
        by : StepCase s u p b → Moved (count s) p r.position (changed_set v b.kind b.transaction) × Moved (count s) p r.position (refined_set s v b.kind (changed_set v b.kind b.transaction))
        by (taken x d h a g) =
            let w = (decodes s u b.kind b.party b.transaction b.destination x d).bytes in
            let k : get_or (step_bytes x) 0 0 ≡ b.kind = ap (λ (l : List ℕ). get_or l 0 0) w in
            let t : get_or (step_bytes x) 2 0 ≡ b.transaction = ap (λ (l : List ℕ). get_or l 2 0) w in
            rw (f, g, ← k, ← t) (by_kind x h, refined_by_kind x h)
        by (turned_down n m g) = clash (eq-eqb n 0 (sym (ap (λ (q : Stepped). q.refusal) (f ∙ g)) ∙ z)) m

    -- over the refined set
    pub seen_many : (members : ℕ) → members ≡ refined_set s v b.kind (changed_set v b.kind b.transaction)
        → view_joined (count s) (bit members) r.position (view_kept v members r.position) ≡ view_below s (count s) r.position
    seen_many members d = renewed_right s (count s) members p r.position v few e (rw d moved.1)

    module _ (members : ℕ) (d : members ≡ changed_set v b.kind b.transaction) where
      -- where nothing may have changed
      pub seen_none : members ≡ 0 → view_passed v r.position.mined r.position.keys ≡ view_below s (count s) r.position
      seen_none h = none_right s (count s) p r.position v e (subst (λ (m : ℕ). Moved (count s) p r.position m) (sym d ∙ h) moved.0)

      -- where one slot may
      pub seen_one : (at : ℕ) → at ≡ lowest members → removed members at ≡ 0
          → view_after v at (slot r.position at) r.position.mined r.position.keys ≡ view_below s (count s) r.position
      seen_one at i h =
          let m = subst (λ (m : ℕ). Moved (count s) p r.position m) (sym d) moved.0 in
          let l : at < count s = rw i (lowest_low members m.small) in
          one_right (count s) at few l s p r.position v e (one_member (count s) at few l p r.position members h m)
