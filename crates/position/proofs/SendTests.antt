-- The tests of kinds 3 and 4 over a view are those of the rules.
-- Assumes nothing.
use Rattle.laws.proofs.Prelude.{ℕ, ◌≤◌, ◌<◌, ◌≡◌, refl, sym, ap, ◌∙◌, Bool, not, List, ltb, length, ltb-false, arith, ap₂, List·getD-eq-default, split, first_failing, bit}
use Rattle.laws.proofs.Prelude.{bit_or_lem, set_below, set_bit}
use Rattle.sheet.specs.Field.{count, parent, opening}
use Rattle.sheet.specs.Setup.{per_day}
use Rattle.sheet.specs.LockHeight.{lock_height}
use Rattle.sheet.specs.Checked.{Checked}
use Rattle.slots.specs.declared.Slot.{Slot}
use Rattle.slots.specs.Slot.{empty_slot}
use Rattle.slots.specs.Conflict.{no_conflict}
use Rattle.slots.specs.Ancestry.{has_parent}
use Rattle.slots.specs.Signatures.{shared_secrets}
use Rattle.slots.specs.Deadline.{deadline}
use Rattle.slots.proofs.ConflictSets.{conflict_in_same}
use Rattle.slots.proofs.Parents.{parent_below}
use Rattle.slots.proofs.Deadlines.{deadline_by_lem}
use Rattle.slots.proofs.Since.{lock_height_since, deadline_since}
use Rattle.steps.specs.declared.View.{View}
use Rattle.steps.specs.Tests.{pool_rule, miner_rule}
use Rattle.steps.specs.Forms.Parent.{slot_above, block_above}
use Rattle.steps.specs.Forms.View.{sent_set, placed_set, keys_in, sender_in}
use Rattle.steps.specs.Forms.Sending.{send_tests_in, pool_tests_in, miner_tests_in}
use Rattle.position.specs.declared.Position.{Position}
use Rattle.position.specs.Position.{slot, in_pool, in_block, block_of, is_confirmed, sent, placed, keys, shared, sender_has, lock_height_in, deadline_in}
use Rattle.position.specs.Forms.View.{view_below, since_in}
use Rattle.position.specs.Tests.{send_tests, pool_tests, miner_tests}

-- a set m against a test that tells the same members below the count
module _ (s : List ℕ) (m : ℕ) (member : ℕ → Bool) (same : (k : ℕ) → k < count s → bit m k ≡ member k) (t : ℕ) where
  pub no_conflict_set : no_conflict s (bit m) t ≡ no_conflict s member t
  unfolding no_conflict
  no_conflict_set = ap not (conflict_in_same s (bit m) member t same)

  pub has_parent_set : Checked s → t < count s → has_parent s (bit m) t ≡ has_parent s member t
  unfolding has_parent
  has_parent_set ok l = split (opening s t) (λ y. rw y) (λ y. rw y (same (parent s t) (parent_below ok t l y)))

-- the view of all transactions of the sheet
module _ (s : List ℕ) (p : Position) where
  pub sent_bit : count s ≤ 32 → (k : ℕ) → k < count s → bit (sent_set (view_below s (count s) p)) k ≡ sent p k
  unfolding sent_set view_below sent
  sent_bit few k l =
      bit_or_lem (set_below (count s) (in_pool p)) (set_below (count s) (is_confirmed p)) k
      ∙ rw (set_bit (count s) (in_pool p) few k l, set_bit (count s) (is_confirmed p) few k l)

  pub placed_bit : count s ≤ 32 → (k : ℕ) → k < count s → bit (placed_set (view_below s (count s) p)) k ≡ placed p k
  unfolding placed_set view_below placed
  placed_bit few k l =
      bit_or_lem (set_below (count s) (in_block p)) (set_below (count s) (is_confirmed p)) k
      ∙ rw (set_bit (count s) (in_block p) few k l, set_bit (count s) (is_confirmed p) few k l)

  pub sender_view : (party t destination : ℕ) → sender_in s (view_below s (count s) p) (slot p t) party destination ≡ sender_has s p party t destination
  unfolding sender_in view_below keys_in sender_has keys shared_secrets shared
  sender_view party t destination = refl

  -- past the slots there is no block
  pub since_parent_lem : length p.slots ≡ 32 → (t : ℕ) → since_in s p t ≡ block_of p (parent s t)
  unfolding since_in block_above slot_above block_of slot
  since_parent_lem l t =
      split (ltb (parent s t) 32)
      (λ y. rw y)
      (λ y.
      rw y
      (sym
      (ap (λ (x : Slot). x.height) (List·getD-eq-default p.slots empty_slot {n = parent s t} (omega (arith, l, ltb-false (parent s t) 32 y))))))

-- over the parent's block alone
module _ (s u : List ℕ) (p : Position) (t : ℕ) where
  pub lock_height_parent : lock_height s (per_day u) (λ k. block_of p (parent s t)) t ≡ lock_height_in s u p t
  unfolding lock_height_in
  lock_height_parent = sym (lock_height_since s (per_day u) (block_of p) (block_of p (parent s t)) t refl)

  pub deadline_parent : deadline s (per_day u) (λ k. block_of p (parent s t)) t ≡ deadline_in s u p t
  unfolding deadline_in
  deadline_parent = sym (deadline_since s (per_day u) (block_of p) (block_of p (parent s t)) t refl)

module _ (allowed : Bool) (s u : List ℕ) (p : Position) (ok : Checked s) (party t destination : ℕ) (l : t < count s) where
  send_tests_lem : (m : ℕ) (member : ℕ → Bool) → ((k : ℕ) → k < count s → bit m k ≡ member k)
      → send_tests_in allowed s (per_day u) m (sender_in s (view_below s (count s) p) (slot p t) party destination) (block_of p (parent s t)) p.mined t
      ≡ send_tests allowed s u p member party t destination
  unfolding send_tests_in send_tests
  send_tests_lem m member same =
      rw (no_conflict_set s m member same t, has_parent_set s m member same t ok l, sender_view s p party t destination, lock_height_parent s u p t)

  pub pool_tests_lem : pool_tests_in allowed s u (view_below s (count s) p) (slot p t) (block_of p (parent s t)) party t destination
      ≡ pool_tests allowed s u p party t destination
  unfolding pool_tests_in pool_tests view_below
  pool_tests_lem =
      ap₂ (λ x d. pool_rule x p.mined d) (send_tests_lem (sent_set (view_below s (count s) p)) (sent p) (sent_bit s p ok.sized.few))
      (deadline_by_lem s ok.sized.few (per_day u) (block_of p (parent s t)) t l ∙ deadline_parent s u p t)

  pub miner_tests_lem : miner_tests_in allowed s u (view_below s (count s) p) (slot p t) (block_of p (parent s t)) party t destination
      ≡ miner_tests allowed s u p party t destination
  unfolding miner_tests_in miner_tests view_below
  miner_tests_lem = ap (miner_rule u) (send_tests_lem (placed_set (view_below s (count s) p)) (placed p) (placed_bit s p ok.sized.few))

  -- what the code answers, where v, since and a are what it found
  module _ (v : View) (since r : ℕ) (a : Bool) (e : v ≡ view_below s (count s) p) (f : since ≡ block_of p (parent s t)) (g : a ≡ allowed) where
    pub pool_answer : r ≡ first_failing (pool_tests_in a s u v (slot p t) since party t destination) → r ≡ first_failing (pool_tests allowed s u p party t destination)
    pool_answer h = (h ∙ rw (e, f, g)) ∙ ap first_failing pool_tests_lem

    pub miner_answer : r ≡ first_failing (miner_tests_in a s u v (slot p t) since party t destination) → r ≡ first_failing (miner_tests allowed s u p party t destination)
    miner_answer h = (h ∙ rw (e, f, g)) ∙ ap first_failing miner_tests_lem
