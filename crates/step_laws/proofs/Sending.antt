-- What the passed tests of a send tell, to the pool or to the miner.
-- Assumes nothing.
use Rattle.laws.proofs.Prelude.{ℕ, ◌≤◌, ◌<◌, ◌≡◌, refl, Bool, true, false, ◌&&◌, ◌||◌, List, ltb, ltb-true, ltb-false, leb-true, arith, and_parts, or_neither, subset_bit}
use Rattle.laws.proofs.Prelude.{passed, bit}
use Rattle.position.proofs.Rules.{count, signatures, required, Destination, SendToPool, HandToMiner, destination_number, is_party, conflict, signed, in_pool}
use Rattle.position.specs.declared.Position.{Position}
use Rattle.position.proofs.Rules.{in_block, block_of, is_confirmed, sent, placed, sender_has, lock_height_in, deadline_in, sends_to, fields_right, send_tests, pool_tests}
use Rattle.position.proofs.Rules.{miner_tests, send_allowed, paying_first, conduct_allows, step_refusal}
use Rattle.slots.proofs.Conflicts.{no_conflict_lem}
use Rattle.position.specs.StepRefusal.{tests}

-- a send of t by a party to a destination, "kind 3 or 4", that passes
pub record Sent (s u : List ℕ) (p : Position) (party t to : ℕ) : Type 0 where
  pub who : is_party s party ≡ true
  pub low : t < count s
  pub right : sends_to s party t to ≡ true
  pub allowed : send_allowed s u p party t ≡ true
  pub signs : (i : ℕ) → i < signatures s → bit (required s t) i ≡ true → bit (sender_has s p party t to) i ≡ true
  pub lock : lock_height_in s u p t ≤ p.mined
  pub free : (k : ℕ) → k < count s → conflict s k t ≡ true → block_of p k ≡ 0

unconfirmed : (p : Position) (x : Bool) (k : ℕ) → (x || is_confirmed p k) ≡ false → block_of p k ≡ 0
unfolding is_confirmed
unconfirmed p x k h = let w = ltb-false 0 (block_of p k) (or_neither x (is_confirmed p k) h).1 in omega arith

module _ (s u : List ℕ) (p : Position) (party t : ℕ) (to : Destination) where
  record Fields : Type 0 where
    who : is_party s party ≡ true
    low : t < count s
    right : sends_to s party t (destination_number to) ≡ true

  fields : (is_party s party && (ltb t (count s) && sends_to s party t (destination_number to))) ≡ true → Fields
  fields h =
      let a = and_parts (is_party s party) (ltb t (count s) && sends_to s party t (destination_number to)) h in
      let b = and_parts (ltb t (count s)) (sends_to s party t (destination_number to)) a.1 in
      record { who = a.0; low = ltb-true t (count s) b.0; right = b.1 }

  pub sent_to_pool : fields_right s u (SendToPool party t to) ≡ true → step_refusal s u p (SendToPool party t to) ≡ 0
      → Sent s u p party t (destination_number to)
  unfolding fields_right step_refusal tests pool_tests send_tests conduct_allows sent signed
  sent_to_pool f h =
      let w = fields f in
      let test = passed (tests s u p (SendToPool party t to)) refl h in
      record {
        who = w.who;
        low = w.low;
        right = w.right;
        allowed = (and_parts (send_allowed s u p party t) (paying_first s u p party t) (test 13)).0;
        signs = subset_bit (signatures s) (required s t) (sender_has s p party t (destination_number to)) (test 16);
        lock = leb-true (lock_height_in s u p t) p.mined (test 17);
        free = λ k l c. unconfirmed p (in_pool p k) k (no_conflict_lem s (sent p) t (test 14) k l c);
      }

  pub before_deadline : step_refusal s u p (SendToPool party t to) ≡ 0 → p.mined < deadline_in s u p t
  unfolding step_refusal tests pool_tests send_tests conduct_allows
  before_deadline h = ltb-true p.mined (deadline_in s u p t) (passed (tests s u p (SendToPool party t to)) refl h 18)

  pub handed_in_lem : fields_right s u (HandToMiner party t to) ≡ true → step_refusal s u p (HandToMiner party t to) ≡ 0
      → Sent s u p party t (destination_number to)
  unfolding fields_right step_refusal tests miner_tests send_tests conduct_allows placed signed
  handed_in_lem f h =
      let w = fields f in
      let test = passed (tests s u p (HandToMiner party t to)) refl h in
      record {
        who = w.who;
        low = w.low;
        right = w.right;
        allowed = (and_parts (send_allowed s u p party t) (paying_first s u p party t) (test 13)).0;
        signs = subset_bit (signatures s) (required s t) (sender_has s p party t (destination_number to)) (test 16);
        lock = leb-true (lock_height_in s u p t) p.mined (test 17);
        free = λ k l c. unconfirmed p (in_block p k) k (no_conflict_lem s (placed p) t (test 14) k l c);
      }
