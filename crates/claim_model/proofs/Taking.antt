-- Who can take coin B: with lock_B confirmed and both secrets at hand a party's send of spend_B to the pool passes.
-- Assumes nothing.
use Rattle.laws.proofs.Prelude.{ℕ, ◌<◌, ◌≡◌, refl, sym, ap, ◌∙◌, Bool, true, false, not, ◌&&◌, List, ◌⊎◌, eqb, eqb-true, lt-ltb, le-leb, arith, clash, and_parts}
use Rattle.laws.proofs.Prelude.{or_right, fails_by, any_all_false, zero_or_one, first_failing, bit}
use Rattle.position.proofs.Rules.{count, required, never, lock_height, accepted, saswap, per_day, conduct, Destination, Alice, Bob, SendToPool, has_parent, conflict}
use Rattle.position.proofs.Rules.{conflict_in, no_conflict, deadline, alice, bob, destination_number, signed, Some, may_send, secret_alice, secret_bob, lock_b, spend_b}
use Rattle.position.specs.declared.Position.{Position}
use Rattle.position.proofs.Rules.{in_pool, pool_to, block_to, block_of, is_confirmed, confirmed_to, sent, holds, sender_has, lock_height_in, deadline_in, is_open}
use Rattle.position.specs.declared.Stepped.{Stepped}
use Rattle.position.proofs.Rules.{is_careful, phase, secret_safe, safe_to_send, send_allowed, paying_first, conduct_allows, step_refusal, send_tests, pool_tests, effect, FourBytes}
use Rattle.position.proofs.Rules.{decode_bytes, take_decoded, step}
use Rattle.slots.proofs.Entered.{pooled}
use Rattle.position.specs.StepRefusal.{tests}
use Rattle.position.proofs.Opened.{opened}
use Rattle.position.proofs.StepCases.{accepts}
use Rattle.step_laws.proofs.Provenance.{Stands}
use Rattle.claim_ledger.proofs.Sound.{Sound}
use Rattle.claim_careful.proofs.Places.{block_stands, confirmed_stands, rightful, payee_to}
use Rattle.claim_careful.proofs.Setting.{sheet, two_parties}
use Rattle.claim_careful.proofs.Table.{rule, spend_b_pays}
use Rattle.claim_model.specs.Claim.{Takes}
use Rattle.claim_model.proofs.AnySheets.{has_block}

pub confirmed_at : (p : Position) (t : ℕ) → 0 < block_of p t → is_confirmed p t ≡ true
unfolding is_confirmed
confirmed_at p t h = lt-ltb 0 (block_of p t) h

-- "Phase 3: lock_B confirmed"
pub in_three : (p : Position) → 0 < block_of p lock_b → phase p ≡ 3
unfolding phase
in_three p h = rw (confirmed_at p lock_b h)

-- spend_B on the sheet: its one rival is itself, its parent lock_B; it has no lock and no deadline
alone : (d k : ℕ) → k < count (saswap d) → conflict (saswap d) k spend_b ≡ true → k ≡ spend_b
unfolding opened
alone d k l h = eqb-true k spend_b (rule d (λ t. conflict (saswap d) t spend_b) (λ t. eqb t spend_b) refl k l h)

below_B : (d : ℕ) (member : ℕ → Bool) → has_parent (saswap d) member spend_b ≡ member lock_b
unfolding opened
below_B d member = refl

no_lock : (d : ℕ) (block : ℕ → ℕ) → lock_height (saswap d) d block spend_b ≡ 0
unfolding opened
no_lock d block = refl

no_deadline : (d : ℕ) (block : ℕ → ℕ) → deadline (saswap d) d block spend_b ≡ never
unfolding opened
no_deadline d block = refl

-- four bytes
send : ℕ → FourBytes
send party = record { kind = 3; party = party; transaction = spend_b; destination = party }

reads : (d : ℕ) (u : List ℕ)
    → (decode_bytes (saswap d) u (send alice) ≡ Some (SendToPool alice spend_b Alice))
    × (decode_bytes (saswap d) u (send bob) ≡ Some (SendToPool bob spend_b Bob))
unfolding opened send
reads d u = (refl, refl)

-- conduct
module _ (u : List ℕ) (c : conduct u ≡ 2) (p : Position) (l : 0 < block_of p lock_b) where
  paying : (party : ℕ) → paying_first (sheet u) u p party spend_b ≡ true
  unfolding paying_first is_careful
  paying party = rw (c, spend_b_pays (per_day u), paying_first)

  may : (party : ℕ) → may_send 3 party spend_b ≡ true → safe_to_send (sheet u) p party spend_b ≡ true → send_allowed (sheet u) u p party spend_b ≡ true
  unfolding send_allowed is_open is_careful
  may party m k = rw (c, in_three p l, m, k)

  safe_alice : safe_to_send (sheet u) p alice spend_b ≡ true
  unfolding safe_to_send secret_safe
  safe_alice = or_right (not (bit (required (sheet u) spend_b) secret_alice)) _ (or_right (not (holds p alice secret_bob)) true refl)

  safe_bob : safe_to_send (sheet u) p bob spend_b ≡ true
  unfolding safe_to_send
  safe_bob = refl

  free : sent p spend_b ≡ false → no_conflict (sheet u) (sent p) spend_b ≡ true
  unfolding no_conflict conflict_in
  free n =
      let s = sheet u in
      rw
      (any_all_false (count s) (λ k. conflict s k spend_b && sent p k)
      (λ k i.
      fails_by (conflict s k spend_b && sent p k)
      (λ y.
      let w = and_parts (conflict s k spend_b) (sent p k) y in
      clash w.1 (ap (sent p) (alone (per_day u) k i w.0) ∙ n))))

  has_parent_lem : has_parent (sheet u) (sent p) spend_b ≡ true
  unfolding sent
  has_parent_lem = below_B (per_day u) (sent p) ∙ or_right (in_pool p lock_b) (is_confirmed p lock_b) (confirmed_at p lock_b l)

  module _ (g : Sound (sheet u) u p) where
    -- all six tests pass
    passes : (party : ℕ) (to : Destination) → destination_number to ≡ party → may_send 3 party spend_b ≡ true → safe_to_send (sheet u) p party spend_b ≡ true
        → signed (sheet u) (sender_has (sheet u) p party spend_b party) spend_b ≡ true → sent p spend_b ≡ false
        → step_refusal (sheet u) u p (SendToPool party spend_b to) ≡ 0
    unfolding step_refusal tests pool_tests send_tests conduct_allows first_failing lock_height_in deadline_in
    passes party to e m k h n =
        rw (
          e,
          may party m k,
          paying party,
          free n,
          has_parent_lem,
          no_lock (per_day u) (block_of p),
          le-leb 0 p.mined (omega arith),
          h,
          no_deadline (per_day u) (block_of p),
          lt-ltb p.mined never (omega (arith, g.settled.limit)),
        )

    pub alice_sends : signed (sheet u) (sender_has (sheet u) p alice spend_b alice) spend_b ≡ true → sent p spend_b ≡ false
        → (step (sheet u) u p (record { kind = 3; party = alice; transaction = spend_b; destination = alice })).refusal ≡ accepted
    unfolding step take_decoded send destination_number may_send
    alice_sends h n =
        let s = sheet u in
        let x = SendToPool alice spend_b Alice in
        let z = passes alice Alice refl refl safe_alice h n in
        rw (reads (per_day u) u).0 (ap (λ (r : Stepped). r.refusal) (sym (accepts s u p x 0 (effect s p x) (sym z) refl refl)))

    pub bob_sends : signed (sheet u) (sender_has (sheet u) p bob spend_b bob) spend_b ≡ true → sent p spend_b ≡ false
        → (step (sheet u) u p (record { kind = 3; party = bob; transaction = spend_b; destination = bob })).refusal ≡ accepted
    unfolding step take_decoded send destination_number may_send
    bob_sends h n =
        let s = sheet u in
        let x = SendToPool bob spend_b Bob in
        let z = passes bob Bob refl refl safe_bob h n in
        rw (reads (per_day u) u).1 (ap (λ (r : Stepped). r.refusal) (sym (accepts s u p x 0 (effect s p x) (sym z) refl refl)))

    -- where spend_B stands it is one party's
    of_one : (e : ℕ) → Stands p spend_b e → (e ≡ alice) ⊎ (e ≡ bob)
    of_one e h =
        let r = payee_to (sheet u) spend_b e (spend_b_pays (per_day u)) (rightful (sheet u) u p g spend_b e h) in
        zero_or_one e (two_parties u e r.0)

    pub taken_by : (party : ℕ)
        → (sent p spend_b ≡ false → (step (sheet u) u p (record { kind = 3; party = party; transaction = spend_b; destination = party })).refusal ≡ accepted)
        → ((e : ℕ) → Stands p spend_b e → (e ≡ alice) ⊎ (e ≡ bob) → e ≡ party)
        → Takes (sheet u) u p party
    unfolding in_pool pool_to
    taken_by party now own =
        let at : (e : ℕ) → Stands p spend_b e → e ≡ party = λ e h. own e h (of_one e h) in
        record {
          now = now;
          in_pool_lem = λ h. at (pool_to p spend_b) (pooled h refl);
          in_block_lem = λ h. at (block_to p spend_b) (block_stands p spend_b (block_to p spend_b) h refl);
          in_chain = λ h. at (confirmed_to p spend_b) (confirmed_stands p spend_b (confirmed_to p spend_b) (has_block (sheet u) u p g spend_b h) refl);
        }
