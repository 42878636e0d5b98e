-- A set of open steps from the transactions that are tested: the others cannot be open.
-- Assumes nothing.
use Rattle.laws.proofs.Prelude.{ℕ, ◌+◌, ◌<◌, ◌≡◌, refl, sym, ◌∙◌, Bool, true, false, ◌&&◌, ◌||◌, and-false, List, eqb, leb, length, eqb-true, eqb-false, ne_eqb, arith}
use Rattle.laws.proofs.Prelude.{Bool·beq, all_below, all_at, bit_and_lem, no_bit, pick, split, clash, and_parts, beq_same, first_failing, bit, joined, set_below, set_bit}
use Rattle.laws.proofs.Prelude.{set_start, set_more}
use Rattle.position.proofs.Rules.{count, parent, accepted, step_conflict, step_parent, per_day, stealth, Slot, alice, bob, miner, destinations, is_party, Guards}
use Rattle.position.proofs.Rules.{no_transaction, success, may_send, no_conflict, has_parent, Context, may_stand, slot, block_of, since_in, Fit}
use Rattle.position.specs.declared.Position.{Position}
use Rattle.sheet.specs.Refusal.{step_pool}
use Rattle.slots.proofs.Walks.{Gap}
use Rattle.steps.specs.Conduct.{alice_shares_rule}
use Rattle.steps.specs.Forms.Conduct.{share_allowed_in, send_allowed_in, send_held_in}
use Rattle.steps.specs.Tests.{conduct_rule, bump_rule}
use Rattle.steps.specs.Forms.View.{placed_set}
use Rattle.steps.specs.Forms.Sending.{send_tests_in, pool_tests_in, miner_tests_in}
use Rattle.steps.specs.Forms.Mining.{owed_in, include_tests_in}
use Rattle.readings.specs.declared.DestinationSets.{DestinationSets}
use Rattle.readings.specs.Forms.Context.{goes_to, refusal_as, goes_set, destination_sets, destination_set, full, sharers, senders, turns_in, candidates_in}
use Rattle.position.proofs.SendTests.{since_parent_lem}
use Rattle.queries.specs.Forms.OpenSets.{is_open_step, context_of}
use Rattle.queries.proofs.OpenListed.{listed_open}
use Rattle.queries.proofs.OpenReach.{set_upto}

-- ---- the bits of all of 32, and of success alone
words : all_below 32 (λ t. bit full t && Bool·beq (bit 4 t) (eqb t success)) ≡ true
unfolding all_below bit
words = refl

word_bits : (t : ℕ) → t < 32 → (bit full t ≡ true) × (bit 4 t ≡ eqb t success)
word_bits t l =
    let w = and_parts (bit full t) _ (all_at 32 (λ k. bit full k && Bool·beq (bit 4 k) (eqb k success)) words t l) in
    (w.0, beq_same (bit 4 t) (eqb t success) w.1)

third_fails : (a b : Bool) → eqb (pick a (pick b step_pool step_parent) step_conflict) accepted ≡ false
third_fails true true = refl
third_fails true false = refl
third_fails false b = refl

-- ---- what is not tested fails a test
module _ (s u : List ℕ) (t : ℕ) (low : t < 32) where
  not_sharer : (o : Guards) (a : ℕ) → bit (sharers o a) t ≡ false → share_allowed_in o a t ≡ false
  unfolding sharers share_allowed_in alice_shares_rule
  not_sharer o a h =
      let z : eqb t no_transaction ≡ false = ne_eqb t no_transaction (λ e. omega (arith, e, low)) in
      split o.free
      (λ e. clash (word_bits t low).0 (rw e at h))
      (λ e.
      split (eqb a alice)
      (λ f.
      split (eqb o.phase 3)
      (λ q. let y : eqb t success ≡ false = sym (word_bits t low).1 ∙ (rw (e, q, f) at h) in rw (e, z, f, q, y))
      (λ q. rw (e, z, f, q)))
      (λ f. rw (e, z, f)))

  not_sender : (o : Guards) (paying : Bool) (a : ℕ) → bit (senders o) t ≡ false → send_held_in s o paying a t ≡ false
  unfolding senders send_held_in send_allowed_in may_send
  not_sender o paying a h =
      split o.free
      (λ e. clash (word_bits t low).0 (rw e at h))
      (λ e.
      split (eqb o.phase 0)
      (λ f. let z : o.phase ≡ 0 = eqb-true o.phase 0 f in rw (e, z, and-false (eqb a alice), and-false (eqb a bob)))
      (λ f. clash (word_bits t low).0 (rw (e, f) at h)))

  module _ (g : Context) (x : Slot) (since a d : ℕ) where
    not_shared : bit (sharers g.guards a) t ≡ false → eqb (refusal_as s u g x since 1 a t d) accepted ≡ false
    unfolding refusal_as first_failing conduct_rule
    not_shared h = rw (not_sharer g.guards a h)

    not_sent : bit (senders g.guards) t ≡ false → eqb (refusal_as s u g x since 3 a t d) accepted ≡ false
    unfolding refusal_as first_failing pool_tests_in send_tests_in
    not_sent h = rw (not_sender g.guards g.paying a h)

    not_handed : bit (pick (eqb (stealth u) 1) (senders g.guards) 0) t ≡ false → eqb (refusal_as s u g x since 4 a t d) accepted ≡ false
    unfolding refusal_as first_failing miner_tests_in send_tests_in
    not_handed h =
        split (eqb (stealth u) 1)
        (λ e. rw (e, not_sender g.guards g.paying a (rw e at h)))
        (λ e. rw e)

    not_included : bit g.view.pool t ≡ false → eqb (first_failing (include_tests_in s g.view g.owed t)) accepted ≡ false
    unfolding first_failing include_tests_in
    not_included h = rw h (third_fails (no_conflict s (bit (placed_set g.view)) t) (has_parent s (bit (placed_set g.view)) t))

    not_bumped : (day : ℕ) → bit g.view.pool t ≡ false → eqb (first_failing (bump_rule (owed_in s day g.view since t))) accepted ≡ false
    unfolding first_failing bump_rule owed_in
    not_bumped day h = rw h

    not_mined : (k : ℕ) → eqb k 1 ≡ false → eqb k 3 ≡ false → eqb k 4 ≡ false → bit g.view.pool t ≡ false
        → eqb (refusal_as s u g x since k a t d) accepted ≡ false
    unfolding refusal_as
    not_mined k e f q h = split (eqb k 5) (λ y. rw (e, f, q, y) (not_included h)) (λ y. rw (e, f, q, y) (not_bumped (per_day u) h))

    not_turn : (k : ℕ) → bit (turns_in u g k a) t ≡ false → eqb (refusal_as s u g x since k a t d) accepted ≡ false
    unfolding turns_in
    not_turn k h =
        split (eqb k 1)
        (λ e. rw (eqb-true k 1 e) (not_shared (rw e at h)))
        (λ e.
        split (eqb k 3)
        (λ f. rw (eqb-true k 3 f) (not_sent (rw (e, f) at h)))
        (λ f.
        split (eqb k 4)
        (λ q. rw (eqb-true k 4 q) (not_handed (rw (e, f, q) at h)))
        (λ q. not_mined k e f q (rw (e, f, q) at h))))

-- ---- a set made from those that are tested, c
-- kinds below 5 are a party's
party_of : (s : List ℕ) (k a d : ℕ) → may_stand s k a d ≡ true → leb 5 k ≡ false → is_party s a ≡ true
unfolding may_stand
party_of s k a d m h =
    split (is_party s a)
    (λ e. e)
    (λ e.
    let v = and_parts (eqb k 5 || eqb k 7) _ (and_parts (eqb a miner) _ (rw e at m)).1 in
    split (eqb k 5)
    (λ f. clash (rw (eqb-true k 5 f) refl) h)
    (λ f. let z : eqb k 7 ≡ true = rw f at v.0 in clash (rw (eqb-true k 7 z) refl) h))

module _ (s u : List ℕ) (p : Position) (k a d : ℕ) (fit : Fit s u) (few : d < destinations) (m : may_stand s k a d ≡ true) (other : k ≡ 2 → ⊥)
    (c n : ℕ) (g : Context) (w : DestinationSets) (seen : g ≡ context_of s u p a) (dests : w ≡ destination_sets s a) (tested : c ≡ candidates_in u g w k a d) (all : n ≡ count s)
  where
    module _ (t : ℕ) (low : t < n) where
      listed : t < count s
      listed = omega (arith, low, all)

      goes_bit : is_party s a ≡ true → bit (destination_set w d) t ≡ goes_to s t d
      unfolding destination_sets destination_set goes_set
      goes_bit h =
          split (eqb d 0)
          (λ e. rw (dests, h, eqb-true d 0 e) (set_bit (count s) (λ j. goes_to s j 0) fit.checked.sized.few t listed))
          (λ e.
          split (eqb d 1)
          (λ f. rw (dests, h, eqb-true d 1 f) (set_bit (count s) (λ j. goes_to s j 1) fit.checked.sized.few t listed))
          (λ f.
          split (eqb d 3)
          (λ q. rw (dests, h, eqb-true d 3 q) (set_bit (count s) (λ j. goes_to s j 3) fit.checked.sized.few t listed))
          (λ q.
          let z : d ≡ 2 = omega (arith, few, eqb-false d 0 e, eqb-false d 1 f, eqb-false d 3 q) in
          rw (dests, h, z) (set_bit (count s) (λ j. goes_to s j 2) fit.checked.sized.few t listed))))

      candidate_bit : bit c t ≡ ((leb 5 k || goes_to s t d) && bit (turns_in u g k a) t)
      unfolding candidates_in
      candidate_bit =
          split (leb 5 k)
          (λ e. rw (tested, e))
          (λ e. rw (tested, e) (bit_and_lem (destination_set w d) (turns_in u g k a) t ∙ rw (goes_bit (party_of s k a d m e))))

      pub turn_closed : bit c t ≡ false → is_open_step s u p k a t d ≡ false
      turn_closed h =
          listed_open s u p fit a t (slot p t) (block_of p (parent s t)) (λ i. (refl, refl)) listed k d few m other
          ∙ split (leb 5 k || goes_to s t d)
          (λ e.
          let z : bit (turns_in u g k a) t ≡ false = rw (candidate_bit, e) at h in
          rw (e, ← seen) (not_turn s u t (omega (arith, listed, fit.checked.sized.few)) g (slot p t) (block_of p (parent s t)) a d k z))
          (λ e. rw e)

      pub turn_open : bit c t ≡ true → (since : ℕ) (b : Bool) → length p.slots ≡ 32 → since ≡ since_in s p t
          → b ≡ eqb (refusal_as s u g (slot p t) since k a t d) accepted → b ≡ is_open_step s u p k a t d
      turn_open h since b l j f =
          let e : since ≡ block_of p (parent s t) = j ∙ since_parent_lem s p l t in
          let y : b ≡ eqb (refusal_as s u (context_of s u p a) (slot p t) since k a t d) accepted = f ∙ rw seen in
          let z : is_open_step s u p k a t d ≡ eqb (refusal_as s u (context_of s u p a) (slot p t) since k a t d) accepted =
          listed_open s u p fit a t (slot p t) since (λ q. (refl, e)) listed k d few m other
          ∙ rw (and_parts (leb 5 k || goes_to s t d) (bit (turns_in u g k a) t) (sym candidate_bit ∙ h)).0 in
          y ∙ sym z

    -- the loop: nothing more up to the next member, then whether it is open, and the end
    up_to_next : (t i f : ℕ) → Gap c t n i → f ≡ set_below t (λ j. is_open_step s u p k a j d) → f ≡ set_below i (λ j. is_open_step s u p k a j d)
    up_to_next t i f h e = e ∙ sym (set_upto i t (λ j. is_open_step s u p k a j d) h.low (λ j l o. turn_closed j (omega (arith, o, h.high)) (h.none j l o)))

    pub next_turn : (t i f r : ℕ) (b : Bool) → Gap c t n i → f ≡ set_below t (λ j. is_open_step s u p k a j d) → r ≡ joined f b i
        → b ≡ is_open_step s u p k a i d → r ≡ set_below (i + 1) (λ j. is_open_step s u p k a j d)
    next_turn t i f r b h e q y = set_more i (λ j. is_open_step s u p k a j d) f r b (up_to_next t i f h e) q y

    pub last_turn : (t f : ℕ) → Gap c t n n → f ≡ set_below t (λ j. is_open_step s u p k a j d) → f ≡ set_below (count s) (λ j. is_open_step s u p k a j d)
    last_turn t f h e = up_to_next t n f h e ∙ rw all refl

    pub none_open : c ≡ 0 → 0 ≡ set_below (count s) (λ j. is_open_step s u p k a j d)
    none_open e =
        last_turn 0 0 (record { low = omega arith; high = omega arith; none = λ j l m. rw e (no_bit j) }) (set_start (λ j. is_open_step s u p k a j d))
