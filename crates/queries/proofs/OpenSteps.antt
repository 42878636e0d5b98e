-- The refusal of a step over what is the same for all steps of its actor is that of the rules.
-- Assumes nothing.
use Rattle.laws.proofs.Prelude.{ℕ, ◌<◌, ◌≡◌, refl, sym, ap, ◌∙◌, Bool, true, false, not, ◌&&◌, and-false, List, [], ◌∷◌, eqb, get_or, eqb-true, eqb-false, not-true}
use Rattle.laws.proofs.Prelude.{not-false, arith, split, and_parts, any_all_false, first_failing}
use Rattle.position.proofs.Rules.{count, parent, conduct, stealth, Slot, Destination, Step, Share, Give, SendToPool, HandToMiner, Include, Mine, Bump, alice, bob}
use Rattle.position.proofs.Rules.{destination_number, is_party, is_payee, Option, Some, None, View, Guards, no_transaction, fields_right, decode, step_bytes, may_send}
use Rattle.position.proofs.Rules.{keys_in, share_new_in, refusal_in, slot, block_of, keys, holds, marked, view_below, share_met, share_tests, give_met, give_tests}
use Rattle.position.specs.declared.Position.{Position}
use Rattle.position.proofs.Rules.{send_tests, pool_tests, miner_tests, bump_tests, is_open, is_careful, phase, can_pay, send_allowed, paying_passes, paying_first, conduct_allows}
use Rattle.position.proofs.Rules.{first_shares_made, any_owed, Fit, step_refusal}
use Rattle.steps.specs.Forms.Conduct.{send_held_in}
use Rattle.steps.specs.Forms.Sharing.{share_met_in}
use Rattle.readings.specs.Forms.Context.{is_open_in}
use Rattle.steps.proofs.RightFields.{share_listed, pool_listed, miner_listed, include_listed, bump_listed}
use Rattle.position.specs.Forms.Guards.{guards}
use Rattle.position.specs.StepRefusal.{tests}
use Rattle.queries.specs.Forms.OpenSets.{is_open_read, is_open_step, is_paying, context_of}
use Rattle.position.proofs.Decoding.{decodes}
use Rattle.position.proofs.Guards.{careful_guards, share_guards, give_guards, held_guards}
use Rattle.position.proofs.SendTests.{pool_tests_lem, miner_tests_lem}
use Rattle.position.proofs.MineTests.{owed_view, include_tests_lem, mine_tests_lem}

module _ (s u : List ℕ) (p : Position) (fit : Fit s u) (actor t : ℕ) (x : Slot) (since : ℕ) where
  give_seen : (to : Destination) → refusal_in s u (context_of s u p actor) x since (Give actor t to) ≡ step_refusal s u p (Give actor t to)
  unfolding refusal_in step_refusal tests conduct_allows give_tests give_met holds keys_in keys view_below context_of
  give_seen to = rw (give_guards s u p actor t)

  mine_seen : (to : Destination) → refusal_in s u (context_of s u p actor) x since (Mine actor t to) ≡ step_refusal s u p (Mine actor t to)
  unfolding refusal_in step_refusal tests context_of
  mine_seen to = ap first_failing (mine_tests_lem s u p fit.checked)

  -- conduct on sending, for a party
  held_seen : is_party s actor ≡ true → send_held_in s (guards s u p) (is_paying s u p actor) actor t ≡ (send_allowed s u p actor t && paying_first s u p actor t)
  unfolding is_paying
  held_seen h = held_guards s u p (is_paying s u p actor) actor t (rw h)

  -- where x is the slot of t and `since` its parent's block, if t is of the sheet
  module _ (place : t < count s → (x ≡ slot p t) × (since ≡ block_of p (parent s t))) where
    new_seen : (d : ℕ) → ((t ≡ 255 → ⊥) → t < count s) → share_new_in s (context_of s u p actor) x actor t d ≡ share_met s p actor t d
    unfolding share_new_in share_met context_of share_met_in marked view_below keys_in keys
    new_seen d l = split (eqb t no_transaction) (λ y. rw y) (λ y. rw (y, (place (l (eqb-false t no_transaction y))).0))

    share_seen : (to : Destination) → fields_right s u (Share actor t to) ≡ true
        → refusal_in s u (context_of s u p actor) x since (Share actor t to) ≡ step_refusal s u p (Share actor t to)
    unfolding refusal_in step_refusal tests conduct_allows share_tests context_of
    share_seen to h =
        rw (share_guards s u p actor t, new_seen (destination_number to) (share_listed s u actor t to (Share actor t to) refl h))

    pool_seen : (to : Destination) → fields_right s u (SendToPool actor t to) ≡ true
        → refusal_in s u (context_of s u p actor) x since (SendToPool actor t to) ≡ step_refusal s u p (SendToPool actor t to)
    unfolding refusal_in step_refusal tests conduct_allows context_of fields_right
    pool_seen to h =
        let l = pool_listed s u actor t to (SendToPool actor t to) refl h in
        rw ((place l).0, (place l).1, held_seen (and_parts (is_party s actor) _ h).0)
        (ap first_failing (pool_tests_lem (send_allowed s u p actor t && paying_first s u p actor t) s u p fit.checked actor t (destination_number to) l))

    miner_seen : (to : Destination) → fields_right s u (HandToMiner actor t to) ≡ true
        → refusal_in s u (context_of s u p actor) x since (HandToMiner actor t to) ≡ step_refusal s u p (HandToMiner actor t to)
    unfolding refusal_in step_refusal tests conduct_allows context_of fields_right
    miner_seen to h =
        let l = miner_listed s u actor t to (HandToMiner actor t to) refl h in
        rw ((place l).0, (place l).1, held_seen (and_parts (is_party s actor) _ h).0)
        (ap first_failing (miner_tests_lem (send_allowed s u p actor t && paying_first s u p actor t) s u p fit.checked actor t (destination_number to) l))

    include_seen : (to : Destination) → fields_right s u (Include actor t to) ≡ true
        → refusal_in s u (context_of s u p actor) x since (Include actor t to) ≡ step_refusal s u p (Include actor t to)
    unfolding refusal_in step_refusal tests context_of
    include_seen to h =
        ap first_failing (include_tests_lem s u p fit.checked t (include_listed s u actor t to (Include actor t to) refl h))

    bump_seen : (to : Destination) → fields_right s u (Bump actor t to) ≡ true
        → refusal_in s u (context_of s u p actor) x since (Bump actor t to) ≡ step_refusal s u p (Bump actor t to)
    unfolding refusal_in step_refusal tests context_of bump_tests
    bump_seen to h =
        let l = bump_listed s u actor t to (Bump actor t to) refl h in
        rw ((place l).1, owed_view s u p fit.checked.sized.few t l)

-- of four bytes: a give, kind 2, needs no slot
module _ (s u : List ℕ) (p : Position) (fit : Fit s u) (kind actor t d : ℕ) (x : Slot) (since : ℕ)
    (place : (kind ≡ 2 → ⊥) → t < count s → (x ≡ slot p t) × (since ≡ block_of p (parent s t))) where
  step_seen : (y : Step) → step_bytes y ≡ kind ∷ actor ∷ t ∷ d ∷ [] → fields_right s u y ≡ true
      → refusal_in s u (context_of s u p actor) x since y ≡ step_refusal s u p y
  unfolding step_bytes
  step_seen (Share a b to) e h =
      let k : 1 ≡ kind = ap (λ l. get_or l 0 0) e in
      let m : a ≡ actor = ap (λ l. get_or l 1 0) e in
      let n : b ≡ t = ap (λ l. get_or l 2 0) e in
      rw (m, n) (share_seen s u p fit actor t x since (place (λ z. omega (arith, k, z))) to (rw (m, n) at h))
  step_seen (Give a b to) e h =
      let m : a ≡ actor = ap (λ l. get_or l 1 0) e in
      let n : b ≡ t = ap (λ l. get_or l 2 0) e in
      rw (m, n) (give_seen s u p fit actor t x since to)
  step_seen (SendToPool a b to) e h =
      let k : 3 ≡ kind = ap (λ l. get_or l 0 0) e in
      let m : a ≡ actor = ap (λ l. get_or l 1 0) e in
      let n : b ≡ t = ap (λ l. get_or l 2 0) e in
      rw (m, n) (pool_seen s u p fit actor t x since (place (λ z. omega (arith, k, z))) to (rw (m, n) at h))
  step_seen (HandToMiner a b to) e h =
      let k : 4 ≡ kind = ap (λ l. get_or l 0 0) e in
      let m : a ≡ actor = ap (λ l. get_or l 1 0) e in
      let n : b ≡ t = ap (λ l. get_or l 2 0) e in
      rw (m, n) (miner_seen s u p fit actor t x since (place (λ z. omega (arith, k, z))) to (rw (m, n) at h))
  step_seen (Include a b to) e h =
      let k : 5 ≡ kind = ap (λ l. get_or l 0 0) e in
      let m : a ≡ actor = ap (λ l. get_or l 1 0) e in
      let n : b ≡ t = ap (λ l. get_or l 2 0) e in
      rw (m, n) (include_seen s u p fit actor t x since (place (λ z. omega (arith, k, z))) to (rw (m, n) at h))
  step_seen (Mine a b to) e h =
      let m : a ≡ actor = ap (λ l. get_or l 1 0) e in
      let n : b ≡ t = ap (λ l. get_or l 2 0) e in
      rw (m, n) (mine_seen s u p fit actor t x since to)
  step_seen (Bump a b to) e h =
      let k : 7 ≡ kind = ap (λ l. get_or l 0 0) e in
      let m : a ≡ actor = ap (λ l. get_or l 1 0) e in
      let n : b ≡ t = ap (λ l. get_or l 2 0) e in
      rw (m, n) (bump_seen s u p fit actor t x since (place (λ z. omega (arith, k, z))) to (rw (m, n) at h))

  read_seen : (y : Option Step) → decode s u kind actor t d ≡ y → is_open_in s u (context_of s u p actor) x since y ≡ is_open_read s u p y
  unfolding is_open_in is_open_read
  read_seen (Some y) e = let w = decodes s u kind actor t d y e in rw (step_seen y w.bytes w.fields)
  read_seen None e = refl

  pub open_seen : is_open_in s u (context_of s u p actor) x since (decode s u kind actor t d) ≡ is_open_step s u p kind actor t d
  unfolding is_open_step
  open_seen = read_seen (decode s u kind actor t d) refl

-- ---- what is the same for all steps of the actor, from its parts
module _ (s u : List ℕ) (p : Position) (o : Guards) (actor : ℕ) where
  pub kept_no_party : (b : Bool) → b ≡ is_party s actor → not b ≡ true → false ≡ is_paying s u p actor
  unfolding is_paying
  kept_no_party b e h = rw (sym e ∙ not-true b h)

  -- in phase 0 a careful party can pay nothing
  no_send : is_careful u ≡ true → (guards s u p).phase ≡ 0 → (t : ℕ) → send_allowed s u p actor t ≡ false
  unfolding is_careful guards is_open send_allowed may_send
  no_send h z t =
      let e = eqb-true (conduct u) 2 h in
      let f : phase p ≡ 0 = rw e at z in
      rw (e, f, and-false (eqb actor alice), and-false (eqb actor bob))

  no_pay : is_careful u ≡ true → (guards s u p).phase ≡ 0 → can_pay s u p actor ≡ false
  unfolding can_pay paying_passes first_failing pool_tests miner_tests send_tests
  no_pay h z =
      any_all_false (count s) _
      (λ t l. split (is_payee s t actor)
      (λ y. split (eqb (stealth u) 1) (λ v. rw (y, no_send h z t, v)) (λ v. rw (y, no_send h z t, v)))
      (λ y. rw y))

  module _ (read : o ≡ guards s u p) where
    careful_read : o.careful ≡ is_careful u
    careful_read = rw read (careful_guards s u p)

    pub kept_not_careful : not o.careful ≡ true → false ≡ is_paying s u p actor
    unfolding is_paying
    kept_not_careful h = rw (sym careful_read ∙ not-true o.careful h) (sym (and-false (is_party s actor)))

    pub kept_if_paid : (b c : Bool) → c ≡ is_party s actor → not c ≡ false → not o.careful ≡ false → b ≡ can_pay s u p actor → b ≡ is_paying s u p actor
    unfolding is_paying
    kept_if_paid b c i l f e = rw (sym i ∙ not-false c l, sym careful_read ∙ not-false o.careful f) e

    pub kept_phase : not o.careful ≡ false → o.phase ≡ 0 → false ≡ is_paying s u p actor
    unfolding is_paying
    kept_phase f z = rw (no_pay (sym careful_read ∙ not-false o.careful f) (rw read at z), and-false (is_careful u), and-false (is_party s actor))

    pub context_made : (v : View) (paying any made : Bool) → v ≡ view_below s (count s) p → paying ≡ is_paying s u p actor → any ≡ any_owed s u p
        → made ≡ first_shares_made p actor → record { view = v; guards = o; paying = paying; owed = any; made = made } ≡ context_of s u p actor
    unfolding context_of
    context_made v paying any made a b c d = rw (a, b, c, d, read)
