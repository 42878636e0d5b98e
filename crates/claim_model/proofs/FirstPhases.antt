-- Under careful conduct both first shares are made exactly if their signatures are in shared knowledge: document 01's phase 1 is 001's.
-- Assumes nothing.
use Rattle.laws.proofs.Prelude.{ℕ, ◌-◌, ◌<◌, ◌≡◌, refl, sym, ap, ◌∙◌, fun_ext, Bool, true, false, not, ◌&&◌, ◌||◌, and-false, false≢true, List, [], ◌∷◌, eqb, ltb, leb}
use Rattle.laws.proofs.Prelude.{eqb-true, eqb-false, ltb-true, not-true, arith, bit_and, split, either, clash, and_parts, or_parts, or_right, fails_by, any_below, any_some}
use Rattle.laws.proofs.Prelude.{bit_and_lem, bit_or_lem, zero_or_one, passed, every, bit, without}
use Rattle.position.proofs.Rules.{count, secrets, required, saswap, per_day, conduct, Destination, Slot, Step, Share, Give, SendToPool, HandToMiner, Include, Mine, Bump}
use Rattle.position.proofs.Rules.{alice, bob, contract, destination_number, share_mask, shared_for, with_shared, marked_for, with_mark, may_send, no_transaction, fields_right}
use Rattle.position.proofs.Rules.{lock_a, lock_b, success, start, in_pool, in_block, block_of, is_confirmed, shared, keys, holds, marked, first_shares}
use Rattle.position.specs.declared.Position.{Position}
use Rattle.position.proofs.Rules.{first_shares_made, phase, is_careful, alice_shares, may_share, alice_gives, bob_gives, may_give, safe_to_send, send_allowed, conduct_allows}
use Rattle.position.proofs.Rules.{waiting, owed, share_met, share_tests, give_met, give_tests, include_tests, mine_tests, bump_tests, step_refusal, share_one, share_each}
use Rattle.position.proofs.Rules.{after_share, effect}
use Rattle.sheet.specs.Field.{is_party}
use Rattle.slots.proofs.SharedBits.{shared_kept, shared_mark}
use Rattle.position.specs.Tests.{block_met}
use Rattle.position.specs.StepRefusal.{tests}
use Rattle.position.proofs.Changed.{one_other}
use Rattle.position.proofs.Opened.{opened}
use Rattle.position.proofs.Starts.{start_slot}
use Rattle.step_laws.proofs.Moved.{moved}
use Rattle.step_laws.proofs.Provenance.{Moved}
use Rattle.step_laws.proofs.Sending.{sent_to_pool, handed_in_lem}
use Rattle.claim_ledger.proofs.Sound.{Sound}
use Rattle.claim_careful.proofs.Invariant.{Invariant}
use Rattle.claim_careful.proofs.Places.{Anywhere, pool_anywhere, block_anywhere, confirmed_anywhere, nothing_entered}
use Rattle.claim_careful.proofs.Setting.{sheet, allowed, two_parties}
use Rattle.claim_careful.proofs.Traced.{stays_shown}
use Rattle.claim_model.specs.Words.{all_shared, both_shared}
use Rattle.claim_model.proofs.Exposed.{Exposed}
use Rattle.claim_model.proofs.Marks.{mark_set, mark_kept, mark_other, shared_marks, each_makes, each_same, each_from, is_share, other_marks}

-- both first shares made, by their marks
abbrev pub both_made : Position → Bool
both_made p = first_shares_made p alice && first_shares_made p bob

-- a party's signature has the party's number: sig_alice is 0, sig_bob 1
abbrev shares : Position → ℕ → Bool
shares p party = all_shared p party (first_shares party)

pub record Marked (p : Position) : Type 0 where
  pub own : (party : ℕ) → party < 2 → holds p party party ≡ true
  pub shown : (party : ℕ) → party < 2 → first_shares_made p party ≡ true → shares p party ≡ true
  pub made : both_made p ≡ false → (party : ℕ) → party < 2 → shares p party ≡ true → first_shares_made p party ≡ true
  pub entered : (t : ℕ) → Anywhere p t → both_made p ≡ true

-- tests over a list
every_more : (f g : ℕ → Bool) (l : List ℕ) → ((t : ℕ) → f t ≡ true → g t ≡ true) → every f l ≡ true → every g l ≡ true
unfolding every
every_more f g [] h e = refl
every_more f g (t ∷ l) h e = let w = and_parts (f t) (every f l) e in rw (h t w.0, every_more f g l h w.1)

every_same : (f g if : ℕ → Bool) (l : List ℕ) → every if l ≡ true → ((t : ℕ) → if t ≡ true → f t ≡ g t) → every f l ≡ every g l
unfolding every
every_same f g if [] e h = refl
every_same f g if (t ∷ l) e h = let w = and_parts (if t) (every if l) e in rw (h t w.0, every_same f g if l w.1 h)

-- a party's first shares: transactions of the sheet that need its signature, success not among them
unfoldable leads : ℕ → ℕ → ℕ → Bool
leads d party t =
    ltb t 32 && (not (eqb t success) && (bit (required (saswap d) t) party && bit (255 - secrets (saswap d)) party))

firsts : (d party : ℕ) → party < 2 → every (leads d party) (first_shares party) ≡ true
unfolding opened leads
firsts d party l = either (zero_or_one party l) (λ e. rw e refl) (λ e. rw e refl)

record Leads (d party t : ℕ) : Type 0 where
  low : t < 32
  other : eqb t success ≡ false
  needs : bit (required (saswap d) t) party ≡ true
  plain : bit (255 - secrets (saswap d)) party ≡ true

leads_parts : (d party t : ℕ) → leads d party t ≡ true → Leads d party t
unfolding leads
leads_parts d party t h =
    let a = and_parts (ltb t 32) _ h in
    let b = and_parts (not (eqb t success)) _ a.1 in
    let e = and_parts (bit (required (saswap d) t) party) (bit (255 - secrets (saswap d)) party) b.1 in
    record { low = ltb-true t 32 a.0; other = not-true (eqb t success) b.0; needs = e.0; plain = e.1 }

own_share : (d party t held : ℕ) → leads d party t ≡ true → bit held party ≡ true → bit (share_mask (saswap d) held t) party ≡ true
unfolding share_mask without
own_share d party t held h k =
    let w = leads_parts d party t h in
    bit_and_lem (bit_and held (required (saswap d) t)) (255 - secrets (saswap d)) party
    ∙ rw (bit_and_lem held (required (saswap d) t) party, k, w.needs, w.plain)

-- a share for the contract shows what is in it
shows_share : (party m : ℕ) (x : Slot) (i : ℕ) → bit m i ≡ true → bit (shared_for (with_mark party contract (with_shared contract m x)) contract) i ≡ true
unfolding shared_for with_mark with_shared
shows_share party m x i h = bit_or_lem x.contract m i ∙ or_right (bit x.contract i) (bit m i) h

keeps_share : (party m : ℕ) (x : Slot) (i : ℕ) → bit (shared_for x contract) i ≡ true → bit (shared_for (with_mark party contract (with_shared contract m x)) contract) i ≡ true
keeps_share party m x i h = rw (shared_mark party contract (with_shared contract m x) contract) (shared_kept contract m x contract i (omega arith) h)

module _ (u : List ℕ) (c : conduct u ≡ 2) (p : Position) (w : Marked p) where
  -- from phase 1 on both are made
  late_made : (phase p ≡ 0 → ⊥) → both_made p ≡ true
  unfolding phase is_confirmed
  late_made n =
      split (is_confirmed p lock_b)
      (λ y. w.entered lock_b (confirmed_anywhere p lock_b (ltb-true 0 (block_of p lock_b) y)))
      (λ y.
      split (is_confirmed p lock_a)
      (λ z. w.entered lock_a (confirmed_anywhere p lock_a (ltb-true 0 (block_of p lock_a) z)))
      (λ z. split (both_made p) (λ m. m) (λ m. absurd (n (rw (y, z, m))))))

  sends_made : (party t : ℕ) → send_allowed (sheet u) u p party t ≡ true → both_made p ≡ true
  unfolding send_allowed may_send
  sends_made party t h =
      late_made
      (λ e.
      let x = may_send (phase p) party t && (not (is_careful u) || safe_to_send (sheet u) p party t) in
      let a = (and_parts (may_send (phase p) party t) (not (is_careful u) || safe_to_send (sheet u) p party t) (allowed u c x h)).0 in
      false≢true (sym (none party t) ∙ (rw e at a)))
    where
      none : (party t : ℕ) → may_send 0 party t ≡ false
      none party t = rw (and-false (eqb party alice), and-false (eqb party bob))

  gives_made : (party i : ℕ) → may_give (sheet u) u p party i ≡ true → both_made p ≡ true
  unfolding may_give alice_gives bob_gives
  gives_made party i h =
      late_made
      (λ e.
      either (or_parts (eqb party alice && alice_gives (sheet u) u p i) (eqb party bob && bob_gives (sheet u) u p i) h)
      (λ y. false≢true (rw e at (and_parts (eqb (phase p) 3) _ (and_parts (eqb party alice) _ y).1).0))
      (λ y. false≢true (rw e at (and_parts (leb 2 (phase p)) _ (and_parts (eqb party bob) _ y).1).0)))

  -- every step but a share comes then
  made_before : (x : Step) → is_share x ≡ false → fields_right (sheet u) u x ≡ true → step_refusal (sheet u) u p x ≡ 0 → both_made p ≡ true
  unfolding is_share step_refusal tests give_tests conduct_allows include_tests mine_tests bump_tests block_met owed waiting is_confirmed
  made_before (Share party t to) n f h = clash refl n
  made_before (Give party i to) n f h =
      let a = may_give (sheet u) u p party i in
      gives_made party i (allowed u c a (and_parts _ (give_met p party i (destination_number to)) (passed (tests (sheet u) u p (Give party i to)) refl h 13)).0)
  made_before (SendToPool party t to) n f h = sends_made party t (sent_to_pool (sheet u) u p party t to f h).allowed
  made_before (HandToMiner party t to) n f h = sends_made party t (handed_in_lem (sheet u) u p party t to f h).allowed
  made_before (Include party t to) n f h = w.entered t (pool_anywhere p t (passed (tests (sheet u) u p (Include party t to)) refl h 19))
  made_before (Mine party t to) n f h =
      either (or_parts (any_below (count (sheet u)) (in_block p)) (is_confirmed p 0) (passed (tests (sheet u) u p (Mine party t to)) refl h 22))
      (λ y. let k = any_some (count (sheet u)) (in_block p) y in w.entered k.0 (block_anywhere p k.0 k.2))
      (λ y. w.entered 0 (confirmed_anywhere p 0 (ltb-true 0 (block_of p 0) y)))
  made_before (Bump party t to) n f h =
      w.entered t
      (pool_anywhere p t (and_parts (in_pool p t) _ (and_parts (in_pool p t && not (in_block p t)) _ (passed (tests (sheet u) u p (Bump party t to)) refl h 21)).0).0)

-- in phase 0 they are not both made
unmade : (p : Position) → phase p ≡ 0 → both_made p ≡ false
unfolding phase
unmade p z =
    fails_by (both_made p)
    (λ m.
    split (is_confirmed p lock_b)
    (λ x. omega (arith, rw x at z))
    (λ x. split (is_confirmed p lock_a) (λ y. omega (arith, rw (x, y) at z)) (λ y. omega (arith, rw (x, y, m) at z))))

-- ---- an accepted step keeps this
-- shared signatures stay
more_shared : (u : List ℕ) (p q : Position) → Moved (sheet u) u p q → (party : ℕ) → shares p party ≡ true → shares q party ≡ true
unfolding all_shared
more_shared u p q m party h =
    every_more (λ t. bit (shared p t contract) party) (λ t. bit (shared q t contract) party) (first_shares party) (λ t. stays_shown u p q m t party) h

module _ (u : List ℕ) (c : conduct u ≡ 2) (p : Position) (g : Sound (sheet u) u p) (j : Invariant u p) (e : Exposed u p) (w : Marked p) where
  -- where both are made before and after
  module _ (q : Position) (m : Moved (sheet u) u p q) where
    still : both_made q ≡ true → ((party : ℕ) → party < 2 → first_shares_made q party ≡ first_shares_made p party) → Marked q
    still b same =
        record {
          own = λ party l. m.keys_kept party party (w.own party l);
          shown = λ party l h. more_shared u p q m party (w.shown party l (sym (same party l) ∙ h));
          made = λ n. clash b n;
          entered = λ t h. b;
        }

  -- ---- a step that is no share
  next_other : (x : Step) → is_share x ≡ false → fields_right (sheet u) u x ≡ true → step_refusal (sheet u) u p x ≡ 0 → Marked (effect (sheet u) p x)
  unfolding first_shares_made
  next_other x n f h =
      let s = sheet u in
      let q = effect s p x in
      let same : (party : ℕ) → first_shares_made q party ≡ first_shares_made p party =
      λ party. ap (λ (r : ℕ → Bool). every r (first_shares party)) (fun_ext (λ t. other_marks s p party contract x n t)) in
      still q (moved s u p x f h) (rw (same alice, same bob) (made_before u c p w x n f h)) (λ party l. same party)

  -- ---- a share of success
  success_marks : (sender to party : ℕ) → party < 2 → first_shares_made (share_one (sheet u) sender success to p) party ≡ first_shares_made p party
  unfolding first_shares_made share_one marked
  success_marks sender to party l =
      every_same _ _ (leads (per_day u) party) (first_shares party) (firsts (per_day u) party l)
      (λ t h. ap (λ (x : Slot). marked_for x party contract) (one_other success _ p t (leads_parts (per_day u) party t h).other))

  -- ---- first shares
  module _ (sender : ℕ) (ls : sender < 2) (n : both_made p ≡ false) where
    after : Position
    after = share_each (sheet u) sender (first_shares sender) p

    own_made : first_shares_made after sender ≡ true
    unfolding first_shares_made marked after
    own_made =
        each_makes (sheet u) sender (λ x. marked_for x sender contract)
        (λ m x h. mark_kept sender sender ls (with_shared contract m x) (shared_marks contract m x sender contract ∙ h))
        (keys p sender) (leads (per_day u) sender) (λ t h. (leads_parts (per_day u) sender t h).low)
        (λ t x h. mark_set sender ls (with_shared contract (share_mask (sheet u) (keys p sender) t) x))
        (first_shares sender) p refl g.sized (firsts (per_day u) sender ls)

    own_shown : shares after sender ≡ true
    unfolding all_shared shared after holds
    own_shown =
        each_makes (sheet u) sender (λ x. bit (shared_for x contract) sender)
        (λ m x h. keeps_share sender m x sender h)
        (keys p sender) (leads (per_day u) sender) (λ t h. (leads_parts (per_day u) sender t h).low)
        (λ t x h. shows_share sender (share_mask (sheet u) (keys p sender) t) x sender (own_share (per_day u) sender t (keys p sender) h (w.own sender ls)))
        (first_shares sender) p refl g.sized (firsts (per_day u) sender ls)

    other_made : (party : ℕ) → party < 2 → (party ≡ sender → ⊥) → first_shares_made after party ≡ first_shares_made p party
    unfolding first_shares_made marked after
    other_made party l d =
        ap (λ (r : ℕ → Bool). every r (first_shares party))
        (fun_ext
        (λ t.
        each_same (sheet u) sender (λ x. marked_for x party contract)
        (λ m x. mark_other sender party l d (with_shared contract m x) ∙ shared_marks contract m x party contract)
        (first_shares sender) p t))

    -- nobody has the other's signature yet
    not_held : (party : ℕ) → party < 2 → (party ≡ sender → ⊥) → bit (keys p sender) party ≡ true → ⊥
    unfolding holds
    not_held party l d h =
        either (zero_or_one sender ls)
        (λ x. either (zero_or_one party l) (λ y. d (y ∙ sym x)) (λ y. j.sig_bob_kept (rw (x, y) at h)))
        (λ x.
        either (zero_or_one party l)
        (λ y.
        let k = e.lock_b_first (j.secret_bob_given (j.sig_alice_given (rw (x, y) at h))) in
        clash (w.entered lock_b (confirmed_anywhere p lock_b k)) n)
        (λ y. d (y ∙ sym x)))

    other_shown : (party : ℕ) → party < 2 → (party ≡ sender → ⊥) → shares after party ≡ true → shares p party ≡ true
    unfolding all_shared after
    other_shown party l d h =
        every_more (λ t. bit (shared after t contract) party) (λ t. bit (shared p t contract) party) (first_shares party)
        (λ t y. either (each_from (sheet u) sender (first_shares sender) p t party y) (λ z. z) (λ z. absurd (not_held party l d z)))
        h

    next_first : Moved (sheet u) u p after → Marked after
    next_first m =
        record {
          own = λ party l. m.keys_kept party party (w.own party l);
          shown = λ party l h.
              split (eqb party sender)
              (λ y. rw (eqb-true party sender y) own_shown)
              (λ y. more_shared u p after m party (w.shown party l (sym (other_made party l (eqb-false party sender y)) ∙ h)));
          made = λ b party l h.
              split (eqb party sender)
              (λ y. rw (eqb-true party sender y) own_made)
              (λ y.
              let d = eqb-false party sender y in
              other_made party l d ∙ w.made n party l (other_shown party l d h));
          entered = λ t h.
              either ((m.slots t).entries h.0 h.1)
              (λ y. clash (w.entered t (h.0, y)) n)
              (λ y. clash (sends_made u c p w y.0 t y.1.allowed) n);
        }

  next_share : (sender t : ℕ) (to : Destination) → fields_right (sheet u) u (Share sender t to) ≡ true → step_refusal (sheet u) u p (Share sender t to) ≡ 0
      → Marked (effect (sheet u) p (Share sender t to))
  unfolding effect after_share step_refusal tests share_tests conduct_allows may_share alice_shares fields_right after
  next_share sender t to f h =
      let s = sheet u in
      let m = moved s u p (Share sender t to) f h in
      let ls = two_parties u sender (and_parts (is_party s sender) _ f).0 in
      let a = allowed u c (may_share s u p sender t) (and_parts _ (share_met s p sender t (destination_number to)) (passed (tests s u p (Share sender t to)) refl h 13)).0 in
      split (eqb t no_transaction)
      (λ y.
      let first = rw y at m in
      rw y (next_first sender ls (unmade p (eqb-true (phase p) 0 (rw y at a))) first))
      (λ y.
      let b = and_parts (eqb (phase p) 3) _ (and_parts (eqb sender alice) _ (rw y at a)).1 in
      let is = eqb-true t success (and_parts (eqb t success) _ b.1).0 in
      let made = late_made u c p w (λ z. false≢true (rw z at b.0)) in
      let one = rw (y, is) at m in
      let d = destination_number to in
      rw (y, is) (still _ one (rw (success_marks sender d alice (omega arith), success_marks sender d bob (omega arith)) made) (success_marks sender d)))

  pub next_marked : (x : Step) → fields_right (sheet u) u x ≡ true → step_refusal (sheet u) u p x ≡ 0 → Marked (effect (sheet u) p x)
  unfolding is_share
  next_marked (Share party t to) f h = next_share party t to f h
  next_marked (Give party i to) f h = next_other (Give party i to) refl f h
  next_marked (SendToPool party t to) f h = next_other (SendToPool party t to) refl f h
  next_marked (HandToMiner party t to) f h = next_other (HandToMiner party t to) refl f h
  next_marked (Include party t to) f h = next_other (Include party t to) refl f h
  next_marked (Mine party t to) f h = next_other (Mine party t to) refl f h
  next_marked (Bump party t to) f h = next_other (Bump party t to) refl f h

-- ---- the start: nothing is shared, made or sent
own_signature : (d party : ℕ) → party < 2 → holds (start (saswap d)) party party ≡ true
unfolding opened
own_signature d party l = either (zero_or_one party l) (λ e. rw e refl) (λ e. rw e refl)

none_made : (d party : ℕ) → party < 2 → (first_shares_made (start (saswap d)) party ≡ false) × (shares (start (saswap d)) party ≡ false)
unfolding opened all_shared
none_made d party l = either (zero_or_one party l) (λ e. rw e (refl, refl)) (λ e. rw e (refl, refl))

pub marked_start : (u : List ℕ) → Marked (start (sheet u))
marked_start u =
    record {
      own = own_signature (per_day u);
      shown = λ party l h. clash h (none_made (per_day u) party l).0;
      made = λ n party l h. clash h (none_made (per_day u) party l).1;
      entered = λ t h. absurd (nothing_entered h.0 (rw (start_slot (sheet u) t) at h.1));
    }

-- ---- so made and shared are one
pub made_shared : (p : Position) → Marked p → both_made p ≡ both_shared p
unfolding both_shared
made_shared p w =
    let one : alice < 2 = omega arith in
    let two : bob < 2 = omega arith in
    split (both_made p)
    (λ y.
    let m = and_parts (first_shares_made p alice) (first_shares_made p bob) y in
    y ∙ sym (rw (w.shown alice one m.0, w.shown bob two m.1)))
    (λ y.
    y
    ∙ sym
    (fails_by (shares p alice && shares p bob)
    (λ h.
    let k = and_parts (shares p alice) (shares p bob) h in
    clash {b = both_made p} (rw (w.made y alice one k.0, w.made y bob two k.1)) y)))
