-- What waits in a position, or is sent in it by others than X, comes in the settled one, unless it is gone there.
-- Assumes nothing.
use Rattle.laws.proofs.Prelude.{ℕ, zero, suc, ◌≤◌, ◌<◌, ◌≡◌, refl, sym, ◌∙◌, Bool, true, false, not, ◌&&◌, ◌||◌, false≢true, List, ◌⊎◌, inl, inr, eqb, ltb, leb, ltb-true, ltb-false, leb-true, lt-ltb, length}
use Rattle.laws.proofs.Prelude.{eq-eqb, eqb-true, arith, or_parts, not-suc-le-zero, split, either, clash, and_parts, fails_by, bit, no_bit, bit_above}
use Rattle.position.proofs.Rules.{count, parent, opening, signatures, secrets, required, veil, per_day, conduct, stealth, Checked, SetupChecked, destinations, is_party}
use Rattle.position.specs.declared.Position.{Position}
use Rattle.position.proofs.Rules.{in_pool, pool_to, in_block, block_to, block_of, is_confirmed, shared, holds, deadline_in, shares_to, never, conflict, alice, bob, contract, signed, exposed_mask}
use Rattle.position.proofs.Rules.{saswap, success, refund1, is_careful, safe_to_send}
use Rattle.position.proofs.Opened.{opened}
use Rattle.slots.proofs.Ancestors.{here}
use Rattle.slots.proofs.Parents.{parent_below, parent_lower}
use Rattle.step_laws.proofs.AfterBlocks.{out_pool, out_block}
use Rattle.claim_ledger.proofs.Sound.{Waits, Sound}
use Rattle.claim_ledger.proofs.EachKind.{right_to, wide}
use Rattle.claim_careful.proofs.Has.{Has, held, shown, secret, has_by}
use Rattle.attainable.specs.Attainable.{gone, others_keys, known_from, overdue, forgone, never_sent, waits_for, comes, Closed}
use Rattle.attainable.proofs.Masks.{subset_from}
use Rattle.attainable.proofs.Parts.{others_have, waits, signs, Parent, comes_from, known_shared, have_keys, have_known, have_shared}
use Rattle.claim_attainable.proofs.Actors.{Place, in_pool_lem, in_block_lem, in_chain, There, pool, block, chain, SentBy}
use Rattle.claim_attainable.proofs.Forgoing.{not_forgone, still_forgone}
use Rattle.claim_attainable.proofs.Shown.{secret_shown}
use Rattle.slack.proofs.Dead.{gone_met}
use Rattle.claim_attainable.proofs.Bounded.{right_small, sends_other, others_has, nothing_shared}
use Rattle.claim_slack.proofs.Dues.{due_after}
use Rattle.claim_slack.proofs.SettledFrom.{SettledFrom, live_open, parent_live, settled_confirmed, still_confirmed, block_low, waits_still, new_blocks}

-- X sends nothing
abbrev pub nothing : ℕ → Bool
nothing t = false

-- success and refund_1 are rivals
success_rival : (d : ℕ) → conflict (saswap d) success refund1 ≡ true
unfolding opened
success_rival d = refl

-- what is shown is required
exposed_required : (s : List ℕ) (t i : ℕ) → bit (exposed_mask s t) i ≡ true → bit (required s t) i ≡ true
unfolding exposed_mask
exposed_required s t i h = split (eqb (veil s t) 1) (λ y. clash (rw y at h) (no_bit i)) (λ y. rw y at h)

module _ (s u : List ℕ) (ok : Checked s) (setup : SetupChecked s u) (p : Position) (g : Sound s u p) (p' : Position) (set : ℕ → Bool) (k : SettledFrom s p p' set)
    (x : ℕ) (who : is_party s x ≡ true) (also : ℕ → Bool) (members : ℕ) (closed : Closed s u p' x also members) where
  few : count s ≤ length p.slots
  few = wide s u ok p g

  -- the parent of what is not gone is confirmed, or not gone either
  above_by : (t : ℕ) → t < count s → gone s p' t ≡ false
      → (opening s t ≡ false → is_confirmed p' (parent s t) ≡ false → gone s p' (parent s t) ≡ false → bit members (parent s t) ≡ true) → Parent s p' members t
  above_by t l live f =
      split (opening s t)
      inl
      (λ o. inr (split (is_confirmed p' (parent s t)) inl (λ n. inr (f o n (parent_live s p' t live ok l o n)))))

  module _ (entered : ℕ → Bool) (to : ℕ → ℕ) (w : Waits s (per_day u) entered (block_of p) p.mined) (small : (t : ℕ) → t < count s → entered t ≡ true → to t < destinations)
      (for : (t : ℕ) → entered t ≡ true → is_confirmed p' t ≡ false → waits_for p' t (to t) ≡ true) where
    -- by falling number: the parent waits there too, or is confirmed
    waits_come : (n t : ℕ) → t < n → t < count s → entered t ≡ true → gone s p' t ≡ false → comes s u p' x also members t (to t) ≡ true
    unfolding is_confirmed
    waits_come zero t m l h live = absurd (not-suc-le-zero m)
    waits_come (suc n) t m l h live =
        comes_from s u p' x also members t (to t)
        (record {
          live = live;
          below = above_by t l live
              (λ o c v.
              let up = parent s t in
              let low = parent_below ok t l o in
              either (w.parents t l h o)
              (λ y. closed up low (to up) (small up low y) (waits_come n up (omega (arith, parent_lower ok t l o, m)) low y v))
              (λ y. clash (still_confirmed s u ok p g p' set k up (lt-ltb 0 (block_of p up) y)) c));
          way = waits (for t h (live_open s p' t live));
        })

  pool_comes : (t e : ℕ) → in_pool p t ≡ true → pool_to p t ≡ e → gone s p' t ≡ false → comes s u p' x also members t e ≡ true
  unfolding waits_for
  pool_comes t e i h live =
      let low : t < count s = split (ltb t (count s)) (ltb-true t (count s)) (λ y. clash i (out_pool s p few g.beyond t (ltb-false t (count s) y))) in
      rw (← h)
      (waits_come (in_pool p) (pool_to p) g.pool (λ j l y. right_small s j (pool_to p j) (g.pool_to_lem j l y))
      (λ j y c. rw (k.pool j, k.pool_to_lem j, y, eq-eqb (pool_to p j) (pool_to p j) refl)) (suc t) t (omega arith) low i live)

  block_comes : (t e : ℕ) → in_block p t ≡ true → block_to p t ≡ e → gone s p' t ≡ false → comes s u p' x also members t e ≡ true
  block_comes t e i h live =
      let low : t < count s = split (ltb t (count s)) (ltb-true t (count s)) (λ y. clash i (out_block s p few g.beyond t (ltb-false t (count s) y))) in
      rw (← h)
      (waits_come (in_block p) (block_to p) g.block (λ j l y. right_small s j (block_to p j) (g.block_to_lem j l y))
      (waits_still s u ok p g p' set k) (suc t) t (omega arith) low i live)

  pub entry_comes : (t e : ℕ) → Place p t e → gone s p' t ≡ false → comes s u p' x also members t e ≡ true
  unfolding is_confirmed
  entry_comes t e (in_pool_lem i h) live = pool_comes t e i h live
  entry_comes t e (in_block_lem i h) live = block_comes t e i h live
  entry_comes t e (in_chain i h) live = clash (still_confirmed s u ok p g p' set k t (lt-ltb 0 (block_of p t) i)) (live_open s p' t live)

  -- so what stands is a member
  stood : (t : ℕ) → t < count s → There p t → gone s p' t ≡ false → bit members t ≡ true
  stood t l (pool i) live = closed t l (pool_to p t) (right_small s t (pool_to p t) (g.pool_to_lem t l i)) (pool_comes t (pool_to p t) i refl live)
  stood t l (block i) live = closed t l (block_to p t) (right_small s t (block_to p t) (g.block_to_lem t l i)) (block_comes t (block_to p t) i refl live)
  stood t l (chain c) live = clash (still_confirmed s u ok p g p' set k t c) (live_open s p' t live)

  -- a shared secret is known, and a key of another party is among the others'
  pub known_here : (t e i : ℕ) → e < destinations → bit (secrets s) i ≡ true → bit (shared p t e) i ≡ true → bit (known_from s p' members) i ≡ true
  unfolding shared
  known_here t e i m a h =
      split (ltb t (count s))
      (λ y. known_shared s p' members i (secret_shown s p' t e i (ltb-true t (count s) y) m a (k.kept t e i m h)))
      (λ y. clash (rw (g.beyond t (ltb-false t (count s) y), nothing_shared e) at h) (no_bit i))

  pub held_here : (y i : ℕ) → is_party s y ≡ true → eqb y x ≡ false → holds p y i ≡ true → bit (others_keys s p' x) i ≡ true
  unfolding holds
  held_here y i w apart h = others_has s p' x y i w apart (rw (k.keys y) h)

  module _ (t e : ℕ) (w : SentBy s u p x nothing t e) where
    apart : eqb w.party x ≡ false
    apart = either w.apart (λ y. y) (λ y. absurd (false≢true y.1))

    right : shares_to s t e ≡ true
    right = right_to s w.party t e w.sends.who w.sends.right

    small : e < destinations
    small = right_small s t e right

    -- a signature that the sender has, the others have together
    had : (i : ℕ) → Has s p w.party t e i → bit (others_have s p' x members t e) i ≡ true
    had i (held h) = have_keys s p' x members t e i (held_here w.party i w.sends.who apart h)
    had i (shown h) = have_shared s p' x members t e i (k.kept t e i small h)
    had i (secret h y) = have_known s p' x members t e i (known_here y.0 y.1 i y.2 h y.3)

    -- a secret that the send shows is one that the sender has
    secret_had : (i : ℕ) → bit (secrets s) i ≡ true → Has s p w.party t e i → (bit (others_keys s p' x) i ≡ true) ⊎ (bit (known_from s p' members) i ≡ true)
    secret_had i a (held h) = inl (held_here w.party i w.sends.who apart h)
    secret_had i a (shown h) = inr (known_here t e i small a h)
    secret_had i a (secret h y) = inr (known_here y.0 y.1 i y.2 h y.3)

    pub sent_shown : (i : ℕ) → bit (secrets s) i ≡ true → bit (exposed_mask s t) i ≡ true → (bit (others_keys s p' x) i ≡ true) ⊎ (bit (known_from s p' members) i ≡ true)
    sent_shown i a h =
        let l : i < signatures s =
        split (ltb i (signatures s))
        (ltb-true i (signatures s))
        (λ y. clash a (bit_above (secrets s) (signatures s) i ok.secrets_within (ltb-false i (signatures s) y))) in
        secret_had i a (has_by s p w.party t e i (w.sends.signs i l (exposed_required s t i h)))

    module _ (live : gone s p' t ≡ false) where
      -- a deadline that the settled entries change is after the next block
      not_overdue : overdue s u p' t ≡ false
      unfolding overdue deadline_in
      not_overdue =
          fails_by (eqb (stealth u) 0 && leb (deadline_in s u p' t) p'.mined)
          (λ h.
          let y = and_parts (eqb (stealth u) 0) (leb (deadline_in s u p' t) p'.mined) h in
          let due = leb-true (deadline_in s u p' t) p'.mined y.1 in
          let low : p.mined < never = omega (arith, g.settled.limit) in
          let at_parent = inr (new_blocks s u ok p g p' set k (parent s t)) in
          let after = due_after ok (per_day u) setup.blocks_some p.mined low t w.sends.low (block_of p) (block_of p') at_parent (w.early y.0) in
          omega (arith, due, after, k.mined))

      -- under careful conduct, refund_1 is gone where success settles
      success_open : is_careful u ≡ true → eqb t refund1 ≡ true → set success ≡ false
      unfolding is_careful
      success_open c e =
          fails_by (set success)
          (λ y.
          let is : s ≡ saswap (per_day u) = setup.sheet_fits (omega (arith, eqb-true (conduct u) 2 c)) in
          let rival : conflict s success t ≡ true = rw (eqb-true t refund1 e, is) (success_rival (per_day u)) in
          let other : eqb success t ≡ false = rw (eqb-true t refund1 e) in
          clash (gone_met s p' t t success here (block_low s u ok p g p' set k success (k.there success y)) rival (settled_confirmed s u ok p g p' set k success y) other) live)

      not_forgone_here : eqb x bob ≡ true → forgone s u p' t ≡ false
      unfolding forgone holds
      not_forgone_here i =
          fails_by (forgone s u p' t)
          (λ y.
          let c = (and_parts (is_careful u) (not (safe_to_send s p' alice t)) y).0 in
          let off : eqb w.party bob ≡ false = rw (eqb-true x bob i) at apart in
          let before = still_forgone s u p' p t
          (λ e j h. either (k.from success contract j (omega arith) h) (λ z. z) (λ z. clash z.0 (success_open c e)))
          (λ h. rw (k.keys alice) at h) y in
          clash before (not_forgone s u p w.party t e w.sends off))

      sent_in_time : never_sent s u p' x t ≡ false
      unfolding never_sent
      sent_in_time =
          fails_by (overdue s u p' t || (eqb x bob && forgone s u p' t))
          (λ h.
          either (or_parts (overdue s u p' t) (eqb x bob && forgone s u p' t) h)
          (λ y. false≢true (sym not_overdue ∙ y))
          (λ y. let z = and_parts (eqb x bob) (forgone s u p' t) y in false≢true (sym (not_forgone_here z.0) ∙ z.1)))

      all_had : signed s (others_have s p' x members t e) t ≡ true
      unfolding signed
      all_had =
          subset_from (signatures s) (required s t) (others_have s p' x members t e)
          (λ i l n. had i (has_by s p w.party t e i (w.sends.signs i l n)))

      pub sent_comes : comes s u p' x also members t e ≡ true
      sent_comes =
          let low = w.sends.low in
          comes_from s u p' x also members t e
          (record {
            live = live;
            below = above_by t low live
                (λ o n v. either w.above (λ y. clash y o) (λ y. stood (parent s t) (parent_below ok t low o) y v));
            way = signs sent_in_time right (sends_other s x who w.party t e apart w.sends.right) all_had;
          })
