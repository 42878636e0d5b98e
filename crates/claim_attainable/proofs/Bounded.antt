-- What every list of steps without X keeps: the others' keys, entries and shared signatures come from a closed set of the first position.
-- Assumes nothing.
use Rattle.laws.proofs.Prelude.{ℕ, zero, suc, ◌≤◌, ◌<◌, ◌≡◌, refl, sym, ◌∙◌, Bool, true, false, ◌&&◌, ◌||◌, false≢true, List, ◌⊎◌, inl, inr, eqb, ltb, leb, length, eqb-true, ltb-true}
use Rattle.laws.proofs.Prelude.{ltb-false, leb-true, eq-eqb, lt-ltb, arith, not-suc-le-zero, bit_and, split, either, clash, and_parts, or_parts, fails_by, or_right, bit, without}
use Rattle.laws.proofs.Prelude.{bit_and_lem, no_bit}
use Rattle.position.proofs.Rules.{parties, place, party_at, count, parent, opening, signatures, secrets, required, per_day, stealth, Checked, alice, bob, contract}
use Rattle.position.proofs.Rules.{destinations, is_party, is_payee, is_contract, empty_slot, shared_for, signed, share_mask, exposed_mask, in_pool, pool_to, in_block}
use Rattle.position.specs.declared.Position.{Position}
use Rattle.position.proofs.Rules.{block_to, block_of, is_confirmed, confirmed_to, shared, holds, deadline_in, sends_to, shares_to, secret_bob, success}
use Rattle.sheet.proofs.Parties.{place_below, at_place, party_small, party_not_miner}
use Rattle.slots.proofs.Conflicts.{conflict_self}
use Rattle.slots.proofs.Parents.{parent_below, parent_lower}
use Rattle.position.specs.Position as at
use Rattle.step_laws.proofs.AfterBlocks.{out_pool, out_block}
use Rattle.step_laws.proofs.Provenance.{Moved}
use Rattle.claim_ledger.proofs.Sound.{Waits, Sound}
use Rattle.claim_ledger.proofs.EachKind.{right_to, wide}
use Rattle.claim_careful.proofs.Has.{Has, held, shown, secret, has_by}
use Rattle.claim_outage.proofs.Between.{between}
use Rattle.claim_outage.proofs.Play.{LaterIn, later_same}
use Rattle.attainable.specs.Attainable.{secrets_of, other_keys, others_keys, known_from, overdue, forgone, never_sent, waits_for, comes, Closed}
use Rattle.attainable.proofs.Masks.{union_has, subset_else}
use Rattle.attainable.proofs.Parts.{others_have, Way, waits, lent, signs, Parent, comes_from, known_shared, known_member, have_keys, have_known, have_shared}
use Rattle.claim_attainable.proofs.Actors.{Place, in_pool_lem, in_block_lem, in_chain, There, pool, block, chain, SentBy, ShownBy, by_share_lem, by_send_lem, by_block_lem, MovedBy}
use Rattle.claim_attainable.proofs.Shown.{secret_shown}
use Rattle.claim_attainable.proofs.Forgoing.{not_forgone, still_forgone}
use Rattle.claim_attainable.proofs.Alive.{has_block, stays, sent_alive, there_alive}

-- a destination that is right for a transaction is one of the four
pub right_small : (s : List ℕ) (t d : ℕ) → shares_to s t d ≡ true → d < destinations
unfolding shares_to
right_small s t d h =
    split (is_contract s t)
    (λ c. let e = eqb-true d contract (rw c at h) in omega (arith, e))
    (λ c. party_small s d (and_parts (is_party s d) (is_payee s t d) (rw c at h)).0)

-- a party sends for itself or for the contract
pub sends_other : (s : List ℕ) (x : ℕ) → is_party s x ≡ true → (party t e : ℕ) → eqb party x ≡ false → sends_to s party t e ≡ true → eqb e x ≡ false
unfolding sends_to
sends_other s x who party t e apart h =
    split (is_contract s t)
    (λ c.
    let z = eqb-true e contract (rw c at h) in
    rw z (fails_by (eqb contract x) (λ y. clash (eq-eqb x 2 (sym (eqb-true contract x y))) (party_not_miner s x who))))
    (λ c. rw (eqb-true e party (and_parts (eqb e party) (is_payee s t party) (rw c at h)).0) apart)

-- a share is of keys held
pub share_held : (s : List ℕ) (mine t i : ℕ) → bit (share_mask s mine t) i ≡ true → bit mine i ≡ true
unfolding share_mask without
share_held s mine t i h =
    let m = bit_and mine (required s t) in
    let a = (and_parts (bit m i) _ (sym (bit_and_lem m _ i) ∙ h)).0 in
    (and_parts (bit mine i) (bit (required s t) i) (sym (bit_and_lem mine (required s t) i) ∙ a)).0

-- a shown secret of a transaction is one of its secrets
pub shown_secret : (s : List ℕ) (t i : ℕ) → bit (secrets s) i ≡ true → bit (exposed_mask s t) i ≡ true → bit (secrets_of s t) i ≡ true
unfolding secrets_of
shown_secret s t i a b = bit_and_lem (secrets s) (exposed_mask s t) i ∙ rw (a, b)

-- the keys of another party are among the others'
pub others_has : (s : List ℕ) (p : Position) (x y i : ℕ) → is_party s y ≡ true → eqb y x ≡ false → holds p y i ≡ true → bit (others_keys s p x) i ≡ true
unfolding other_keys others_keys holds
others_has s p x y i who apart h =
    union_has (parties s) (λ k. other_keys p x (party_at k)) i (place y) (place_below s y who)
    (rw (at_place s y who, apart) h)

-- an empty slot shares nothing
pub nothing_shared : (e : ℕ) → shared_for empty_slot e ≡ 0
unfolding shared_for
nothing_shared e =
    split (eqb e alice)
    (λ a. rw a)
    (λ a. split (eqb e bob) (λ b. rw (a, b)) (λ b. split (eqb e contract) (λ c. rw (a, b, c)) (λ c. rw (a, b, c))))

module _ (s u : List ℕ) (ok : Checked s) (p : Position) (x : ℕ) (who : is_party s x ≡ true) (also : ℕ → Bool) (members : ℕ)
    (closed : Closed s u p x also members) where
  abbrev pub Brought : ℕ → ℕ → Type 0
  Brought t e = (is_confirmed p t ≡ true) ⊎ (comes s u p x also members t e ≡ true)

  -- a position that such a list leads to
  pub record Bounded (q : Position) : Type 0 where
    pub sound : Sound s u q
    pub later : LaterIn s p q
    pub forgone : (t : ℕ) → forgone s u p t ≡ true → forgone s u q t ≡ true
    pub keys : (y i : ℕ) → is_party s y ≡ true → eqb y x ≡ false → i < 32 → holds q y i ≡ true → bit (others_keys s p x) i ≡ true
    pub entries : (t e : ℕ) → Place q t e → Brought t e
    pub shares : (t e i : ℕ) → e < destinations → eqb e x ≡ false → i < 32 → bit (shared q t e) i ≡ true
        → (bit (others_have s p x members t e) i ≡ true) ⊎ Brought t e
    pub shown : (t e i : ℕ) → e < destinations → i < 32 → bit (secrets s) i ≡ true → bit (shared q t e) i ≡ true
        → (bit (others_keys s p x) i ≡ true) ⊎ (bit (known_from s p members) i ≡ true)

  -- what comes is a member
  joins : (t e : ℕ) → t < count s → e < destinations → Brought t e → (is_confirmed p t ≡ true) ⊎ (bit members t ≡ true)
  joins t e l m b = either b inl (λ c. inr (closed t l e m c))

  module _ (q : Position) (b : Bounded q) where
    few : count s ≤ length q.slots
    few = wide s u ok q b.sound

    low_block : (t : ℕ) → in_block q t ≡ true → t < count s
    low_block t i = split (ltb t (count s)) (ltb-true t (count s)) (λ y. clash i (out_block s q few b.sound.beyond t (ltb-false t (count s) y)))

    -- what stands was confirmed in p, or is a member
    pub stood : (t : ℕ) → t < count s → There q t → (is_confirmed p t ≡ true) ⊎ (bit members t ≡ true)
    unfolding is_confirmed
    stood t l (pool i) =
        joins t (pool_to q t) l (right_small s t (pool_to q t) (b.sound.pool_to_lem t l i)) (b.entries t (pool_to q t) (in_pool_lem i refl))
    stood t l (block i) =
        joins t (block_to q t) l (right_small s t (block_to q t) (b.sound.block_to_lem t l i)) (b.entries t (block_to q t) (in_block_lem i refl))
    stood t l (chain i) =
        joins t (confirmed_to q t) l (right_small s t (confirmed_to q t) (b.sound.confirmed_to_lem t l i))
        (b.entries t (confirmed_to q t) (in_chain (has_block q t i) refl))

    module _ (t e : ℕ) (w : SentBy s u q x also t e) where
      low : t < count s
      low = w.sends.low

      fresh : is_confirmed p t ≡ false
      fresh =
          fails_by (is_confirmed p t)
          (λ c. omega (arith, stays s p q b.later t low (has_block p t c), w.sends.free t low (conflict_self s t)))

      above : Parent s p members t
      above =
          split (opening s t)
          inl
          (λ o. either w.above inl (λ y. inr (stood (parent s t) (parent_below ok t low o) y)))

      in_time_lem : eqb w.party x ≡ false → never_sent s u p x t ≡ false
      unfolding never_sent overdue
      in_time_lem apart =
          fails_by (overdue s u p t || (eqb x bob && forgone s u p t))
          (λ z.
          either (or_parts (overdue s u p t) (eqb x bob && forgone s u p t) z)
          (λ h.
          let y = and_parts (eqb (stealth u) 0) (leb (deadline_in s u p t) p.mined) h in
          let due = leb-true (deadline_in s u p t) p.mined y.1 in
          let falls = (between s u ok p t low q b.later b.sound).deadline_falls in
          omega (arith, w.early y.0, falls, due, b.later.time))
          (λ h.
          let y = and_parts (eqb x bob) (forgone s u p t) h in
          let off : eqb w.party bob ≡ false = rw (eqb-true x bob y.0) at apart in
          false≢true (sym (not_forgone s u q w.party t e w.sends off) ∙ b.forgone t y.1)))

      -- a signature that the sender has, the others have together by the set, or t comes anyway
      had : (i : ℕ) → i < 32 → eqb w.party x ≡ false → eqb e x ≡ false → e < destinations → Has s q w.party t e i
          → (bit (others_have s p x members t e) i ≡ true) ⊎ (comes s u p x also members t e ≡ true)
      had i l apart off small (held h) = inl (have_keys s p x members t e i (b.keys w.party i w.sends.who apart l h))
      had i l apart off small (shown h) =
          either (b.shares t e i small off l h)
          inl
          (λ y. either y (λ c. clash c fresh) inr)
      had i l apart off small (secret h y) =
          either (b.shown y.0 y.1 i y.2 l h y.3)
          (λ z. inl (have_keys s p x members t e i z))
          (λ z. inl (have_known s p x members t e i z))

      all_had : eqb w.party x ≡ false → eqb e x ≡ false → e < destinations
          → (signed s (others_have s p x members t e) t ≡ true) ⊎ (comes s u p x also members t e ≡ true)
      unfolding signed
      all_had apart off small =
          subset_else (signatures s) (required s t) (others_have s p x members t e)
          (λ i l n.
          had i (omega (arith, ok.signatures_few, l)) apart off small (has_by s q w.party t e i (w.sends.signs i l n)))

      by_way : Way s u p x also members t e → comes s u p x also members t e ≡ true
      by_way y =
          comes_from s u p x also members t e
          (record {
            live = sent_alive s u ok q b.sound p b.later t low w.sends.free (w.sends.free t low (conflict_self s t)) w.above;
            below = above;
            way = y;
          })

      pub sent_comes : comes s u p x also members t e ≡ true
      sent_comes =
          either w.apart
          (λ apart.
          let right = right_to s w.party t e w.sends.who w.sends.right in
          let off = sends_other s x who w.party t e apart w.sends.right in
          either (all_had apart off (right_small s t e right))
          (λ y. by_way (signs (in_time_lem apart) right off y))
          (λ y. y))
          (λ y. by_way (lent y.1 (rw y.0 at w.sends.right)))

    -- a step in which X is idle leads to such a position again
    shown_member : (t e i : ℕ) → t < count s → e < destinations → bit (secrets s) i ≡ true → bit (exposed_mask s t) i ≡ true → comes s u p x also members t e ≡ true
        → bit (known_from s p members) i ≡ true
    shown_member t e i l m a h c = known_member s p members t i l (closed t l e m c) (shown_secret s t i a h)

    module _ (r : Position) (g : Sound s u r) (on : LaterIn s p r) (kept : Moved s u q r) (m : MovedBy s u q x also r) where
      next_shares : (t e i : ℕ) → e < destinations → eqb e x ≡ false → i < 32 → ShownBy s u q x also t e i
          → (bit (others_have s p x members t e) i ≡ true) ⊎ Brought t e
      unfolding holds
      next_shares t e i l off n (by_share_lem party y apart h) =
          inl (have_keys s p x members t e i (b.keys party i y apart n (share_held s (at.keys q party) t i h)))
      next_shares t e i l off n (by_send_lem w h) = inr (inr (sent_comes t e w))
      next_shares t e i l off n (by_block_lem y to h) = inr (b.entries t e (in_block_lem y to))

      next_shown : (t e i : ℕ) → e < destinations → i < 32 → bit (secrets s) i ≡ true → ShownBy s u q x also t e i
          → (bit (others_keys s p x) i ≡ true) ⊎ (bit (known_from s p members) i ≡ true)
      unfolding holds
      next_shown t e i l n a (by_share_lem party y apart h) = inl (b.keys party i y apart n (share_held s (at.keys q party) t i h))
      next_shown t e i l n a (by_send_lem w h) = inr (shown_member t e i w.sends.low l a h (sent_comes t e w))
      next_shown t e i l n a (by_block_lem y to h) =
          let low = low_block t y in
          either (b.entries t e (in_block_lem y to))
          (λ c. absurd (omega (arith, stays s p q b.later t low (has_block p t c), b.sound.block.free t t low low y (conflict_self s t))))
          (λ c. inr (shown_member t e i low l a h c))

      pub next : Bounded r
      next =
          record {
            sound = g;
            later = on;
            forgone = λ t h.
                still_forgone s u q r t (λ e i. (kept.slots success).kept contract i (omega arith)) (kept.keys_kept alice secret_bob) (b.forgone t h);
            keys = λ y i k apart n h.
                either (m.gifts y i n h)
                (b.keys y i k apart n)
                (λ z. b.keys z.0 i z.1 z.2 n z.3);
            entries = λ t e h. either (m.entries t e h) (b.entries t e) (λ w. inr (sent_comes t e w));
            shares = λ t e i l off n h. either (m.shares t e i l h) (b.shares t e i l off n) (next_shares t e i l off n);
            shown = λ t e i l n a h. either (m.shares t e i l h) (b.shown t e i l n a) (next_shown t e i l n a);
          }

  -- the first position itself
  module _ (g : Sound s u p) where
    p_few : count s ≤ length p.slots
    p_few = wide s u ok p g

    module _ (entered : ℕ → Bool) (to : ℕ → ℕ) (w : Waits s (per_day u) entered (block_of p) p.mined) (small : (t : ℕ) → t < count s → entered t ≡ true → to t < destinations)
        (stands : (t : ℕ) → entered t ≡ true → There p t) (for : (t : ℕ) → entered t ≡ true → waits_for p t (to t) ≡ true) where
      -- by falling number: the parent waits there too, or is confirmed
      waits_come : (n t : ℕ) → t < n → t < count s → entered t ≡ true → comes s u p x also members t (to t) ≡ true
      unfolding is_confirmed
      waits_come zero t k l h = absurd (not-suc-le-zero k)
      waits_come (suc n) t k l h =
          let below : opening s t ≡ false → Parent s p members t =
          λ o.
          let m = parent_below ok t l o in
          either (w.parents t l h o)
          (λ y. inr (inr (closed (parent s t) m (to (parent s t)) (small (parent s t) m y) (waits_come n (parent s t) (omega (arith, parent_lower ok t l o, k)) m y))))
          (λ y. inr (inl (lt-ltb 0 (block_of p (parent s t)) y))) in
          comes_from s u p x also members t (to t)
          (record {
            live = there_alive s u ok p g p (later_same s p) t l (w.free t t l l h (conflict_self s t)) (stands t h);
            below = split (opening s t) inl below;
            way = waits (for t h);
          })

    pool_comes : (t e : ℕ) → in_pool p t ≡ true → pool_to p t ≡ e → comes s u p x also members t e ≡ true
    unfolding waits_for
    pool_comes t e i h =
        let low : t < count s = split (ltb t (count s)) (ltb-true t (count s)) (λ y. clash i (out_pool s p p_few g.beyond t (ltb-false t (count s) y))) in
        rw (← h)
        (waits_come (in_pool p) (pool_to p) g.pool (λ k l y. right_small s k (pool_to p k) (g.pool_to_lem k l y)) (λ k y. pool y)
        (λ k y. rw (y, eq-eqb (pool_to p k) (pool_to p k) refl)) (suc t) t (omega arith) low i)

    block_comes : (t e : ℕ) → in_block p t ≡ true → block_to p t ≡ e → comes s u p x also members t e ≡ true
    unfolding waits_for
    block_comes t e i h =
        let low : t < count s = split (ltb t (count s)) (ltb-true t (count s)) (λ y. clash i (out_block s p p_few g.beyond t (ltb-false t (count s) y))) in
        rw (← h)
        (waits_come (in_block p) (block_to p) g.block (λ k l y. right_small s k (block_to p k) (g.block_to_lem k l y)) (λ k y. block y)
        (λ k y. or_right (in_pool p k && eqb (pool_to p k) (block_to p k)) _ (rw (y, eq-eqb (block_to p k) (block_to p k) refl))) (suc t) t (omega arith) low i)

    start_entries : (t e : ℕ) → Place p t e → Brought t e
    unfolding is_confirmed
    start_entries t e (in_pool_lem i h) = inr (pool_comes t e i h)
    start_entries t e (in_block_lem i h) = inr (block_comes t e i h)
    start_entries t e (in_chain i h) = inl (lt-ltb 0 (block_of p t) i)

    -- a shared secret is known
    start_known : (t e i : ℕ) → e < destinations → bit (secrets s) i ≡ true → bit (shared p t e) i ≡ true → bit (known_from s p members) i ≡ true
    unfolding shared
    start_known t e i m a h =
        split (ltb t (count s))
        (λ y. known_shared s p members i (secret_shown s p t e i (ltb-true t (count s) y) m a h))
        (λ y. clash (rw (g.beyond t (ltb-false t (count s) y), nothing_shared e) at h) (no_bit i))

    pub first : Bounded p
    first =
        record {
          sound = g;
          later = later_same s p;
          forgone = λ t h. h;
          keys = λ y i k apart n h. others_has s p x y i k apart h;
          entries = start_entries;
          shares = λ t e i l off n h. inl (have_shared s p x members t e i h);
          shown = λ t e i l n a h. inr (start_known t e i l a h);
        }
