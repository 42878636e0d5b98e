-- A rival that is locked later in the block after the soonest deadline: the plain ledger takes such a list.
-- Assumes nothing.
use Rattle.laws.proofs.Prelude.{ℕ, ◌+◌, ◌-◌, ◌≤◌, ◌<◌, ◌≡◌, refl, sym, ap, ◌∙◌, true, false, List, [], ◌∷◌, ◌++◌, append-nil, eqb, ltb, ltb-true, ltb-false, arith, some}
use Rattle.laws.proofs.Prelude.{split, clash, All, empty, also, all_append, all_weaken}
use Rattle.position.proofs.Rules.{count, parent, opening, never, sheet_refusal, per_day, setup_refusal, Checked, conflict, invalidated, Entry, in_order, coin_of, Kept, Books}
use Rattle.position.proofs.Rules.{none_kept, lock_from, fits, keep, enter, ledger, start, is_confirmed, block_of, confirmed_to, FourBytes}
use Rattle.position.specs.declared.Position.{Position}
use Rattle.sheet.proofs.Theorems.{sheet_checked}
use Rattle.slots.proofs.Parents.{parent_lower}
use Rattle.slots.proofs.Conflicts.{conflict_parent}
use Rattle.ledger.proofs.Taking.{spend_fits, enter_next}
use Rattle.claim_ledger.proofs.SoundSteps.{sound_start}
use Rattle.readings.proofs.Coins.{coin_spend}
use Rattle.claim_ledger.proofs.Linked.{Linked}
use Rattle.claim_ledger.proofs.TakenList.{start_linked, list_taken}
use Rattle.claim_ledger.specs.Claim.{entries_of, position_of}
use Rattle.soonest.specs.Soonest.{lock_at, since_locked, soonest_parent, soonest_deadline}
use Rattle.call_outage.specs.Verdict.{soonest_deadline_in}
use Rattle.claim_outage.specs.Claim.{Overtaken}
use Rattle.soonest.proofs.Locks.{Form, fixed, hangs, form}
use Rattle.claim_outage.proofs.Entries.{order_behind}
use Rattle.soonest.proofs.SoonestParents.{parent_some}
use Rattle.claim_outage.proofs.Sandwich.{Counts, above, rises, rival_spends, counts_other, soonest_counted}
use Rattle.claim_outage.proofs.Reach.{from_by, order_then, enter_on, Alive, Reach, reach_parent, parent_later, alive}
use Rattle.ledger.proofs.Rising.{before_number}

module _ {s : List ℕ} (ok : Checked s) (d : ℕ) (block to : ℕ → ℕ) (mined : ℕ) (kept : Kept) (lk : Linked s block to kept) (t : ℕ) (l : t < count s) where
  abbrev e : ℕ
  e = soonest_parent s d block mined t

  abbrev D : ℕ
  D = soonest_deadline s d block mined t

  -- k, a rival of t, behind their parent in block a: its lock height is D, and t's is lower
  pub record Over : Type 0 where
    pub k : ℕ
    pub low : k < count s
    pub rival : conflict s k t ≡ true
    pub other : k ≡ t → ⊥
    pub a : ℕ
    pub placed : 0 < a
    pub front : Reach ok d block to mined kept lk (parent s t) a
    pub next : mined ≤ D
    pub fits : a ≤ D + 1
    pub lock : lock_at s d a k ≡ D
    pub own : lock_at s d a t < D

  module _ (v : Over) where
    spends : opening s t ≡ false
    spends = rival_spends ok d t v.k v.rival v.other

    same : parent s v.k ≡ parent s t
    same = conflict_parent s v.k t v.rival

    spends_too : opening s v.k ≡ false
    unfolding opening
    spends_too = ap (λ x. eqb x 255) same ∙ spends

    abbrev entry : Entry
    entry = record { transaction = v.k; destination = to v.k; block = D + 1 }

    pub kept_there : v.front.after (coin_of s t) ≡ some v.front.last
    kept_there = rw (coin_spend s ok t l spends) v.front.stands

    one_coin : coin_of s v.k ≡ coin_of s t
    one_coin = coin_spend s ok v.k v.low spends_too ∙ ap (coin_of s) same ∙ sym (coin_spend s ok t l spends)

    locks : (k : ℕ) → k < count s → lock_from s d v.front.last.block k ≡ lock_at s d v.a k
    locks k h = ap (λ b. lock_from s d b k) v.front.when ∙ from_by s d v.a k (λ o. v.placed) (ok.entries k h).lock_pair_lem

    takes : fits s d (v.front.after (coin_of s v.k)) entry ≡ true
    takes =
        rw (one_coin, kept_there)
        (spend_fits s d entry v.front.last spends_too (v.front.names ∙ sym same) (omega (arith, locks v.k v.low, v.lock)))

    pub entered : enter s d (v.front.list ++ (entry ∷ [])) kept ≡ record { accepts = true; kept = keep s entry v.front.after }
    unfolding enter
    entered = v.front.entered (entry ∷ []) ∙ enter_next s d entry [] v.front.after takes

    pub ordered : in_order (v.front.list ++ (entry ∷ [])) ≡ true
    ordered =
        let p = parent_lower ok v.k v.low spends_too in
        let q = same in
        let f = v.fits in
        order_then entry (all_weaken (λ x w. before_number x entry (omega (arith, w.1)) (omega (arith, w.2))) v.front.each) v.front.order

    pub later_blocks : All (λ x. mined < x.block) (v.front.list ++ (entry ∷ []))
    later_blocks = all_append (all_weaken (λ x w. w.0) v.front.each) (also (omega (arith, v.next)) empty)

    pub later_lock : lock_from s d v.front.last.block t < lock_from s d v.front.last.block v.k
    later_lock = omega (arith, locks t l, locks v.k v.low, v.lock, v.own)

  -- such a rival is there where the deadline is not passed and the parent can be there in time
  module _ (new : block t ≡ 0) (live : Alive ok d block to mined kept lk t) (some-day : D < never) (next : mined ≤ D) (time : e ≤ D + 1) where
    -- its lock height is above t's with the parent in its soonest block
    stands : (k : ℕ) → k < count s → conflict s k t ≡ true → lock_at s d e t < lock_at s d e k → lock_at s d e k ≡ D → Over
    stands k lk' c h q =
        let n : k ≡ t → ⊥ = λ z. let y : lock_at s d e t < lock_at s d e t = rw z at h in omega (arith, y) in
        let o = rival_spends ok d t k c n in
        record {
          k = k;
          low = lk';
          rival = c;
          other = n;
          a = e;
          placed = parent_some ok d block mined t l o;
          front = reach_parent ok d block to mined kept lk t l new live o;
          next = next;
          fits = time;
          lock = q;
          own = omega arith;
        }

    -- or comes to be by a later block of the parent
    comes : (k : ℕ) → k < count s → conflict s k t ≡ true → (k ≡ t → ⊥) → block (parent s t) ≡ 0 → lock_at s d e k ≤ lock_at s d e t → lock_at s d e t + 1 ≡ D
        → since_locked s k ≡ true → since_locked s t ≡ false → Form s d t → Form s d k → Over
    comes k lk' c n z h q x y (fixed i f v) (fixed m g w) = clash x w
    comes k lk' c n z h q x y (hangs i f r v o) (fixed m g w) = clash x w
    comes k lk' c n z h q x y (hangs i f r v o) (hangs m g w j b) = clash v y
    comes k lk' c n z h q x y (fixed m f w) (hangs j g v u r) =
        let o = rival_spends ok d t k c n in
        let p = parent_some ok d block mined t l o in
        let a = lock_at s d e t + 1 - j in
        let i : e + j ≡ lock_at s d e k = sym (g e p) in
        let pa : 0 < a = omega arith in
        let ga = g a pa in
        let fa = f a in
        let fe = f e in
        record {
          k = k;
          low = lk';
          rival = c;
          other = n;
          a = a;
          placed = pa;
          front = parent_later ok d block to mined kept lk t a l live o z (omega arith);
          next = next;
          fits = omega arith;
          lock = omega arith;
          own = omega arith;
        }

    by_rise : (k : ℕ) → k < count s → conflict s k t ≡ true → lock_at s d e k ≤ lock_at s d e t → lock_at s d e t + 1 ≡ D → Counts s d block e t k → Over
    by_rise k lk' c h q (above y) = absurd (omega (arith, y))
    by_rise k lk' c h q (rises z x y) = comes k lk' c (counts_other s d block e t k (rises z x y)) z h q x y (form ok d t l) (form ok d k lk')

    pub over : Over
    over =
        let w = soonest_counted s d block mined t some-day in
        let k = w.0 in
        split (ltb (lock_at s d e t) (lock_at s d e k))
        (λ y. let h = ltb-true (lock_at s d e t) (lock_at s d e k) y in stands k w.1 w.2 h (w.4 h))
        (λ y.
        let h = ltb-false (lock_at s d e t) (lock_at s d e k) y in
        by_rise k w.1 w.2 h (w.5 h) w.3)

module _ (s u : List ℕ) (h : sheet_refusal s ≡ 0) (k : setup_refusal s u ≡ 0) (now : List FourBytes) (t : ℕ) (l : t < count s) where
  abbrev p : Position
  p = position_of s u now

  unplaced : is_confirmed p t ≡ false → block_of p t ≡ 0
  unfolding is_confirmed
  unplaced new = let z = ltb-false 0 (block_of p t) new in omega arith

  pub overtaken : is_confirmed p t ≡ false → invalidated s (is_confirmed p) t ≡ false → soonest_deadline_in s u p t < never → p.mined ≤ soonest_deadline_in s u p t
      → soonest_parent s (per_day u) (block_of p) p.mined t ≤ soonest_deadline_in s u p t + 1 → Overtaken s u now t
  unfolding ledger soonest_deadline_in enter
  overtaken new live some-day next time =
      let ok = sheet_checked s h in
      let w = list_taken s u h k now (start s) none_kept (sound_start s u) (start_linked s) in
      let z = unplaced new in
      let v = over ok (per_day u) (block_of p) (confirmed_to p) p.mined w.after w.linked t l z (alive s p t new live) some-day next time in
      let entry : Entry = record { transaction = v.k; destination = confirmed_to p v.k; block = soonest_deadline s (per_day u) (block_of p) p.mined t + 1 } in
      let front-taken : enter s (per_day u) (entries_of s u now ++ v.front.list) none_kept ≡ record { accepts = true; kept = v.front.after } =
      enter_on s (per_day u) (entries_of s u now) v.front.list none_kept w.after w.entered
      ∙ sym (ap (λ (x : List Entry). enter s (per_day u) x w.after) (append-nil v.front.list))
      ∙ v.front.entered [] in
      let all-taken =
      enter_on s (per_day u) (entries_of s u now) (v.front.list ++ (entry ∷ [])) none_kept w.after w.entered
      ∙ entered ok (per_day u) (block_of p) (confirmed_to p) p.mined w.after w.linked t l v in
      record {
        front = v.front.list;
        above = v.front.last;
        last = entry;
        accepts = ap (λ (b : Books). b.accepts) all-taken;
        order =
            order_behind s u h k now (v.front.list ++ (entry ∷ []))
            (ordered ok (per_day u) (block_of p) (confirmed_to p) p.mined w.after w.linked t l v)
            (later_blocks ok (per_day u) (block_of p) (confirmed_to p) p.mined w.after w.linked t l v);
        each = later_blocks ok (per_day u) (block_of p) (confirmed_to p) p.mined w.after w.linked t l v;
        behind = ap (λ (b : Books). b.kept (coin_of s t)) front-taken ∙ kept_there ok (per_day u) (block_of p) (confirmed_to p) p.mined w.after w.linked t l v;
        parents = v.front.names;
        rival = v.rival;
        later = later_lock ok (per_day u) (block_of p) (confirmed_to p) p.mined w.after w.linked t l v;
        when = refl;
      }
