-- The ledger takes a mined block, entry by entry, and stays linked.
-- Assumes nothing.
use Rattle.laws.proofs.Prelude.{ℕ, zero, suc, ◌+◌, ◌≤◌, ◌<◌, ◌≡◌, refl, sym, ap, ◌∙◌, fun_ext, Bool, true, false, ◌&&◌, List, [], ◌∷◌, ◌++◌, append_assoc, eqb, ltb}
use Rattle.laws.proofs.Prelude.{eqb-true, eqb-false, ltb-true, ltb-false, eq-eqb, ne_eqb, lt-ltb, le-ltb, arith, pick, split, either, and_parts, gather}
use Rattle.position.proofs.Rules.{count, parent, opening, lock_type, since_parent, lock_height, Checked, LockPair, absolute, since, conflict, Entry, Kept, lock_from, fits}
use Rattle.position.proofs.Rules.{keep, enter, coin_of, block_limit}
use Rattle.sheet.specs.Checked.{none}
use Rattle.slots.proofs.Parents.{parent_lower, parent_below}
use Rattle.slots.proofs.Conflicts.{conflict_self}
use Rattle.ledger.proofs.Taking.{enter_next}
use Rattle.claim_ledger.proofs.Sound.{Settled, Waits}
use Rattle.claim_ledger.proofs.Linked.{Linked, linked_by}
use Rattle.claim_ledger.proofs.OneEntry.{entry_fits, entry_linked}

-- the ledger's lock is no later than the position's lock height, where h is the parent's block once that is confirmed
lock_agrees : (s : List ℕ) (per_day t m h : ℕ) (block : ℕ → ℕ) → LockPair s t → m ≤ block_limit
    → (opening s t ≡ false → 0 < block (parent s t) → h ≡ block (parent s t)) → lock_height s per_day block t ≤ m → lock_from s per_day h t ≤ m
unfolding lock_height lock_from since_parent
lock_agrees s per_day t m h block (none e z) lim same low = rw (eq-eqb (lock_type s t) 0 e) (omega arith)
lock_agrees s per_day t m h block (absolute e a b) lim same low =
    let n = ne_eqb (lock_type s t) 0 (λ z. omega arith) in
    let y = eq-eqb (lock_type s t) 1 e in
    rw (n, y) (rw (n, y) at low)
lock_agrees s per_day t m h block (since e a b o) lim same low =
    let n = ne_eqb (lock_type s t) 0 (λ z. omega arith) in
    let y = ne_eqb (lock_type s t) 1 (λ z. omega arith) in
    split (eqb (block (parent s t)) 0)
    (λ z. let k = rw (n, y, z) at low in absurd (omega arith))
    (λ z. rw (n, y, same o (omega (arith, eqb-false (block (parent s t)) 0 z))) (rw (n, y, z) at low))

-- below the next number, away from this one
ltb_next : (k n : ℕ) → eqb k n ≡ false → ltb k (suc n) ≡ ltb k n
ltb_next k n y =
    let apart = eqb-false k n y in
    split (ltb k n)
    (λ h. lt-ltb k (suc n) (omega (arith, ltb-true k n h)) ∙ sym h)
    (λ h. le-ltb k (suc n) (omega (arith, ltb-false k n h)) ∙ sym h)

-- the block being filled, with its destinations, over what is confirmed
module _ (s : List ℕ) (per_day : ℕ) (ok : Checked s) (block to : ℕ → ℕ) (members : ℕ → Bool) (goes : ℕ → ℕ) (m : ℕ) (st : Settled s per_day block m) (w : Waits s per_day members block m) where
  abbrev entry_at : ℕ → Entry
  entry_at k = record { transaction = k; destination = goes k; block = m + 1 }

  abbrev rows : ℕ → List Entry
  rows k = pick (members k) (entry_at k ∷ []) []

  -- the entries below n are confirmed
  abbrev block_up_to : ℕ → ℕ → ℕ
  block_up_to n k = pick (members k && ltb k n) (m + 1) (block k)

  abbrev to_up_to : ℕ → ℕ → ℕ
  to_up_to n k = pick (members k && ltb k n) (goes k) (to k)

  block_more : (n : ℕ) → members n ≡ true → block_up_to (suc n) ≡ (λ k. pick (eqb k n) (m + 1) (block_up_to n k))
  block_more n b =
      fun_ext (λ k. split (eqb k n) (λ y. rw (y, eqb-true k n y, b, lt-ltb n (suc n) (omega arith))) (λ y. rw (y, ltb_next k n y)))

  to_more : (n : ℕ) → members n ≡ true → to_up_to (suc n) ≡ (λ k. pick (eqb k n) (goes n) (to_up_to n k))
  to_more n b =
      fun_ext (λ k. split (eqb k n) (λ y. rw (y, eqb-true k n y, b, lt-ltb n (suc n) (omega arith))) (λ y. rw (y, ltb_next k n y)))

  both_same : (n k : ℕ) → members n ≡ false → (members k && ltb k (suc n)) ≡ (members k && ltb k n)
  both_same n k b = split (eqb k n) (λ y. rw (eqb-true k n y, b)) (λ y. rw (ltb_next k n y))

  -- the next entry is one that the ledger takes
  module _ (n : ℕ) (l : n < count s) (b : members n ≡ true) where
    free : (k : ℕ) → k < count s → conflict s k n ≡ true → block_up_to n k ≡ 0
    free k lk h =
        split (members k && ltb k n)
        (λ y. let g = and_parts (members k) (ltb k n) y in absurd (omega (arith, ltb-true k n g.1, w.alone n k l lk b g.0 h)))
        (λ y. rw y (w.free n k l lk b h))

    stands : opening s n ≡ false → 0 < block_up_to n (parent s n)
    stands o =
        either (w.parents n l b o)
        (λ y. rw (y, lt-ltb (parent s n) n (parent_lower ok n l o)) (omega arith))
        (λ c. split (members (parent s n) && ltb (parent s n) n) (λ y. rw y (omega arith)) (λ y. rw y c))

    parent_same : opening s n ≡ false → 0 < block (parent s n) → block_up_to n (parent s n) ≡ block (parent s n)
    parent_same o c =
        let lp = parent_below ok n l o in
        split (members (parent s n) && ltb (parent s n) n)
        (λ y.
        let g = and_parts (members (parent s n)) (ltb (parent s n) n) y in
        absurd (omega (arith, w.free (parent s n) (parent s n) lp lp g.0 (conflict_self s (parent s n)))))
        (λ y. rw y)

    lock : (h : ℕ) → (opening s n ≡ false → h ≡ block_up_to n (parent s n)) → lock_from s per_day h n < m + 1
    lock h e =
        let z = lock_agrees s per_day n m h block (ok.entries n l).lock_pair_lem st.limit (λ o c. e o ∙ parent_same o c) (w.locks n l b) in
        omega arith

    module _ (kept : Kept) (lk : Linked s (block_up_to n) (to_up_to n) kept) where
      next_fits : fits s per_day (kept (coin_of s n)) (entry_at n) ≡ true
      next_fits = entry_fits s per_day ok (block_up_to n) (to_up_to n) kept lk n l (goes n) (m + 1) (omega arith) free stands lock

      next_linked : Linked s (block_up_to (suc n)) (to_up_to (suc n)) (keep s (entry_at n) kept)
      next_linked =
          rw (block_more n b, to_more n b)
          (entry_linked s per_day ok (block_up_to n) (to_up_to n) kept lk n l (goes n) (m + 1) (omega arith) free stands lock)

  abbrev Takes : ℕ → Kept → Type 0
  Takes n kept = (after : Kept) × Linked s (block_up_to n) (to_up_to n) after × ((es : List Entry) → enter s per_day (gather n rows ++ es) kept ≡ enter s per_day es after)

  takes : (n : ℕ) → n ≤ count s → (kept : Kept) → Linked s block to kept → Takes n kept
  unfolding gather
  takes zero h kept lk = (kept, linked_by ok (λ k l. at k (block k) (m + 1)) (λ k l. at k (to k) (goes k)) lk, λ es. refl)
    where
      at : (k x y : ℕ) → x ≡ pick (members k && ltb k 0) y x
      at k x y = split (members k) (λ b. rw (b, le-ltb k 0 (omega arith))) (λ b. rw b)
  takes (suc n) h kept lk =
      let r = takes n (omega arith) kept lk in
      split (members n)
      (λ b. (
        keep s (entry_at n) r.0,
        next_linked n h b r.0 r.1,
        λ es. rw (b, append_assoc) (r.2 (entry_at n ∷ es) ∙ enter_next s per_day (entry_at n) es r.0 (next_fits n h b r.0 r.1)),
      ))
      (λ b. (
        r.0,
        linked_by ok (λ k l. ap (λ q. pick q (m + 1) (block k)) (sym (both_same n k b))) (λ k l. ap (λ q. pick q (goes k) (to k)) (sym (both_same n k b))) r.1,
        λ es. rw (b, append_assoc) (r.2 es),
      ))

  pub block_taken : (kept : Kept) → Linked s block to kept
      → (after : Kept)
      × Linked s (λ k. pick (members k) (m + 1) (block k)) (λ k. pick (members k) (goes k) (to k)) after
      × ((es : List Entry) → enter s per_day (gather (count s) rows ++ es) kept ≡ enter s per_day es after)
  block_taken kept lk =
      let r = takes (count s) (omega arith) kept lk in
      (r.0, linked_by ok (λ k l. whole k l (block k) (m + 1)) (λ k l. whole k l (to k) (goes k)) r.1, r.2)
    where
      whole : (k : ℕ) → k < count s → (x y : ℕ) → pick (members k && ltb k (count s)) y x ≡ pick (members k) y x
      whole k l x y = split (members k) (λ b. rw (b, lt-ltb k (count s) l)) (λ b. rw b)
