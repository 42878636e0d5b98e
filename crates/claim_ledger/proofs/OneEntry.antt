-- The ledger takes the entry of one more confirmed transaction, and stays linked.
-- Assumes nothing.
use Rattle.laws.proofs.Prelude.{ℕ, zero, suc, ◌<◌, ◌≡◌, refl, sym, ap, ◌∙◌, true, false, List, inl, inr, eqb, eqb-true, eqb-false, eq-eqb, arith, Option, none, some}
use Rattle.laws.proofs.Prelude.{pick, split, either, clash, some_same}
use Rattle.position.proofs.Rules.{count, parent, opening, Checked, conflict, Entry, coin_of, Kept, lock_from, fits, keep}
use Rattle.slots.proofs.Parents.{child_spends, parent_lower, parent_below, parent_has}
use Rattle.slots.proofs.Conflicts.{conflict_self, siblings_conflict}
use Rattle.slots.proofs.Ancestors.{Above, holds_above}
use Rattle.ledger.proofs.Taking.{opening_fits, spend_fits, keep_own, keep_other}
use Rattle.readings.proofs.Coins.{coin_opening, coin_spend, coin_above}
use Rattle.claim_ledger.proofs.Linked.{Leaf, Linked}

zero_by : (n : ℕ) → (0 < n → ⊥) → n ≡ 0
zero_by zero h = refl
zero_by (suc n) h = absurd (h (omega arith))

-- none is kept, or some entry is
pub kept_cases : {X : Type 0} (o : Option Entry) → (o ≡ none → X) → ((e : Entry) → o ≡ some e → X) → X
kept_cases none f g = f refl
kept_cases (some e) f g = g e refl

-- transaction i, for destination d, in block b
module _ (s : List ℕ) (per_day : ℕ) (ok : Checked s) (block to : ℕ → ℕ) (kept : Kept) (lk : Linked s block to kept) (i : ℕ) (l : i < count s) (d b : ℕ) (pos : 0 < b)
    (free : (k : ℕ) → k < count s → conflict s k i ≡ true → block k ≡ 0) (stands : opening s i ≡ false → 0 < block (parent s i))
    (lock : (h : ℕ) → (opening s i ≡ false → h ≡ block (parent s i)) → lock_from s per_day h i < b) where
  abbrev block' : ℕ → ℕ
  block' k = pick (eqb k i) b (block k)

  abbrev to' : ℕ → ℕ
  to' k = pick (eqb k i) d (to k)

  abbrev entry : Entry
  entry = record { transaction = i; destination = d; block = b }

  new : block i ≡ 0
  new = free i l (conflict_self s i)

  settled_up : {x k : ℕ} → Above s x k → k < count s → 0 < block k → 0 < block x
  settled_up = holds_above (λ k. 0 < block k) (λ k n h c. lk.parents k n c (parent_has ok k n h))

  block_here : block' i ≡ b
  block_here = rw (eq-eqb i i refl)

  to_here : to' i ≡ d
  to_here = rw (eq-eqb i i refl)

  apart : (k : ℕ) → 0 < block k → eqb k i ≡ false
  apart k c = split (eqb k i) (λ y. let z = rw (eqb-true k i y) at c in absurd (omega (arith, new))) (λ y. y)

  still : (k : ℕ) → 0 < block k → 0 < block' k
  still k c = rw (apart k c) c

  -- an opening finds none kept, a spend its parent's entry
  fresh : opening s i ≡ true → (e : Entry) → kept (coin_of s i) ≡ some e → ⊥
  fresh o e h =
      let f = lk.leaf (coin_of s i) e h in
      let c = rw (f.own, coin_opening s i o) at (settled_up (coin_above s ok e.transaction f.low) f.low f.confirmed) in
      omega (arith, new)

  parent_kept : opening s i ≡ false → (e : Entry) × (kept (coin_of s i) ≡ some e) × (e.transaction ≡ parent s i)
  parent_kept o =
      rw (coin_spend s ok i l o)
      (either (lk.covers (parent s i) (parent_below ok i l o) (stands o))
      (λ y. absurd (omega (arith, y.3, free y.0 y.1 (siblings_conflict s y.0 i (child_spends ok y.0 (rw y.2 (parent_below ok i l o))) y.2))))
      (λ f. f))

  pub entry_fits : fits s per_day (kept (coin_of s i)) entry ≡ true
  entry_fits =
      split (opening s i)
      (λ o.
      kept_cases (kept (coin_of s i))
      (λ e. rw e (opening_fits s per_day entry o (lock 0 (λ n. clash o n))))
      (λ e h. absurd (fresh o e h)))
      (λ o.
      let f = parent_kept o in
      let h = (lk.leaf (coin_of s i) f.0 f.1).height in
      rw f.1 (spend_fits s per_day entry f.0 o f.2 (lock f.0.block (λ n. rw f.2 at h))))

  leaf_new : (coin : ℕ) → eqb coin (coin_of s i) ≡ true → Leaf s block' to' coin entry
  leaf_new coin y =
      record {
        low = l;
        own = sym (eqb-true coin (coin_of s i) y);
        confirmed = rw block_here pos;
        height = rw block_here;
        payee = rw to_here;
        childless = λ k lk' h.
            let o = child_spends ok k (rw h l) in
            let lower = parent_lower ok k lk' o in
            split (eqb k i)
            (λ w. absurd (omega (arith, eqb-true k i w)))
            (λ w. rw w (zero_by (block k) (λ c. let z = rw h at (lk.parents k lk' c o) in omega (arith, new))));
      }

  leaf_old : (coin : ℕ) (e : Entry) → eqb coin (coin_of s i) ≡ false → kept coin ≡ some e → Leaf s block' to' coin e
  leaf_old coin e y h =
      let f = lk.leaf coin e h in
      let q = apart e.transaction f.confirmed in
      record {
        low = f.low;
        own = f.own;
        confirmed = rw q f.confirmed;
        height = rw q f.height;
        payee = rw q f.payee;
        childless = λ k lk' pk.
            split (eqb k i)
            (λ w.
            let o = child_spends ok k (rw pk f.low) in
            absurd (eqb-false coin (coin_of s i) y (sym f.own ∙ ap (coin_of s) (sym pk) ∙ sym (coin_spend s ok k lk' o) ∙ ap (coin_of s) (eqb-true k i w))))
            (λ w. rw w (f.childless k lk' pk));
      }

  pub entry_linked : Linked s block' to' (keep s entry kept)
  entry_linked =
      record {
        parents = λ t n c o.
            split (eqb t i)
            (λ y. let q = eqb-true t i y in still (parent s t) (rw q (stands (rw q at o))))
            (λ y. still (parent s t) (lk.parents t n (rw y at c) o));
        leaf = λ coin e h.
            split (eqb coin (coin_of s i))
            (λ y. rw (some_same (sym (keep_own s entry kept coin y) ∙ h)) at (leaf_new coin y))
            (λ y. leaf_old coin e y (sym (keep_other s entry kept coin y) ∙ h));
        covers = λ t n c.
            split (eqb t i)
            (λ y. inr (entry, rw (eqb-true t i y) (keep_own s entry kept (coin_of s i) (eq-eqb (coin_of s i) (coin_of s i) refl)), sym (eqb-true t i y)))
            (λ y.
            either (lk.covers t n (rw y at c))
            (λ f. inl (f.0, f.1, f.2, still f.0 f.3))
            (λ f.
            split (eqb (coin_of s t) (coin_of s i))
            (λ z.
            let k = rw (eqb-true (coin_of s t) (coin_of s i) z) at f.1 in
            split (opening s i)
            (λ o. absurd (fresh o f.0 k))
            (λ o.
            let g = parent_kept o in
            inl (i, l, sym g.2 ∙ ap (λ (e : Entry). e.transaction) (some_same (sym g.1 ∙ k)) ∙ f.2, rw block_here pos)))
            (λ z. inr (f.0, keep_other s entry kept (coin_of s t) z ∙ f.1, f.2))));
      }
