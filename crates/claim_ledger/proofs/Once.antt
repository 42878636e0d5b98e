-- In a list that the ledger takes, no two entries are rivals, and a spend stands behind its parent's entry.
-- Assumes nothing.
use Rattle.laws.proofs.Prelude.{ℕ, ◌≤◌, ◌<◌, ◌≡◌, sym, ap, ◌∙◌, true, false, List, ltb, ltb-true, ltb-false, arith, Option, some, get_elem?, split, either, clash}
use Rattle.laws.proofs.Prelude.{none_some, some_same, All, all_place}
use Rattle.position.proofs.Rules.{count, parent, opening, Checked, conflict, Entry, coin_of, none_kept, ledger}
use Rattle.slots.proofs.Parents.{parent_lower}
use Rattle.slots.proofs.Conflicts.{conflict_parts, conflict_parent, conflict_sym, same_opening}
use Rattle.ledger.proofs.Taking.{Fit, opens, spends}
use Rattle.readings.proofs.Coins.{coin_spend}
use Rattle.claim_ledger.proofs.KeptAt.{At, at_place}

module _ (s : List ℕ) (per_day : ℕ) (ok : Checked s) where
  same_coin : (e f : ℕ) → e < count s → f < count s → conflict s f e ≡ true → coin_of s f ≡ coin_of s e
  same_coin e f le lf c =
      either (conflict_parts s f e c)
      (λ q. ap (coin_of s) q)
      (λ w. coin_spend s ok f lf w.0 ∙ ap (coin_of s) w.1 ∙ sym (coin_spend s ok e le (sym (same_opening s f e w.1) ∙ w.0)))

  -- a rival of f whose coin's kept entry has no lower number leaves f no fit
  no_fit : (e f : Entry) (last : Option Entry) (g : Entry) → e.transaction < count s → conflict s f.transaction e.transaction ≡ true
      → last ≡ some g → e.transaction ≤ g.transaction → Fit s per_day last f → ⊥
  no_fit e f last g le c k b (opens n o m) = none_some (sym n ∙ k)
  no_fit e f last g le c k b (spends a n o p m) =
      let q = conflict_parent s f.transaction e.transaction c in
      let r : g.transaction ≡ parent s f.transaction = rw (some_same (sym n ∙ k)) at p in
      let d = parent_lower ok e.transaction le (sym (same_opening s f.transaction e.transaction q) ∙ o) in
      omega arith

  module _ (l : List Entry) (low : All (λ e. e.transaction < count s) l) (a : (ledger s per_day l).accepts ≡ true) where
    taken_at : (j : ℕ) (f : Entry) → get_elem? l j ≡ some f → At s per_day ok l none_kept j f
    unfolding ledger
    taken_at j f k = at_place s per_day ok l none_kept j f low a k

    -- no entry is a rival of a later one
    no_later_rival : (i j : ℕ) (e f : Entry) → i < j → get_elem? l i ≡ some e → get_elem? l j ≡ some f
        → conflict s f.transaction e.transaction ≡ true → ⊥
    no_later_rival i j e f b k m c =
        let le = all_place low i e k in
        let r = taken_at j f m in
        let w = r.passed_by i e b k in
        no_fit e f (r.now (coin_of s f.transaction)) w.0 le c (rw (same_coin e.transaction f.transaction le (all_place low j f m) c) w.1) w.2 r.fit

    by_fit : (j : ℕ) (f : Entry) → opening s f.transaction ≡ false → (r : At s per_day ok l none_kept j f) → Fit s per_day (r.now (coin_of s f.transaction)) f
        → (i : ℕ) × (e : Entry) × (i < j) × (get_elem? l i ≡ some e) × (e.transaction ≡ parent s f.transaction)
    unfolding none_kept
    by_fit j f n r (opens h o b) = clash o n
    by_fit j f n r (spends e h o p b) =
        either (r.from (coin_of s f.transaction) e h) (λ k. none_some k) (λ k. (k.0, e, k.1, k.2, p))

    -- a spend stands behind its parent's entry
    pub parent_before : (j : ℕ) (f : Entry) → get_elem? l j ≡ some f → opening s f.transaction ≡ false
        → (i : ℕ) × (e : Entry) × (i < j) × (get_elem? l i ≡ some e) × (e.transaction ≡ parent s f.transaction)
    parent_before j f k n = let r = taken_at j f k in by_fit j f n r r.fit

    -- rivals stand at one place
    pub one_place : (i j : ℕ) (e f : Entry) → get_elem? l i ≡ some e → get_elem? l j ≡ some f → conflict s f.transaction e.transaction ≡ true → i ≡ j
    one_place i j e f k m c =
        split (ltb i j)
        (λ y. absurd (no_later_rival i j e f (ltb-true i j y) k m c))
        (λ y.
        split (ltb j i)
        (λ z. absurd (no_later_rival j i f e (ltb-true j i z) m k (conflict_sym s f.transaction e.transaction c)))
        (λ z. omega (arith, ltb-false i j y, ltb-false j i z)))
