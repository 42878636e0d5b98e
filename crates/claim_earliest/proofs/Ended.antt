-- A list that the ledger takes has one paying entry of a coin at most; so one that confirms a mask's shows that mask possible.
-- Assumes nothing.
use Rattle.laws.proofs.Prelude.{ℕ, zero, suc, ◌≤◌, ◌<◌, ◌≡◌, refl, sym, ap, ◌∙◌, true, false, List, [], ◌∷◌, eqb, ltb, eqb-true, ltb-true, ltb-false, eq-eqb, arith}
use Rattle.laws.proofs.Prelude.{Option, some, get_elem?, split, clash, fails_by, All, also, none_some, some_same, all_place, bit}
use Rattle.position.proofs.Rules.{count, payees, Checked, Entry, in_order, coin_of, Kept, none_kept, fits, keep, enter, ledger}
use Rattle.ledger.proofs.Taking.{Fit, opens, spends, fits_says, enter_parts, keep_own, keep_other}
use Rattle.claim_earliest.proofs.Possible.{Possible, Confirms}
use Rattle.claim_earliest.proofs.Lowest.{none_earlier}
use Rattle.claim_earliest.proofs.Plans.{plan_for, earliest_line}

module _ (s : List ℕ) (per_day : ℕ) (ok : Checked s) where
  -- nothing fits over a paying entry
  ends : (h e : Entry) (last : Option Entry) → last ≡ some e → e.transaction < count s → 1 ≤ payees s e.transaction → h.transaction < count s → Fit s per_day last h → ⊥
  ends h e last k le pay lh (opens n o b) = none_some (sym n ∙ k)
  ends h e last k le pay lh (spends a n o p b) =
      (ok.entries e.transaction le).paying_childless pay h.transaction lh (sym p ∙ ap (λ (x : Entry). x.transaction) (some_same (sym n ∙ k)))

  other_coin : (h : Entry) (kept : Kept) (e : Entry) (coin : ℕ) → h.transaction < count s → fits s per_day (kept (coin_of s h.transaction)) h ≡ true
      → kept coin ≡ some e → e.transaction < count s → 1 ≤ payees s e.transaction → eqb coin (coin_of s h.transaction) ≡ false
  other_coin h kept e coin b y k le pay =
      fails_by (eqb coin (coin_of s h.transaction))
      (λ z. ends h e (kept coin) k le pay b (rw (← eqb-true coin (coin_of s h.transaction) z) at (fits_says s per_day h (kept (coin_of s h.transaction)) y)))

  -- what stands behind a paying entry is of other coins
  stays : (l : List Entry) (kept : Kept) → All (λ e. e.transaction < count s) l → (enter s per_day l kept).accepts ≡ true
      → (e : Entry) (coin : ℕ) → kept coin ≡ some e → e.transaction < count s → 1 ≤ payees s e.transaction → (i : ℕ) (f : Entry) → get_elem? l i ≡ some f → coin_of s f.transaction ≡ coin → ⊥
  stays [] kept low a e coin k le pay i f m q = none_some m
  stays (h ∷ l) kept (also b low) a e coin k le pay zero f m q =
      clash (eq-eqb coin (coin_of s h.transaction) (rw (some_same m) (sym q))) (other_coin h kept e coin b (enter_parts s per_day h l kept a).0 k le pay)
  stays (h ∷ l) kept (also b low) a e coin k le pay (suc i) f m q =
      let w = enter_parts s per_day h l kept a in
      stays l (keep s h kept) low w.1 e coin (keep_other s h kept coin (other_coin h kept e coin b w.0 k le pay) ∙ k) le pay i f m q

  one_end : (l : List Entry) (kept : Kept) → All (λ e. e.transaction < count s) l → (enter s per_day l kept).accepts ≡ true
      → (i j : ℕ) (e f : Entry) → i < j → get_elem? l i ≡ some e → get_elem? l j ≡ some f → 1 ≤ payees s e.transaction → coin_of s f.transaction ≡ coin_of s e.transaction → ⊥
  one_end [] kept low a i j e f b k m pay q = none_some k
  one_end (h ∷ l) kept low a zero zero e f b k m pay q = omega arith
  one_end (h ∷ l) kept low a (suc i) zero e f b k m pay q = omega arith
  one_end (h ∷ l) kept (also c low) a zero (suc j) e f b k m pay q =
      let g : h ≡ e = some_same k in
      stays l (keep s h kept) low (enter_parts s per_day h l kept a).1 h (coin_of s h.transaction)
      (keep_own s h kept (coin_of s h.transaction) (eq-eqb (coin_of s h.transaction) (coin_of s h.transaction) refl)) c (rw g pay) j f m (rw g q)
  one_end (h ∷ l) kept (also c low) a (suc i) (suc j) e f b k m pay q =
      one_end l (keep s h kept) low (enter_parts s per_day h l kept a).1 i j e f (omega arith) k m pay q

  module _ (l : List Entry) (low : All (λ e. e.transaction < count s) l) (o : in_order l ≡ true) (a : (ledger s per_day l).accepts ≡ true) where
    same_end : (i j : ℕ) (e f : Entry) → get_elem? l i ≡ some e → get_elem? l j ≡ some f → 1 ≤ payees s e.transaction → 1 ≤ payees s f.transaction
        → coin_of s e.transaction ≡ coin_of s f.transaction → e ≡ f
    unfolding ledger
    same_end i j e f k m p r q =
        split (ltb i j)
        (λ y. absurd (one_end l none_kept low a i j e f (ltb-true i j y) k m p (sym q)))
        (λ y.
        split (ltb j i)
        (λ z. absurd (one_end l none_kept low a j i f e (ltb-true j i z) m k r q))
        (λ z. let w : i ≡ j = omega (arith, ltb-false i j y, ltb-false j i z) in some_same (sym k ∙ rw w m)))

    pub shown_possible : (mask limit : ℕ) → All (λ e. e.block ≤ limit) l → ((x : ℕ) → x < count s → bit mask x ≡ true → 1 ≤ payees s x) → Confirms s mask l → Possible s per_day mask limit
    shown_possible mask limit few pay c =
        record {
          apart = λ x y lx ly bx by q.
              let w = c x lx bx in
              let v = c y ly by in
              let e = same_end w.0 v.0 w.1 v.1 w.2 v.2 (rw w.3 (pay x lx bx)) (rw v.3 (pay y ly by)) (rw (w.3, v.3) q) in
              sym w.3 ∙ ap (λ (z : Entry). z.transaction) e ∙ v.3;
          within = λ t lt h.
              let w = plan_for s ok mask t h in
              let v = c w.0 w.1 w.2 in
              let n = none_earlier s per_day ok l low o a v.0 v.1 v.2 in
              let n = rw v.3 at n in
              omega (arith, earliest_line s ok per_day w.3 w.1, all_place few v.0 v.1 v.2);
        }
