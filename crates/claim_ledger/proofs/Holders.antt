-- Where the ledger is linked to what is confirmed, its holder of every coin is the one read from there.
-- Assumes nothing.
use Rattle.laws.proofs.Prelude.{ℕ, zero, suc, ◌<◌, ◌≡◌, refl, sym, ap, ◌∙◌, Bool, true, false, not, ◌&&◌, List, eqb, ltb, eqb-true, ltb-true, eq-eqb, lt-ltb, not-true}
use Rattle.laws.proofs.Prelude.{arith, not-suc-le-zero, le_of_suc-le-suc, eq-or-lt_of_le, none, some, pick, split, either, clash, and_parts, fails_by, any_some}
use Rattle.laws.proofs.Prelude.{any_found, none_some, some_same}
use Rattle.position.proofs.Rules.{count, parent, Entry, coin_of, nobody, Kept, ledger_holder, block_of, is_confirmed, confirmed_to, payee, unconfirmed, holder_in}
use Rattle.position.specs.declared.Position.{Position}
use Rattle.ledger.specs.Ledger.{entry_holder}
use Rattle.readings.specs.Holder.{confirmed_child, ends_coin, payee_below, holder}
use Rattle.claim_ledger.proofs.Linked.{Child, Leaf, Linked}
use Rattle.claim_ledger.proofs.OneEntry.{kept_cases}

-- the payee of the one that passes; nobody where none does
payee_one : (n : ℕ) (passes : ℕ → Bool) (pays : ℕ → ℕ) (x : ℕ) → x < n → passes x ≡ true → ((k : ℕ) → k < n → passes k ≡ true → k ≡ x) → payee_below n passes pays ≡ pays x
unfolding payee_below
payee_one zero passes pays x l h one = absurd (not-suc-le-zero l)
payee_one (suc n) passes pays x l h one =
    split (passes n)
    (λ e. rw (e, one n (omega arith) e))
    (λ e.
    rw e
    (either (eq-or-lt_of_le (le_of_suc-le-suc l))
    (λ q. clash (rw q at h) e)
    (λ m. payee_one n passes pays x m h (λ k lk. one k (omega arith)))))

payee_none : (n : ℕ) (passes : ℕ → Bool) (pays : ℕ → ℕ) → ((k : ℕ) → k < n → passes k ≡ false) → payee_below n passes pays ≡ nobody
unfolding payee_below
payee_none zero passes pays h = refl
payee_none (suc n) passes pays h = rw (h n (omega arith)) (payee_none n passes pays (λ k l. h k (omega arith)))

module _ (s : List ℕ) (block to : ℕ → ℕ) where
  abbrev confirmed : ℕ → Bool
  confirmed k = ltb 0 (block k)

  abbrev pays : ℕ → ℕ
  pays k = pick (confirmed k) (to k) unconfirmed

  has_child_lem : (t : ℕ) → Child s block t → confirmed_child s confirmed t ≡ true
  unfolding confirmed_child
  has_child_lem t c = any_found (count s) c.0 (λ k. eqb (parent s k) t && confirmed k) c.1 (rw (eq-eqb (parent s c.0) t c.2, lt-ltb 0 (block c.0) c.3))

  child_of : (t : ℕ) → confirmed_child s confirmed t ≡ true → Child s block t
  unfolding confirmed_child
  child_of t h =
      let r = any_some (count s) (λ k. eqb (parent s k) t && confirmed k) h in
      let g = and_parts (eqb (parent s r.0) t) (confirmed r.0) r.2 in
      (r.0, r.1, eqb-true (parent s r.0) t g.0, ltb-true 0 (block r.0) g.1)

  module _ (kept : Kept) (lk : Linked s block to kept) (coin : ℕ) where
    -- what ends a coin has the entry kept for it, and is alone in that
    ends_says : (t : ℕ) → t < count s → ends_coin s confirmed coin t ≡ true → (e : Entry) × (kept coin ≡ some e) × (e.transaction ≡ t)
    unfolding ends_coin
    ends_says t l h =
        let g = and_parts (eqb (coin_of s t) coin) (confirmed t && not (confirmed_child s confirmed t)) h in
        let a = and_parts (confirmed t) (not (confirmed_child s confirmed t)) g.1 in
        either (lk.covers t l (ltb-true 0 (block t) a.0))
        (λ y. clash (has_child_lem t y) (not-true (confirmed_child s confirmed t) a.1))
        (λ f. rw (eqb-true (coin_of s t) coin g.0) at f)

    ends_kept : (e : Entry) → Leaf s block to coin e → ends_coin s confirmed coin e.transaction ≡ true
    unfolding ends_coin
    ends_kept e f =
        rw (eq-eqb (coin_of s e.transaction) coin f.own, lt-ltb 0 (block e.transaction) f.confirmed, childless)
      where
        childless : confirmed_child s confirmed e.transaction ≡ false
        childless =
            fails_by (confirmed_child s confirmed e.transaction) (λ h. let c = child_of e.transaction h in omega (arith, c.3, f.childless c.0 c.1 c.2))

    kept_holds : (e : Entry) → kept coin ≡ some e → holder s confirmed pays coin ≡ ledger_holder kept coin
    unfolding holder ledger_holder entry_holder
    kept_holds e h =
        let f = lk.leaf coin e h in
        rw h
        (payee_one (count s) (ends_coin s confirmed coin) pays e.transaction f.low (ends_kept e f)
        (λ t l y. let w = ends_says t l y in sym w.2 ∙ ap (λ (a : Entry). a.transaction) (some_same (sym w.1 ∙ h)))
        ∙ rw (lt-ltb 0 (block e.transaction) f.confirmed) (sym f.payee))

    none_holds : kept coin ≡ none → holder s confirmed pays coin ≡ ledger_holder kept coin
    unfolding holder ledger_holder entry_holder
    none_holds h =
        rw h
        (payee_none (count s) (ends_coin s confirmed coin) pays
        (λ t l. fails_by (ends_coin s confirmed coin t) (λ y. none_some (sym h ∙ (ends_says t l y).1))))

    pub same_holder : holder s confirmed pays coin ≡ ledger_holder kept coin
    same_holder = kept_cases (kept coin) none_holds kept_holds

-- over a position
pub position_holder : (s : List ℕ) (p : Position) (kept : Kept) → Linked s (block_of p) (confirmed_to p) kept → (coin : ℕ) → holder_in s p coin ≡ ledger_holder kept coin
unfolding holder_in is_confirmed payee
position_holder s p kept lk coin = same_holder s (block_of p) (confirmed_to p) kept lk coin
