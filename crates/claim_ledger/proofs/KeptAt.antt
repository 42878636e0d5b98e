-- What the ledger has kept when it comes to a place of a list that it takes.
-- Assumes nothing.
use Rattle.laws.proofs.Prelude.{ℕ, zero, suc, ◌≤◌, ◌<◌, ◌≡◌, refl, sym, ◌∙◌, true, List, [], ◌∷◌, ◌⊎◌, inl, inr, eqb, eqb-true, eq-eqb, arith, Option, some, get_elem?}
use Rattle.laws.proofs.Prelude.{split, either, none_some, some_same, All, also}
use Rattle.position.proofs.Rules.{count, parent, Checked, Entry, coin_of, Kept, fits, keep, enter}
use Rattle.slots.proofs.Parents.{parent_lower}
use Rattle.ledger.proofs.Taking.{Fit, opens, spends, fits_says, enter_parts, keep_own, keep_other}

module _ (s : List ℕ) (per_day : ℕ) (ok : Checked s) where
  -- what the ledger has kept when it comes to place j of l, from `kept` on
  pub record At (l : List Entry) (kept : Kept) (j : ℕ) (f : Entry) : Type 0 where
    pub now : Kept
    pub fit : Fit s per_day (now (coin_of s f.transaction)) f
    -- each kept entry was kept at the start or stands before place j
    pub from : (coin : ℕ) (e : Entry) → now coin ≡ some e → (kept coin ≡ some e) ⊎ ((i : ℕ) × (i < j) × (get_elem? l i ≡ some e))
    -- of a coin whose entry was kept or came by, an entry is kept, of no lower number
    pub kept_on : (coin : ℕ) (e : Entry) → kept coin ≡ some e → (g : Entry) × (now coin ≡ some g) × (e.transaction ≤ g.transaction)
    pub passed_by : (i : ℕ) (e : Entry) → i < j → get_elem? l i ≡ some e → (g : Entry) × (now (coin_of s e.transaction) ≡ some g) × (e.transaction ≤ g.transaction)

  at_first : (h : Entry) (l : List Entry) (kept : Kept) (f : Entry) → get_elem? (h ∷ l) 0 ≡ some f → fits s per_day (kept (coin_of s h.transaction)) h ≡ true → At (h ∷ l) kept 0 f
  at_first h l kept f e y =
      record {
        now = kept;
        fit = rw (some_same e) at (fits_says s per_day h (kept (coin_of s h.transaction)) y);
        from = λ coin a k. inl k;
        kept_on = λ coin a k. (a, k, omega arith);
        passed_by = λ i a b k. absurd (omega arith);
      }

  -- the next entry of a coin has a higher number
  grows : (h a : Entry) (last : Option Entry) → h.transaction < count s → last ≡ some a → Fit s per_day last h → a.transaction ≤ h.transaction
  grows h a last l k (opens n o b) = none_some (sym n ∙ k)
  grows h a last l k (spends c n o p b) =
      let q = some_same (sym n ∙ k) in
      let d = parent_lower ok h.transaction l o in
      let r : a.transaction ≡ parent s h.transaction = rw q at p in
      omega arith

  at_next : (h : Entry) (l : List Entry) (kept : Kept) (j : ℕ) (f : Entry) → h.transaction < count s → fits s per_day (kept (coin_of s h.transaction)) h ≡ true → At l (keep s h kept) j f → At (h ∷ l) kept (suc j) f
  at_next h l kept j f low y r =
      record {
        now = r.now;
        fit = r.fit;
        from = λ coin e k.
            either (r.from coin e k)
            (λ q.
            split (eqb coin (coin_of s h.transaction))
            (λ z. inr (0, omega arith, sym (keep_own s h kept coin z) ∙ q))
            (λ z. inl (sym (keep_other s h kept coin z) ∙ q)))
            (λ q. inr (suc q.0, omega (arith, q.1), q.2));
        kept_on = λ coin e k.
            split (eqb coin (coin_of s h.transaction))
            (λ z.
            let w = r.kept_on coin h (keep_own s h kept coin z) in
            (w.0, w.1, omega (arith, w.2, grows h e (kept coin) low k (rw (← eqb-true coin (coin_of s h.transaction) z) at (fits_says s per_day h (kept (coin_of s h.transaction)) y)))))
            (λ z. r.kept_on coin e (keep_other s h kept coin z ∙ k));
        passed_by = λ i e b k. by i e b k;
      }
    where
      by : (i : ℕ) (e : Entry) → i < suc j → get_elem? (h ∷ l) i ≡ some e → (g : Entry) × (r.now (coin_of s e.transaction) ≡ some g) × (e.transaction ≤ g.transaction)
      by zero e b k =
          rw (← some_same k) (r.kept_on (coin_of s h.transaction) h (keep_own s h kept (coin_of s h.transaction) (eq-eqb (coin_of s h.transaction) (coin_of s h.transaction) refl)))
      by (suc i) e b k = r.passed_by i e (omega arith) k

  pub at_place : (l : List Entry) (kept : Kept) (j : ℕ) (f : Entry) → All (λ e. e.transaction < count s) l → (enter s per_day l kept).accepts ≡ true → get_elem? l j ≡ some f → At l kept j f
  at_place [] kept j f low a e = none_some e
  at_place (h ∷ l) kept zero f low a e = at_first h l kept f e (enter_parts s per_day h l kept a).0
  at_place (h ∷ l) kept (suc j) f (also b low) a e =
      let w = enter_parts s per_day h l kept a in
      at_next h l kept j f b w.0 (at_place l (keep s h kept) j f low w.1 e)
