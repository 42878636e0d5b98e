-- A list each of whose entries fits those before it is taken by the ledger, and one that it takes is such a list.
-- Assumes nothing.
use Rattle.laws.proofs.Prelude.{ℕ, zero, suc, ◌<◌, ◌≡◌, refl, sym, ap, ◌∙◌, true, false, List, [], ◌∷◌, ◌⊎◌, inl, inr, eqb, eqb-true, eq-eqb, arith, Option, none, some}
use Rattle.laws.proofs.Prelude.{get_elem?, split, either, clash, fails_by, none_some, some_same, All, also}
use Rattle.position.proofs.Rules.{count, parent, opening, Checked, conflict, Entry, coin_of, Kept, none_kept, fits, keep, enter, ledger}
use Rattle.slots.proofs.Conflicts.{conflict_self, siblings_conflict}
use Rattle.ledger.proofs.Taking.{Fit, opening_fits, spend_fits, enter_next, keep_own, keep_other}
use Rattle.ledger.proofs.Taking
use Rattle.readings.proofs.Coins.{coin_opening, coin_spend}
use Rattle.claim_ledger.proofs.KeptAt.{At, at_place}
use Rattle.claim_ledger.proofs.Once.{one_place}
use Rattle.claim_blocks.specs.Words.{Before}
use Rattle.claim_blocks.proofs.Standing.{Founded, opens, spends, Fitting, AllFitting}

-- what the ledger has kept, over those that it has entered
record Entered (s : List ℕ) (seen : Entry → Type 0) (kept : Kept) : Type 0 where
  -- a coin with a kept entry was opened
  pub opened : (coin : ℕ) (e : Entry) → kept coin ≡ some e → (o : Entry) × seen o × (o.transaction ≡ coin)
  -- an entry is spent or kept
  pub covers : (e : Entry) → seen e → ((c : Entry) × seen c × (opening s c.transaction ≡ false) × (parent s c.transaction ≡ e.transaction)) ⊎ (kept (coin_of s e.transaction) ≡ some e)

-- entered, or before place j of what is left
abbrev Behind : (Entry → Type 0) → List Entry → ℕ → Entry → Type 0
Behind seen l j e = seen e ⊎ Before l j e

module _ (s : List ℕ) (per_day : ℕ) (ok : Checked s) where
  module _ (seen : Entry → Type 0) (kept : Kept) (g : Entered s seen kept) (f : Entry) (low : f.transaction < count s) where
    -- what the ledger finds for f
    record Found : Type 0 where
      pub passes : fits s per_day (kept (coin_of s f.transaction)) f ≡ true
      pub spent : (e : Entry) → kept (coin_of s f.transaction) ≡ some e → (opening s f.transaction ≡ false) × (parent s f.transaction ≡ e.transaction)
      pub first : (opening s f.transaction ≡ true) ⊎ ((e : Entry) × (kept (coin_of s f.transaction) ≡ some e))

    none_of : (last : Option Entry) → ((e : Entry) → last ≡ some e → ⊥) → last ≡ none
    none_of none h = refl
    none_of (some e) h = absurd (h e refl)

    none_kept_lem : Fitting s per_day seen f → opening s f.transaction ≡ true → (e : Entry) → kept (coin_of s f.transaction) ≡ some e → ⊥
    none_kept_lem r o e k =
        let w = g.opened (coin_of s f.transaction) e k in
        clash {b = conflict s f.transaction w.0.transaction} (rw (w.2, coin_opening s f.transaction o) (conflict_self s f.transaction)) (r.alone w.0 w.1)

    parent_kept : Fitting s per_day seen f → (e : Entry) → seen e → opening s f.transaction ≡ false → e.transaction ≡ parent s f.transaction → kept (coin_of s f.transaction) ≡ some e
    parent_kept r e m o p =
        rw (coin_spend s ok f.transaction low o, ← p)
        (either (g.covers e m)
        (λ w. clash (siblings_conflict s f.transaction w.0.transaction o (sym p ∙ sym w.3)) (r.alone w.0 w.1))
        (λ w. w))

    found : Fitting s per_day seen f → Founded s per_day seen f → Found
    found r (opens o l) =
        record {
          passes = rw (none_of (kept (coin_of s f.transaction)) (none_kept_lem r o)) (opening_fits s per_day f o l);
          spent = λ e k. absurd (none_kept_lem r o e k);
          first = inl o;
        }
    found r (spends e m o p l) =
        let kp = parent_kept r e m o p in
        record {
          passes = rw kp (spend_fits s per_day f e o p l);
          spent = λ a k. (o, sym p ∙ ap (λ (x : Entry). x.transaction) (some_same (sym kp ∙ k)));
          first = inr (e, kp);
        }

    -- those entered after f
    abbrev Seen : Entry → Type 0
    Seen e = seen e ⊎ (e ≡ f)

    still_opened : (coin : ℕ) (e : Entry) → kept coin ≡ some e → (o : Entry) × Seen o × (o.transaction ≡ coin)
    still_opened coin e k = let w = g.opened coin e k in (w.0, inl w.1, w.2)

    entered_next : Found → Entered s Seen (keep s f kept)
    entered_next w =
        record {
          opened = λ coin e k.
              split (eqb coin (coin_of s f.transaction))
              (λ y.
              rw (eqb-true coin (coin_of s f.transaction) y)
              (either w.first
              (λ o. (f, inr refl, sym (coin_opening s f.transaction o)))
              (λ b. still_opened (coin_of s f.transaction) b.0 b.1)))
              (λ y. still_opened coin e (sym (keep_other s f kept coin y) ∙ k));
          covers = λ e m.
              either m
              (λ m.
              either (g.covers e m)
              (λ c. inl (c.0, inl c.1, c.2, c.3))
              (λ k.
              split (eqb (coin_of s e.transaction) (coin_of s f.transaction))
              (λ y. let b = w.spent e (rw (eqb-true (coin_of s e.transaction) (coin_of s f.transaction) y) at k) in inl (f, inr refl, b.0, b.1))
              (λ y. inr (keep_other s f kept (coin_of s e.transaction) y ∙ k))))
              (λ q. rw q (inr (keep_own s f kept (coin_of s f.transaction) (eq-eqb (coin_of s f.transaction) (coin_of s f.transaction) refl))));
        }

  right_by : {b c : Entry → Type 0} {f : Entry} → ((e : Entry) → b e → c e) → ((e : Entry) → c e → b e) → Fitting s per_day b f → Fitting s per_day c f
  right_by {b} {c} {f} there back r = record { based = move r.based; alone = λ e m. r.alone e (back e m) }
    where
      move : Founded s per_day b f → Founded s per_day c f
      move (opens o l) = opens o l
      move (spends e m o p l) = spends e (there e m) o p l

  module _ (seen : Entry → Type 0) (f : Entry) (l : List Entry) where
    first_seen : (e : Entry) → Behind seen (f ∷ l) 0 e → seen e
    first_seen e (inl m) = m
    first_seen e (inr b) = absurd (omega (arith, b.earlier))

    passed_on : (j : ℕ) (e : Entry) (i : ℕ) → i < suc j → get_elem? (f ∷ l) i ≡ some e → Behind (λ e. seen e ⊎ (e ≡ f)) l j e
    passed_on j e zero b k = inl (inr (sym (some_same k)))
    passed_on j e (suc i) b k = inr (record { place = i; earlier = omega arith; stands = k })

    next_seen : (j : ℕ) (e : Entry) → Behind seen (f ∷ l) (suc j) e → Behind (λ e. seen e ⊎ (e ≡ f)) l j e
    next_seen j e (inl m) = inl (inl m)
    next_seen j e (inr b) = passed_on j e b.place b.earlier b.stands

    was_seen : (j : ℕ) (e : Entry) → Behind (λ e. seen e ⊎ (e ≡ f)) l j e → Behind seen (f ∷ l) (suc j) e
    was_seen j e (inl (inl m)) = inl m
    was_seen j e (inl (inr q)) = inr (record { place = 0; earlier = omega arith; stands = rw q })
    was_seen j e (inr b) = inr (record { place = suc b.place; earlier = omega (arith, b.earlier); stands = b.stands })

  enters : (l : List Entry) (seen : Entry → Type 0) (kept : Kept) → Entered s seen kept → All (λ e. e.transaction < count s) l
      → ((j : ℕ) (f : Entry) → get_elem? l j ≡ some f → Fitting s per_day (Behind seen l j) f) → (enter s per_day l kept).accepts ≡ true
  unfolding enter
  enters [] seen kept g low r = refl
  enters (f ∷ l) seen kept g (also b low) r =
      let q : Fitting s per_day seen f = right_by (first_seen seen f l) (λ e m. inl m) (r 0 f refl) in
      let w = found seen kept g f b q q.based in
      rw (enter_next s per_day f l kept w.passes)
      (enters l (λ e. seen e ⊎ (e ≡ f)) (keep s f kept) (entered_next seen kept g f b w) low
      (λ j e k. right_by (next_seen seen f l j) (was_seen seen f l j) (r (suc j) e k)))

  none_entered : Entered s (λ e. ⊥) none_kept
  unfolding none_kept
  none_entered = record { opened = λ coin e k. none_some k; covers = λ e m. absurd m }

  behind_none : (l : List Entry) (j : ℕ) (e : Entry) → Behind (λ e. ⊥) l j e → Before l j e
  behind_none l j e (inl m) = absurd m
  behind_none l j e (inr b) = b

  module _ (l : List Entry) (low : All (λ e. e.transaction < count s) l) where
    pub right_taken : AllFitting s per_day l → (ledger s per_day l).accepts ≡ true
    unfolding ledger
    right_taken r = enters l (λ e. ⊥) none_kept none_entered low (λ j f k. right_by (λ e b. inr b) (behind_none l j) (r j f k))

    module _ (a : (ledger s per_day l).accepts ≡ true) where
      based_at : (j : ℕ) (f : Entry) (r : At s per_day ok l none_kept j f) → Fit s per_day (r.now (coin_of s f.transaction)) f → Founded s per_day (Before l j) f
      unfolding none_kept
      based_at j f r (Taking.opens h o b) = opens o b
      based_at j f r (Taking.spends e h o p b) =
          either (r.from (coin_of s f.transaction) e h) (λ k. none_some k) (λ k. spends e (record { place = k.0; earlier = k.1; stands = k.2 }) o p b)

      taken_at : (j : ℕ) (f : Entry) → get_elem? l j ≡ some f → At s per_day ok l none_kept j f
      unfolding ledger
      taken_at j f k = at_place s per_day ok l none_kept j f low a k

      pub taken_right : AllFitting s per_day l
      taken_right j f k =
          let r = taken_at j f k in
          record {
            based = based_at j f r r.fit;
            alone = λ e b.
                fails_by (conflict s f.transaction e.transaction)
                (λ c. omega (arith, b.earlier, one_place s per_day ok l low a b.place j e f b.stands k c));
          }
