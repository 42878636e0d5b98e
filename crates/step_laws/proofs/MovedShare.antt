-- Where entries and shared signatures come from in a share and in first shares.
-- Assumes nothing.
use Rattle.laws.proofs.Prelude.{ℕ, ◌<◌, ◌≡◌, refl, sym, ◌∙◌, Bool, true, false, not, ◌&&◌, ◌||◌, List, [], ◌∷◌, ◌⊎◌, inl, inr, eqb, ltb, eqb-true, eq-eqb, split, either}
use Rattle.laws.proofs.Prelude.{clash, and_parts, or_parts, passed, every, bit}
use Rattle.position.proofs.Rules.{count, conduct, Destination, Share, contract, destinations, destination_number, is_party, empty_slot, with_shared, with_mark, share_mask}
use Rattle.position.proofs.Rules.{slot, shared, keys, no_transaction, shares_to, first_share_fields, fields_right, first_shares, share_met, share_tests, is_open}
use Rattle.position.specs.declared.Position.{Position}
use Rattle.position.proofs.Rules.{may_share, conduct_allows, step_refusal, with_slots, change_slot, share_one, share_each, after_share}
use Rattle.laws.specs.Cases.{stored}
use Rattle.slots.proofs.Entered.{after_shared, after_mark}
use Rattle.slots.proofs.SharedBits.{shared_from, shared_kept, shared_mark}
use Rattle.position.specs.StepRefusal.{tests}
use Rattle.step_laws.proofs.Provenance.{Stands, Shown, by_first_shares, by_share, Moved, entered_same, bit_same, keys_same}

-- t passes every test that all of a list pass
abbrev In : List ℕ → ℕ → Type 0
In l t = (test : ℕ → Bool) → every test l ≡ true → test t ≡ true

in_first : (t : ℕ) (l : List ℕ) → In (t ∷ l) t
unfolding every
in_first t l test h = (and_parts (test t) (every test l) h).0

in_rest : (k : ℕ) (l : List ℕ) (t : ℕ) → In l t → In (k ∷ l) t
unfolding every
in_rest k l t m test h = m test (and_parts (test k) (every test l) h).1

in_one : (k t : ℕ) → In (k ∷ []) t → t ≡ k
unfolding every
in_one k t m = sym (eqb-true k t (m (eqb k) (rw (eq-eqb k k refl))))

-- what a row of shares for one destination does: each shared signature was shared before, or is the party's on one of the list
record Row (s : List ℕ) (party to : ℕ) (l : List ℕ) (p q : Position) : Type 0 where
  entries : (t e : ℕ) → Stands q t e → Stands p t e
  shares : (t e i : ℕ) → e < destinations → bit (shared q t e) i ≡ true
      → (bit (shared p t e) i ≡ true) ⊎ (In l t × (e ≡ to) × (bit (share_mask s (keys p party) t) i ≡ true))
  kept : (t e i : ℕ) → e < destinations → bit (shared p t e) i ≡ true → bit (shared q t e) i ≡ true
  held : q.keys ≡ p.keys

keys_by : (p q : Position) (party : ℕ) → q.keys ≡ p.keys → keys q party ≡ keys p party
unfolding keys
keys_by p q party e = rw e

module _ (s : List ℕ) (party to : ℕ) where
  one_held : (p : Position) (t : ℕ) → (share_one s party t to p).keys ≡ p.keys
  unfolding share_one change_slot with_slots
  one_held p t = refl

  one_slot : (p : Position) (t k : ℕ)
      → (slot (share_one s party t to p) k ≡ slot p k)
      ⊎ ((k ≡ t) × (slot (share_one s party t to p) k ≡ with_mark party to (with_shared to (share_mask s (keys p party) t) (slot p k))))
  unfolding share_one change_slot with_slots slot
  one_slot p t k =
      either (stored p.slots t k (with_mark party to (with_shared to (share_mask s (keys p party) t) (slot p t))) empty_slot)
      inl
      (λ y. inr (y.0, y.1 ∙ rw y.0))

  row_one : (p : Position) (t : ℕ) → Row s party to (t ∷ []) p (share_one s party t to p)
  unfolding shared
  row_one p t =
      let mask = share_mask s (keys p party) t in
      record {
        entries = λ k e h.
            either (one_slot p t k)
            (λ y. entered_same y h)
            (λ y. after_shared to mask (slot p k) e (after_mark party to (with_shared to mask (slot p k)) e (entered_same y.1 h)));
        shares = λ k e i l h.
            either (one_slot p t k)
            (λ y. inl (bit_same e i y h))
            (λ y.
            either (shared_from to mask (slot p k) e i l (rw (y.1, shared_mark) at h))
            inl
            (λ z. inr (rw y.0 (in_first t []), z.0, rw y.0 z.1)));
        kept = λ k e i l h.
            either (one_slot p t k)
            (λ y. bit_same e i (sym y) h)
            (λ y. rw (y.1, shared_mark) (shared_kept to mask (slot p k) e i l h));
        held = one_held p t;
      }

  row_none : (p : Position) → Row s party to [] p p
  row_none p =
      record {
        entries = λ t e h. h;
        shares = λ t e i l h. inl h;
        kept = λ t e i l h. h;
        held = refl;
      }

  row_more : (t : ℕ) (l : List ℕ) (p o q : Position) → Row s party to (t ∷ []) p o → Row s party to l o q → Row s party to (t ∷ l) p q
  row_more t l p o q a b =
      record {
        entries = λ k e h. a.entries k e (b.entries k e h);
        shares = λ k e i n h.
            either (b.shares k e i n h)
            (λ y.
            either (a.shares k e i n y)
            inl
            (λ z. inr (rw (in_one t k z.0) (in_first t l), z.1, z.2)))
            (λ y. inr (in_rest t l k y.0, y.1, rw (keys_by p o party a.held) at y.2));
        kept = λ k e i n h. b.kept k e i n (a.kept k e i n h);
        held = b.held ∙ a.held;
      }

row_each : (s : List ℕ) (party : ℕ) (l : List ℕ) (p : Position) → Row s party contract l p (share_each s party l p)
unfolding share_each
row_each s party [] p = row_none s party contract p
row_each s party (t ∷ l) p =
    let o = share_one s party t contract p in
    row_more s party contract t l p o (share_each s party l o) (row_one s party contract p t) (row_each s party l o)

row_moved : (s u : List ℕ) (party to : ℕ) (l : List ℕ) (p q : Position) → Row s party to l p q
    → ((t i : ℕ) → In l t → bit (share_mask s (keys p party) t) i ≡ true → Shown s u p q t to i)
    → Moved s u p q
row_moved s u party to l p q r shown =
    keys_same s u p q
    (λ t.
    record {
      entries = λ e h. inl (r.entries t e h);
      shares = λ e i n h. either (r.shares t e i n h) inl (λ y. inr (rw y.1 (shown t i y.0 y.2)));
      kept = r.kept t;
    })
    r.held

module _ (s u : List ℕ) (p : Position) (party t : ℕ) (to : Destination) where
  share_allowed : step_refusal s u p (Share party t to) ≡ 0 → (is_open u || may_share s u p party t) ≡ true
  unfolding step_refusal tests share_tests conduct_allows
  share_allowed h =
      (and_parts (is_open u || may_share s u p party t) (share_met s p party t (destination_number to)) (passed (tests s u p (Share party t to)) refl h 13)).0

  share_right : eqb t no_transaction ≡ false → fields_right s u (Share party t to) ≡ true → shares_to s t (destination_number to) ≡ true
  unfolding fields_right first_share_fields
  share_right n f =
      let e = destination_number to in
      let one = ltb t (count s) && shares_to s t e in
      either (or_parts one (first_share_fields u t e) (and_parts (is_party s party) (one || first_share_fields u t e) f).1)
      (λ y. (and_parts (ltb t (count s)) (shares_to s t e) y).1)
      (λ y. clash (and_parts (eqb t no_transaction) (not (eqb (conduct u) 0) && eqb e contract) y).0 n)

  one_moved : eqb t no_transaction ≡ false → fields_right s u (Share party t to) ≡ true → step_refusal s u p (Share party t to) ≡ 0
      → Moved s u p (share_one s party t (destination_number to) p)
  one_moved n f h =
      let e = destination_number to in
      row_moved s u party e (t ∷ []) p (share_one s party t e p) (row_one s party e p t)
      (λ k i m b. by_share party (rw (in_one t k m) n) (rw (in_one t k m) (share_right n f)) (rw (in_one t k m) (share_allowed h)) b)

  first_moved : Moved s u p (share_each s party (first_shares party) p)
  first_moved =
      let l = first_shares party in
      row_moved s u party contract l p (share_each s party l p) (row_each s party l p) (λ k i m b. by_first_shares party m refl b)

  pub moved_share : fields_right s u (Share party t to) ≡ true → step_refusal s u p (Share party t to) ≡ 0
      → Moved s u p (after_share s party t (destination_number to) p)
  unfolding after_share
  moved_share f h = split (eqb t no_transaction) (λ y. rw y first_moved) (λ y. rw y (one_moved y f h))
