-- What the passed checks 5 to 8 tell of one transaction.
-- Assumes nothing.
use Rattle.laws.proofs.Prelude.{ℕ, ◌^◌, ◌≤◌, ◌<◌, ◌≡◌, sym, ◌∙◌, Bool, true, false, not, ◌&&◌, List, ◌⊎◌, inl, inr, eqb, ltb, leb, eqb-true, eqb-false, ltb-true}
use Rattle.laws.proofs.Prelude.{leb-true, eq-eqb, ne_eqb, not-true, arith, split, either, and_parts, or_parts, beq_same, any_some, any_none}
use Rattle.sheet.specs.Field.{parties, count, signatures, parent, payees, required, veil, lock_type, days, opening}
use Rattle.sheet.specs.Check.{within, parent_right, entry_right, days_right, lock_right, has_child, children_right}
use Rattle.sheet.specs.Checked.{LockPair, none, absolute, since, Entry}

pub parent_lower : (s : List ℕ) (t : ℕ) → parent_right s t ≡ true → (opening s t ≡ true) ⊎ (parent s t < t)
unfolding parent_right
parent_lower s t h =
    either (or_parts (opening s t) (ltb (parent s t) t) h) (λ o. inl o) (λ l. inr (ltb-true (parent s t) t l))

pub mask_within : (s : List ℕ) (m : ℕ) → within s m ≡ true → m < 2 ^ signatures s
unfolding within
mask_within s m h = ltb-true m (2 ^ signatures s) h

entry_parts : (s : List ℕ) (t : ℕ) → entry_right s t ≡ true
    → (payees s t < 2 ^ parties s) × (1 ≤ required s t) × (required s t < 2 ^ signatures s) × (veil s t ≤ 1)
unfolding entry_right
entry_parts s t h =
    let a = and_parts (ltb (payees s t) (2 ^ parties s)) (leb 1 (required s t) && (within s (required s t) && leb (veil s t) 1)) h in
    let b = and_parts (leb 1 (required s t)) (within s (required s t) && leb (veil s t) 1) a.1 in
    let c = and_parts (within s (required s t)) (leb (veil s t) 1) b.1 in
    (ltb-true (payees s t) (2 ^ parties s) a.0, leb-true 1 (required s t) b.0, mask_within s (required s t) c.0, leb-true (veil s t) 1 c.1)

no_days : (s : List ℕ) (t : ℕ) → days_right s t ≡ true → eqb (lock_type s t) 0 ≡ true → days s t ≡ 0
unfolding days_right
no_days s t h e = eqb-true (days s t) 0 (rw e at h)

some_days : (s : List ℕ) (t : ℕ) → days_right s t ≡ true → eqb (lock_type s t) 0 ≡ false → (1 ≤ days s t) × (days s t ≤ 255)
unfolding days_right
some_days s t h e =
    let w = and_parts (leb 1 (days s t)) (leb (days s t) 255) (rw e at h) in
    (leb-true 1 (days s t) w.0, leb-true (days s t) 255 w.1)

not_both : (a b : Bool) → not (a && b) ≡ true → a ≡ true → b ≡ false
not_both a b h e = not-true b (rw e at h)

pub lock_pair_lem : (s : List ℕ) (t : ℕ) → lock_right s t ≡ true → LockPair s t
unfolding lock_right
lock_pair_lem s t h =
    let a = and_parts (leb (lock_type s t) 2) (days_right s t && not (eqb (lock_type s t) 2 && opening s t)) h in
    let b = and_parts (days_right s t) (not (eqb (lock_type s t) 2 && opening s t)) a.1 in
    split (eqb (lock_type s t) 0)
    (λ e. none (eqb-true (lock_type s t) 0 e) (no_days s t b.0 e))
    (λ e.
    let d = some_days s t b.0 e in
    split (eqb (lock_type s t) 1)
    (λ f. absolute (eqb-true (lock_type s t) 1 f) d.0 d.1)
    (λ f.
    let two : lock_type s t ≡ 2 = omega (arith, leb-true (lock_type s t) 2 a.0, eqb-false (lock_type s t) 0 e, eqb-false (lock_type s t) 1 f) in
    since two d.0 d.1 (not_both (eqb (lock_type s t) 2) (opening s t) b.1 (eq-eqb (lock_type s t) 2 two))))

contract_child : (s : List ℕ) (t : ℕ) → children_right s t ≡ true → payees s t ≡ 0 → (k : ℕ) × (k < count s) × (parent s k ≡ t)
unfolding children_right has_child
contract_child s t h e =
    let c = sym (beq_same (eqb (payees s t) 0) (has_child s t) h) ∙ eq-eqb (payees s t) 0 e in
    let w = any_some (count s) (λ k. eqb (parent s k) t) c in
    (w.0, w.1, eqb-true (parent s w.0) t w.2)

paying_childless : (s : List ℕ) (t : ℕ) → children_right s t ≡ true → 1 ≤ payees s t → (k : ℕ) → k < count s → parent s k ≡ t → ⊥
unfolding children_right has_child
paying_childless s t h p k l e =
    let c = sym (beq_same (eqb (payees s t) 0) (has_child s t) h) ∙ ne_eqb (payees s t) 0 (λ z. omega (arith, z)) in
    eqb-false (parent s k) t (any_none (count s) (λ j. eqb (parent s j) t) c k l) e

pub passed_entry : (s : List ℕ) (t : ℕ) → parent_right s t ≡ true → entry_right s t ≡ true → lock_right s t ≡ true → children_right s t ≡ true → Entry s t
passed_entry s t p e l c =
    let w = entry_parts s t e in
    record {
      parent_lower = parent_lower s t p;
      payees_few = w.0;
      required_some = w.1;
      required_within = w.2;
      veil_flag = w.3;
      lock_pair_lem = lock_pair_lem s t l;
      contract_child = contract_child s t c;
      paying_childless = paying_childless s t c;
    }
