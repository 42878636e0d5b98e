-- What the others can sign by a set, from what they lack and the secrets shown.
-- Assumes nothing.
use Rattle.laws.proofs.Prelude.{ℕ, zero, suc, ◌<◌, ◌≡◌, sym, ◌∙◌, true, false, not, List, eqb, get_or, not-true, arith, bit_or, either, and_parts, or_parts, or_right, bit}
use Rattle.laws.proofs.Prelude.{union_below, or_bit, subset_bit}
use Rattle.position.proofs.Rules.{count, signatures, required, destinations, shared_any, shared_secrets, sender_mask, signed, shares_to, slot, shared}
use Rattle.position.specs.declared.Position.{Position}
use Rattle.attainable.specs.declared.Others.{Others}
use Rattle.attainable.specs.Attainable.{others_keys, shown_by, known_from, never_sent}
use Rattle.attainable.specs.Forms.Others.{meets, others_for, OthersLack, Reads}
use Rattle.attainable.specs.Forms.Round.{meets_one, signs_in}
use Rattle.attainable.proofs.Masks.{or_left, or_last, subset_from}
use Rattle.attainable.proofs.Parts.{others_have, known_shared, have_keys, have_known, have_shared}

-- the secrets of the members
abbrev pub shown_of : List ℕ → ℕ → ℕ
shown_of s members = union_below (count s) (shown_by s members)

-- the others sign t for d by a set
pub record Signs (s u : List ℕ) (p : Position) (x members t d : ℕ) : Type 0 where
  pub sent : never_sent s u p x t ≡ false
  pub goes : shares_to s t d ≡ true
  pub apart : eqb d x ≡ false
  pub enough : signed s (others_have s p x members t d) t ≡ true

module _ (s u : List ℕ) (p : Position) (x members secrets t : ℕ) where
  known_member : (i : ℕ) → bit (shown_of s members) i ≡ true → bit (known_from s p members) i ≡ true
  unfolding known_from
  known_member i z = or_last (shared_secrets s (λ k. shared_any (slot p k))) (shown_of s members) i z

  -- with the secrets of the set, or fewer
  fewer : (d : ℕ) → ((i : ℕ) → bit secrets i ≡ true → bit (shown_of s members) i ≡ true) → (i : ℕ) → bit (bit_or (others_for s p x d t) secrets) i ≡ true
      → bit (others_have s p x members t d) i ≡ true
  unfolding others_for
  fewer d h i y =
      let mine = bit_or (others_keys s p x) (shared_secrets s (λ k. shared_any (slot p k))) in
      either (or_bit (bit_or mine (shared p t d)) secrets i y)
      (λ z.
      either (or_bit mine (shared p t d) i z)
      (λ w.
      either (or_bit (others_keys s p x) (shared_secrets s (λ k. shared_any (slot p k))) i w)
      (have_keys s p x members t d i)
      (λ v. have_known s p x members t d i (known_shared s p members i v)))
      (have_shared s p x members t d i))
      (λ z. have_known s p x members t d i (known_member i (h i z)))

  -- with these, or more
  more : (d : ℕ) → ((i : ℕ) → bit (shown_of s members) i ≡ true → bit secrets i ≡ true) → (i : ℕ) → bit (others_have s p x members t d) i ≡ true
      → bit (bit_or (others_for s p x d t) secrets) i ≡ true
  unfolding others_for sender_mask known_from
  more d h i y =
      let mine = bit_or (others_keys s p x) (shared_secrets s (λ k. shared_any (slot p k))) in
      either (or_bit (others_keys s p x) (bit_or (known_from s p members) (shared p t d)) i y)
      (λ z. or_left (bit_or mine (shared p t d)) secrets i (or_left mine (shared p t d) i (or_left (others_keys s p x) _ i z)))
      (λ z.
      either (or_bit (known_from s p members) (shared p t d) i z)
      (λ w.
      either (or_bit (shared_secrets s (λ k. shared_any (slot p k))) (shown_of s members) i w)
      (λ v. or_left (bit_or mine (shared p t d)) secrets i (or_left mine (shared p t d) i (or_last (others_keys s p x) _ i v)))
      (λ v. or_last (bit_or mine (shared p t d)) secrets i (h i v)))
      (λ w. or_left (bit_or mine (shared p t d)) secrets i (or_last mine (shared p t d) i w)))

  module _ (small : secrets < 256) where
    met_to : (d v : ℕ) → OthersLack s u p x d t v → ((i : ℕ) → bit secrets i ≡ true → bit (shown_of s members) i ≡ true) → meets secrets v ≡ true
        → Signs s u p x members t d
    unfolding signed
    met_to d v k h y =
        let a = and_parts (not (never_sent s u p x t)) _ (sym (k.met secrets small) ∙ y) in
        let b = and_parts (shares_to s t d) _ a.1 in
        let c = and_parts (not (eqb d x)) (signed s (bit_or (others_for s p x d t) secrets) t) b.1 in
        record {
          sent = not-true (never_sent s u p x t) a.0;
          goes = b.0;
          apart = not-true (eqb d x) c.0;
          enough =
              subset_from (signatures s) (required s t) (others_have s p x members t d)
              (λ i l n. fewer d h i (subset_bit (signatures s) (required s t) (bit_or (others_for s p x d t) secrets) c.1 i l n));
        }

    met_from : (d v : ℕ) → OthersLack s u p x d t v → ((i : ℕ) → bit (shown_of s members) i ≡ true → bit secrets i ≡ true) → Signs s u p x members t d
        → meets secrets v ≡ true
    unfolding signed
    met_from d v k h g =
        let enough : signed s (bit_or (others_for s p x d t) secrets) t ≡ true =
        subset_from (signatures s) (required s t) (bit_or (others_for s p x d t) secrets)
        (λ i l n. more d h i (subset_bit (signatures s) (required s t) (others_have s p x members t d) g.enough i l n)) in
        k.met secrets small ∙ rw (g.sent, g.goes, g.apart, enough)

    module _ (o : Others) (r : Reads s u p x o) (l : t < count s) where
      pub signs_to : ((i : ℕ) → bit secrets i ≡ true → bit (shown_of s members) i ≡ true) → signs_in o secrets t ≡ true
          → (d : ℕ) × (d < destinations) × Signs s u p x members t d
      unfolding signs_in meets_one
      signs_to h y =
          either (or_parts (meets secrets (get_or o.contract t 0)) _ y)
          (λ z. (2, omega arith, met_to 2 _ (r.contract.each t l) h z))
          (λ y1.
          either (or_parts (meets secrets (get_or o.alice t 0)) _ y1)
          (λ z. (0, omega arith, met_to 0 _ (r.alice.each t l) h z))
          (λ y2.
          either (or_parts (meets secrets (get_or o.bob t 0)) (meets secrets (get_or o.carol t 0)) y2)
          (λ z. (1, omega arith, met_to 1 _ (r.bob.each t l) h z))
          (λ z. (3, omega arith, met_to 3 _ (r.carol.each t l) h z))))

      pub signs_from : ((i : ℕ) → bit (shown_of s members) i ≡ true → bit secrets i ≡ true) → (d : ℕ) → d < destinations → Signs s u p x members t d
          → signs_in o secrets t ≡ true
      unfolding signs_in meets_one
      signs_from h zero m g = or_right (meets secrets (get_or o.contract t 0)) _ (rw (met_from 0 (get_or o.alice t 0) (r.alice.each t l) h g))
      signs_from h (suc zero) m g =
          or_right (meets secrets (get_or o.contract t 0)) _
          (or_right (meets secrets (get_or o.alice t 0)) _ (rw (met_from 1 (get_or o.bob t 0) (r.bob.each t l) h g)))
      signs_from h (suc (suc zero)) m g = rw (met_from 2 (get_or o.contract t 0) (r.contract.each t l) h g)
      signs_from h (suc (suc (suc zero))) m g =
          or_right (meets secrets (get_or o.contract t 0)) _
          (or_right (meets secrets (get_or o.alice t 0)) _
          (or_right (meets secrets (get_or o.bob t 0)) _ (met_from 3 (get_or o.carol t 0) (r.carol.each t l) h g)))
      signs_from h (suc (suc (suc (suc d)))) m g = absurd (omega (arith, m))
