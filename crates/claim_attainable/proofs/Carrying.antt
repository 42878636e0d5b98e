-- What can come without X in a position could come in another, where all that the others have in the one comes from a closed set of the other.
-- Assumes nothing.
use Rattle.laws.proofs.Prelude.{ℕ, ◌<◌, ◌≡◌, sym, ◌∙◌, Bool, true, false, ◌&&◌, ◌||◌, List, ◌⊎◌, inl, inr, eqb, arith, bit_and, bit_or, split, either, clash, and_parts, bit, union_below}
use Rattle.laws.proofs.Prelude.{bit_and_lem, or_bit, union_bit, no_bit, subset_bit, or_parts, or_neither, fails_by}
use Rattle.position.proofs.Rules.{parties, party_at, count, parent, opening, signatures, secrets, required, Checked, bob, destinations, is_party, shared_any, shared_secrets}
use Rattle.position.specs.declared.Position.{Position}
use Rattle.position.proofs.Rules.{sender_mask, signed, slot, is_confirmed, shared, keys, holds}
use Rattle.sheet.proofs.Parties.{party_at_lem}
use Rattle.slots.proofs.Parents.{parent_below}
use Rattle.slots.proofs.SharedBits.{shared_any_lem}
use Rattle.attainable.specs.Attainable.{gone, secrets_of, other_keys, others_keys, shown_by, known_from, overdue, forgone, never_sent, waits_for, comes, Closed}
use Rattle.attainable.proofs.Masks.{subset_else}
use Rattle.attainable.proofs.Parts.{others_have, Way, waits, lent, signs, Parent, Comes, comes_parts, comes_from, known_member, have_keys, have_known, picked_bit}

-- what is never sent before is never sent after, by its two parts
pub in_time_by : (s u : List ℕ) (p q : Position) (x t : ℕ) → (overdue s u p t ≡ true → overdue s u q t ≡ true) → (forgone s u p t ≡ true → forgone s u q t ≡ true)
    → never_sent s u q x t ≡ false → never_sent s u p x t ≡ false
unfolding never_sent
in_time_by s u p q x t due forgo n =
    let out = or_neither (overdue s u q t) (eqb x bob && forgone s u q t) n in
    fails_by (overdue s u p t || (eqb x bob && forgone s u p t))
    (λ h.
    either (or_parts (overdue s u p t) (eqb x bob && forgone s u p t) h)
    (λ y. clash (due y) out.0)
    (λ y.
    let z = and_parts (eqb x bob) (forgone s u p t) y in
    clash {b = eqb x bob && forgone s u q t} (rw (z.0, forgo z.1)) out.1))

-- from p, with a set of it, to q
pub record Carries (s u : List ℕ) (p : Position) (x : ℕ) (also : ℕ → Bool) (members : ℕ) (q : Position) : Type 0 where
  pub live : (t : ℕ) → t < count s → gone s q t ≡ false → gone s p t ≡ false
  pub chain : (t : ℕ) → t < count s → is_confirmed q t ≡ true → (is_confirmed p t ≡ true) ⊎ (bit members t ≡ true)
  pub waiting : (t d : ℕ) → gone s p t ≡ false → waits_for q t d ≡ true → comes s u p x also members t d ≡ true
  pub in_time_lem : (t : ℕ) → t < count s → never_sent s u q x t ≡ false → never_sent s u p x t ≡ false
  pub keys : (y i : ℕ) → is_party s y ≡ true → eqb y x ≡ false → i < 32 → holds q y i ≡ true → bit (others_keys s p x) i ≡ true
  pub shares : (t d i : ℕ) → d < destinations → eqb d x ≡ false → i < 32 → gone s p t ≡ false → bit (shared q t d) i ≡ true
      → (bit (others_have s p x members t d) i ≡ true) ⊎ (comes s u p x also members t d ≡ true)
  pub shown : (t d i : ℕ) → t < count s → d < destinations → i < 32 → bit (secrets s) i ≡ true → bit (shared q t d) i ≡ true
      → (bit (others_keys s p x) i ≡ true) ⊎ (bit (known_from s p members) i ≡ true)

module _ (s u : List ℕ) (ok : Checked s) (p : Position) (x : ℕ) (also : ℕ → Bool) (members : ℕ) (q : Position) (b : Carries s u p x also members q) where
  -- the others' keys, and what is known by the set, are no more than before
  keys_before : (i : ℕ) → i < 32 → bit (others_keys s q x) i ≡ true → bit (others_keys s p x) i ≡ true
  unfolding others_keys other_keys holds
  keys_before i l h =
      let w = union_bit (parties s) (λ k. other_keys q x (party_at k)) i h in
      let y = party_at w.0 in
      split (eqb y x)
      (λ e. clash (rw e at w.2) (no_bit i))
      (λ e. b.keys y i (party_at_lem s w.0 w.1) e l (rw e at w.2))

  known_before : (i : ℕ) → i < 32 → bit (known_from s q members) i ≡ true → (bit (others_keys s p x) i ≡ true) ⊎ (bit (known_from s p members) i ≡ true)
  unfolding known_from shown_by shared_secrets shared
  known_before i l h =
      let all = union_below (count s) (λ k. shared_any (slot q k)) in
      either (or_bit (bit_and (secrets s) all) (union_below (count s) (shown_by s members)) i h)
      (λ y.
      let w = and_parts (bit (secrets s) i) (bit all i) (sym (bit_and_lem (secrets s) all i) ∙ y) in
      let k = union_bit (count s) (λ j. shared_any (slot q j)) i w.1 in
      let z = shared_any_lem (slot q k.0) i k.2 in
      b.shown k.0 z.0 i k.1 z.1 l w.0 z.2)
      (λ y.
      let w = union_bit (count s) (shown_by s members) i y in
      let z = picked_bit (bit members w.0) (secrets_of s w.0) i w.2 in
      inr (known_member s p members w.0 i w.1 z.0 z.1))

  module _ (t d : ℕ) (l : t < count s) (small : d < destinations) (c : Comes s u q x also members t d) where
    before : gone s p t ≡ false
    before = b.live t l c.live

    above : Parent s p members t
    above =
        split (opening s t)
        inl
        (λ o. either c.below inl (λ y. inr (either y (b.chain (parent s t) (parent_below ok t l o)) inr)))

    had : eqb d x ≡ false → (i : ℕ) → i < 32 → bit (others_have s q x members t d) i ≡ true
        → (bit (others_have s p x members t d) i ≡ true) ⊎ (comes s u p x also members t d ≡ true)
    unfolding sender_mask
    had off i n h =
        either (or_bit (others_keys s q x) (bit_or (known_from s q members) (shared q t d)) i h)
        (λ y. inl (have_keys s p x members t d i (keys_before i n y)))
        (λ y.
        either (or_bit (known_from s q members) (shared q t d) i y)
        (λ z. either (known_before i n z) (λ w. inl (have_keys s p x members t d i w)) (λ w. inl (have_known s p x members t d i w)))
        (b.shares t d i small off n before))

    by_way : Way s u p x also members t d → comes s u p x also members t d ≡ true
    by_way y = comes_from s u p x also members t d (record { live = before; below = above; way = y })

    pub came_before : Way s u q x also members t d → comes s u p x also members t d ≡ true
    unfolding signed
    came_before (waits h) = b.waiting t d before h
    came_before (lent h k) = by_way (lent h k)
    came_before (signs n k off h) =
        either
        (subset_else (signatures s) (required s t) (others_have s p x members t d)
        (λ i m r. had off i (omega (arith, ok.signatures_few, m)) (subset_bit (signatures s) (required s t) (others_have s q x members t d) h i m r)))
        (λ y. by_way (signs (b.in_time_lem t l n) k off y))
        (λ y. y)

  -- a closed set of p is closed in q
  pub closes : Closed s u p x also members → Closed s u q x also members
  closes closed t l d m h = let c = comes_parts s u q x also members t d h in closed t l d m (came_before t d l m c c.way)
