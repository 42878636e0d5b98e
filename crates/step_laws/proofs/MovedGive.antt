-- Where a key comes from in a gift.
-- Assumes nothing.
use Rattle.laws.proofs.Prelude.{ℕ, ◌^◌, ◌<◌, ◌≡◌, refl, true, ◌&&◌, ◌||◌, List, ◌⊎◌, inl, inr, ltb, ltb-true, bit_or, either, and_parts, bit_or_lem, or_bit, passed, bit}
use Rattle.position.proofs.Rules.{signatures, Destination, Give, destination_number, is_party, slot, keys, holds, is_other, fields_right, give_met, give_tests}
use Rattle.position.specs.declared.Position.{Position}
use Rattle.position.proofs.Rules.{is_open, may_give, conduct_allows, step_refusal, with_key, after_give}
use Rattle.laws.specs.Cases.{stored}
use Rattle.position.specs.StepRefusal.{tests}
use Rattle.step_laws.proofs.Provenance.{given, Moved, slot_same}

module _ (p : Position) (receiver j : ℕ) where
  key_from : (party i : ℕ) → holds (with_key receiver j p) party i ≡ true
      → (holds p party i ≡ true) ⊎ ((party ≡ receiver) × (bit (2 ^ j) i ≡ true))
  unfolding with_key holds keys
  key_from party i h =
      either (stored p.keys receiver party (bit_or (keys p receiver) (2 ^ j)) 0)
      (λ y. inl (rw y at h))
      (λ y. either (or_bit (keys p receiver) (2 ^ j) i (rw y.1 at h)) (λ z. inl (rw y.0 z)) (λ z. inr (y.0, z)))

  key_kept : (party i : ℕ) → holds p party i ≡ true → holds (with_key receiver j p) party i ≡ true
  unfolding with_key holds keys
  key_kept party i h =
      either (stored p.keys receiver party (bit_or (keys p receiver) (2 ^ j)) 0)
      (λ y. rw y h)
      (λ y. let z : bit (keys p receiver) i ≡ true = rw y.0 at h in rw (y.1, bit_or_lem (keys p receiver) (2 ^ j) i, z))

  same_slot : (t : ℕ) → slot (with_key receiver j p) t ≡ slot p t
  unfolding with_key slot
  same_slot t = refl

module _ (s u : List ℕ) (p : Position) (party j : ℕ) (to : Destination) where
  pub give_right : fields_right s u (Give party j to) ≡ true → (j < signatures s) × (is_other s party (destination_number to) ≡ true)
  unfolding fields_right
  give_right f =
      let o = is_other s party (destination_number to) in
      let w = and_parts (ltb j (signatures s)) o (and_parts (is_party s party) (ltb j (signatures s) && o) f).1 in
      (ltb-true j (signatures s) w.0, w.1)

  give_allowed : step_refusal s u p (Give party j to) ≡ 0 → (is_open u || may_give s u p party j) ≡ true
  unfolding step_refusal tests give_tests conduct_allows
  give_allowed h =
      (and_parts (is_open u || may_give s u p party j) (give_met p party j (destination_number to)) (passed (tests s u p (Give party j to)) refl h 13)).0

  pub moved_give : fields_right s u (Give party j to) ≡ true → step_refusal s u p (Give party j to) ≡ 0
      → Moved s u p (after_give j (destination_number to) p)
  unfolding after_give
  moved_give f h =
      let receiver = destination_number to in
      record {
        slots = λ t. slot_same s u p (after_give j receiver p) t (same_slot p receiver j t);
        gifts = λ holder i k.
            either (key_from p receiver j holder i k)
            inl
            (λ y. inr (given party j (rw y.0 (give_right f).1) (give_allowed h) y.1));
        keys_kept = key_kept p receiver j;
      }
