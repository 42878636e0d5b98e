-- The unconfirmed strict ancestors of a transaction, and what X knows with them.
-- Assumes nothing.
use Rattle.laws.proofs.Prelude.{ℕ, ◌<◌, ◌≡◌, sym, ◌∙◌, true, false, not, ◌&&◌, List, eqb, not-true, either, and_parts, bit, union_below, or_bit, union_bit, set_bit}
use Rattle.position.proofs.Rules.{count, Checked, is_self_or_ancestor, is_confirmed, keys}
use Rattle.position.specs.declared.Position.{Position}
use Rattle.attainable.specs.Attainable.{secrets_of, shown_by, known_from}
use Rattle.attainable.proofs.Masks.{or_left, or_last}
use Rattle.attainable.proofs.Parts.{known_shared, known_member, picked_bit}
use Rattle.slack.specs.Beaten.{above}
use Rattle.slack.specs.Kept.{known_at}
use Rattle.slack.proofs.Onward.{secrets_shown}

module _ (s : List ℕ) (ok : Checked s) (p : Position) (t k : ℕ) (l : k < count s) where
  above_is : bit (above s p t) k ≡ (not (is_confirmed p k) && (not (eqb k t) && is_self_or_ancestor s k t))
  unfolding above
  above_is = set_bit (count s) (λ k. not (is_confirmed p k) && (not (eqb k t) && is_self_or_ancestor s k t)) ok.sized.few k l

  pub above_parts : bit (above s p t) k ≡ true → (is_confirmed p k ≡ false) × (eqb k t ≡ false) × (is_self_or_ancestor s k t ≡ true)
  above_parts h =
      let a = and_parts (not (is_confirmed p k)) (not (eqb k t) && is_self_or_ancestor s k t) (sym above_is ∙ h) in
      let b = and_parts (not (eqb k t)) (is_self_or_ancestor s k t) a.1 in
      (not-true (is_confirmed p k) a.0, not-true (eqb k t) b.0, b.1)

  pub above_from : is_confirmed p k ≡ false → eqb k t ≡ false → is_self_or_ancestor s k t ≡ true → bit (above s p t) k ≡ true
  above_from a b c = above_is ∙ rw (a, b, c)

-- what X knows at t: its keys, the shared secrets, and those of the ancestors
module _ (s : List ℕ) (p : Position) (x t i : ℕ) where
  pub data Knows : Type 0 where
    held : bit (keys p x) i ≡ true → Knows
    shown : bit (secrets_shown s p) i ≡ true → Knows
    told : (k : ℕ) → k < count s → bit (above s p t) k ≡ true → bit (secrets_of s k) i ≡ true → Knows

  pub knows_parts : bit (known_at s p x t) i ≡ true → Knows
  unfolding known_at known_from shown_by
  knows_parts h =
      let members = above s p t in
      either (or_bit (keys p x) (known_from s p members) i h)
      held
      (λ y.
      either (or_bit (secrets_shown s p) (union_below (count s) (shown_by s members)) i y)
      shown
      (λ z.
      let w = union_bit (count s) (shown_by s members) i z in
      let v = picked_bit (bit members w.0) (secrets_of s w.0) i w.2 in
      told w.0 w.1 v.0 v.1))

  pub knows_from : Knows → bit (known_at s p x t) i ≡ true
  unfolding known_at
  knows_from (held h) = or_left (keys p x) (known_from s p (above s p t)) i h
  knows_from (shown h) = or_last (keys p x) (known_from s p (above s p t)) i (known_shared s p (above s p t) i h)
  knows_from (told k l a h) = or_last (keys p x) (known_from s p (above s p t)) i (known_member s p (above s p t) k i l a h)
