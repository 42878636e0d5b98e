-- What is gone: confirmed, or with another rival of its line confirmed; and that what can come is not gone.
-- Assumes nothing.
use Rattle.laws.proofs.Prelude.{ℕ, zero, suc, ◌<◌, ◌≡◌, sym, ◌∙◌, Bool, true, false, not, ◌&&◌, List, eqb, bit_or, split, clash, and_parts, any_below, any_some, bit}
use Rattle.laws.proofs.Prelude.{no_bit, set_bit}
use Rattle.position.proofs.Rules.{count, stealth, Checked, destinations, conflict, invalidated, is_confirmed}
use Rattle.position.specs.declared.Position.{Position}
use Rattle.slots.proofs.Ancestors.{Above, other_find, other_met}
use Rattle.attainable.specs.Attainable.{gone, comes, grown, rounds, attainable}
use Rattle.attainable.proofs.Parts.{comes_parts}
use Rattle.slack.specs.Beaten.{above, pooled, can_come, comes_beside, beats}

-- confirmed is gone, and so is what has another rival of its line confirmed
module _ (s : List ℕ) (p : Position) where
  pub gone_confirmed : (t : ℕ) → is_confirmed p t ≡ true → gone s p t ≡ true
  unfolding gone
  gone_confirmed t h = rw h

  pub gone_met : (h t r : ℕ) → Above s h t → r < count s → conflict s r h ≡ true → is_confirmed p r ≡ true → eqb r h ≡ false → gone s p t ≡ true
  unfolding gone invalidated
  gone_met h t r a l c y e =
      let m = other_met s (is_confirmed p) r a l c y e in
      split (is_confirmed p t) (λ z. rw z) (λ z. rw (z, m))

  -- what is gone and not confirmed has one
  pub gone_find : (t : ℕ) → gone s p t ≡ true → is_confirmed p t ≡ false
      → (h : ℕ) × (r : ℕ) × Above s h t × (r < count s) × (conflict s r h ≡ true) × (is_confirmed p r ≡ true) × (eqb r h ≡ false)
  unfolding gone invalidated
  gone_find t g n = other_find s (is_confirmed p) t (rw n at g)

-- what can come without X is not gone
module _ (s u : List ℕ) (ok : Checked s) (p : Position) (x : ℕ) (also : ℕ → Bool) where
  pub comes_live : (k t : ℕ) → t < count s → bit (rounds s u p x also k) t ≡ true → gone s p t ≡ false
  unfolding rounds grown
  comes_live zero t l h = clash h (no_bit t)
  comes_live (suc k) t l h =
      let members = rounds s u p x also k in
      let w =
      any_some destinations (comes s u p x also members t)
      (sym (set_bit (count s) (λ j. any_below destinations (comes s u p x also members j)) ok.sized.few t l) ∙ h) in
      (comes_parts s u p x also members t w.0 w.2).live

-- one that comes before t and is not t is not gone
pub beats_live : (s u : List ℕ) → Checked s → (p : Position) (x also off t r : ℕ) → r < count s → eqb r t ≡ false → beats s u p x also off t r ≡ true → gone s p r ≡ false
unfolding beats comes_beside can_come attainable
beats_live s u ok p x also off t r l e h =
    let a = (and_parts (not (eqb (stealth u) 0 && pooled s p x t)) _ h).1 in
    let b = (and_parts (conflict s r t) _ a).1 in
    let c = (and_parts (comes_beside s u p x also t r) _ b).0 in
    comes_live s u ok p x (bit (bit_or also (above s p t))) (count s) r l (rw e at c)
