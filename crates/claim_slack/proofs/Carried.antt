-- What can come without X in the one of two positions can come in the other, whatever more X sends.
-- Assumes nothing.
use Rattle.laws.proofs.Prelude.{ℕ, ◌<◌, ◌≡◌, sym, ◌∙◌, Bool, true, false, not, ◌&&◌, List, eqb, not-true, and_parts, any_below, any_some, any_found, bit, set_bit}
use Rattle.position.proofs.Rules.{count, Checked, destinations}
use Rattle.position.specs.declared.Position.{Position}
use Rattle.attainable.specs.Attainable.{comes, attainable, attainable_elsewhere}
use Rattle.attainable.proofs.Parts.{comes_parts, comes_more}
use Rattle.attainable.proofs.Rounds.{least}
use Rattle.attainable.proofs.Also.{attainable_also, elsewhere_also}
use Rattle.claim_attainable.proofs.Carrying.{Carries, came_before, closes}
use Rattle.slack.proofs.Onward.{Within}

module _ (s u : List ℕ) (ok : Checked s) (p : Position) (x : ℕ) where
  -- what can come with some sends of X
  abbrev pub can : ℕ → ℕ
  can a = attainable s u p x (bit a)

  -- a destination of what comes tells where it can come
  pub elsewhere_has : (a t d : ℕ) → t < count s → d < destinations → eqb d x ≡ false → comes s u p x (bit a) (can a) t d ≡ true
      → bit (attainable_elsewhere s u p x (bit a)) t ≡ true
  unfolding attainable_elsewhere
  elsewhere_has a t d l m off y =
      set_bit (count s) (λ j. any_below destinations (λ e. not (eqb e x) && comes s u p x (bit a) (can a) j e)) ok.sized.few t l
      ∙ any_found destinations d (λ e. not (eqb e x) && comes s u p x (bit a) (can a) t e) m (rw (off, y))

  module _ (q : Position) (c : (a : ℕ) → Carries s u p x (bit a) (can a) q) where
    -- with the same sends of X
    still : (a : ℕ) → Within s (attainable s u q x (bit a)) (can a)
    still a = (least s u ok q x (bit a)).least (can a) (closes s u ok p x (bit a) (can a) q (c a) (least s u ok p x (bit a)).closed)

    came : (a t d : ℕ) → t < count s → d < destinations → comes s u q x (bit a) (attainable s u q x (bit a)) t d ≡ true
        → comes s u p x (bit a) (can a) t d ≡ true
    came a t d l m y =
        let v = comes_parts s u q x (bit a) (can a) t d (comes_more s u ok q x (bit a) (attainable s u q x (bit a)) (can a) (still a) t d l y) in
        came_before s u ok p x (bit a) (can a) q (c a) t d l m v v.way

    elsewhere : ℕ → ℕ → ℕ → Bool
    elsewhere a t d = not (eqb d x) && comes s u q x (bit a) (attainable s u q x (bit a)) t d

    still_elsewhere : (a : ℕ) → Within s (attainable_elsewhere s u q x (bit a)) (attainable_elsewhere s u p x (bit a))
    unfolding attainable_elsewhere elsewhere
    still_elsewhere a t l y =
        let f = any_some destinations (elsewhere a t) (sym (set_bit (count s) (λ j. any_below destinations (elsewhere a j)) ok.sized.few t l) ∙ y) in
        let v = and_parts (not (eqb f.0 x)) (comes s u q x (bit a) (attainable s u q x (bit a)) t f.0) f.2 in
        elsewhere_has a t f.0 l f.1 (not-true (eqb f.0 x) v.0) (came a t f.0 l f.1 v.1)

    -- and with more
    pub fewer : (a b : ℕ) → Within s a b → Within s (attainable s u q x (bit a)) (can b)
    fewer a b w t l y = still b t l (attainable_also s u ok q x (bit a) (bit b) w t l y)

    pub fewer_elsewhere : (a b : ℕ) → Within s a b → Within s (attainable_elsewhere s u q x (bit a)) (attainable_elsewhere s u p x (bit b))
    fewer_elsewhere a b w t l y = still_elsewhere b t l (elsewhere_also s u ok q x (bit a) (bit b) w t l y)
