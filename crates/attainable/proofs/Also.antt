-- More that X sends brings no less.
-- Assumes nothing.
use Rattle.laws.proofs.Prelude.{ℕ, ◌<◌, ◌≡◌, sym, ◌∙◌, Bool, true, not, ◌&&◌, List, eqb, and_parts, any_below, any_some, any_found, bit, set_bit}
use Rattle.position.proofs.Rules.{count, Checked, destinations}
use Rattle.position.specs.declared.Position.{Position}
use Rattle.attainable.specs.Attainable.{comes, attainable, attainable_elsewhere}
use Rattle.attainable.proofs.Parts.{Way, waits, lent, signs, comes_parts, comes_from, comes_more}
use Rattle.attainable.proofs.Rounds.{least}

module _ (s u : List ℕ) (ok : Checked s) (p : Position) (x : ℕ) (a b : ℕ → Bool)
    (within : (t : ℕ) → t < count s → a t ≡ true → b t ≡ true) where
  way_also : (members t d : ℕ) → t < count s → Way s u p x a members t d → Way s u p x b members t d
  way_also members t d l (waits h) = waits h
  way_also members t d l (lent h k) = lent (within t l h) k
  way_also members t d l (signs n k e h) = signs n k e h

  comes_also : (members t d : ℕ) → t < count s → comes s u p x a members t d ≡ true → comes s u p x b members t d ≡ true
  comes_also members t d l h =
      let c = comes_parts s u p x a members t d h in
      comes_from s u p x b members t d (record { live = c.live; below = c.below; way = way_also members t d l c.way })

  pub attainable_also : (t : ℕ) → t < count s → bit (attainable s u p x a) t ≡ true → bit (attainable s u p x b) t ≡ true
  attainable_also =
      (least s u ok p x a).least (attainable s u p x b)
      (λ t l d m h. (least s u ok p x b).closed t l d m (comes_also (attainable s u p x b) t d l h))

  -- for a destination other than X
  elsewhere : (ℕ → Bool) → ℕ → ℕ → Bool
  elsewhere also t d = not (eqb d x) && comes s u p x also (attainable s u p x also) t d

  pub elsewhere_also : (t : ℕ) → t < count s → bit (attainable_elsewhere s u p x a) t ≡ true → bit (attainable_elsewhere s u p x b) t ≡ true
  unfolding attainable_elsewhere elsewhere
  elsewhere_also t l h =
      let few = ok.sized.few in
      let w = any_some destinations (elsewhere a t) (sym (set_bit (count s) (λ k. any_below destinations (elsewhere a k)) few t l) ∙ h) in
      let d = w.0 in
      let v = and_parts (not (eqb d x)) (comes s u p x a (attainable s u p x a) t d) w.2 in
      let m = comes_more s u ok p x a (attainable s u p x a) (attainable s u p x b) attainable_also t d l v.1 in
      set_bit (count s) (λ k. any_below destinations (elsewhere b k)) few t l
      ∙ any_found destinations d (elsewhere b t) w.1 (rw (v.0, comes_also (attainable s u p x b) t d l m))
