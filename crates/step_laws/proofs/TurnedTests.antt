-- 16 and 17 in turned places of a numbered list, behind tests of lower numbers and before tests of higher ones.
-- Assumes nothing.
use Rattle.laws.proofs.Prelude.{ℕ, ◌≤◌, ◌≡◌, refl, Bool, true, false, not, ◌&&◌, ◌||◌, false≢true, List, [], ◌∷◌, ◌++◌, eqb, ltb, ltb-true, ne_eqb, arith, split, clash}
use Rattle.laws.proofs.Prelude.{and_parts, first_failing, every}
use Rattle.position.proofs.Rules.{accepted, step_signatures, step_lock}
use Rattle.laws.specs.Failing.{numbers_below}
use Rattle.step_laws.specs.OlderOrder.{meets, passes_below, meets_both}

-- the answers of the two orders, and whether both numbers were met
pub record Turned (older now : ℕ) (both : Bool) : Type 0 where
  pub changed : both ≡ true → (older ≡ step_signatures) × (now ≡ step_lock)
  pub same : both ≡ false → older ≡ now

pub unturned : (n : ℕ) → Turned n n false
unturned n = record { changed = λ h. absurd (false≢true h); same = λ h. refl }

pub accepts_same : {older now : ℕ} (both : Bool) → Turned older now both → eqb older accepted ≡ eqb now accepted
accepts_same both w = split both (λ e. let c = w.changed e in rw (c.0, c.1)) (λ e. rw (w.same e))

ends : (a b c : Bool) → c ≡ false → (a && (b && c)) ≡ false
ends true true c h = h
ends true false c h = refl
ends false b c h = refl

-- a test of a lower number before a list
module _ (n : ℕ) (v : Bool) (l : List (ℕ × Bool)) (low : ltb n 16 ≡ true) where
  other : (k : ℕ) → 16 ≤ k → eqb k n ≡ false
  other k h = ne_eqb k n (λ e. let w = ltb-true n 16 low in omega (arith, e, w, h))

  both_behind : v ≡ true → meets_both ((n, v) ∷ l) ≡ meets_both l
  unfolding meets_both meets passes_below every
  both_behind e = rw (other 16 (omega arith), other 17 (omega arith), low, e)

  not_both : v ≡ false → meets_both ((n, v) ∷ l) ≡ false
  unfolding meets_both meets passes_below every
  not_both e =
      let here : (not (ltb n 16) || v) ≡ false = rw (low, e) in
      ends (meets 16 ((n, v) ∷ l)) (meets 17 ((n, v) ∷ l)) (passes_below 16 ((n, v) ∷ l)) (rw here)

module _ (x y : Bool) (b : List (ℕ × Bool)) (high : passes_below 16 b ≡ true) where
  -- the two orders behind the tests a
  abbrev signatures_first : List (ℕ × Bool) → List (ℕ × Bool)
  signatures_first a = a ++ ((step_signatures, x) ∷ (step_lock, y) ∷ b)

  abbrev lock_first : List (ℕ × Bool) → List (ℕ × Bool)
  lock_first a = a ++ ((step_lock, y) ∷ (step_signatures, x) ∷ b)

  alone : (v w : Bool) → Turned (first_failing ((step_signatures, v) ∷ (step_lock, w) ∷ b))
      (first_failing ((step_lock, w) ∷ (step_signatures, v) ∷ b)) (meets_both ((step_lock, w) ∷ (step_signatures, v) ∷ b))
  unfolding first_failing meets_both meets passes_below every
  alone true w = unturned (first_failing ((step_lock, w) ∷ b))
  alone false true = unturned step_signatures
  alone false false = record { changed = λ h. (refl, refl); same = λ h. clash {b = passes_below 16 b} high h }

  pub turned : (a : List (ℕ × Bool)) → numbers_below 16 a ≡ true
      → Turned (first_failing (signatures_first a)) (first_failing (lock_first a)) (meets_both (lock_first a))
  unfolding first_failing
  turned [] w = alone x y
  turned (t ∷ a) w =
      let g = and_parts (ltb t.0 16) (numbers_below 16 a) w in
      split t.1
      (λ e. rw (both_behind t.0 t.1 (lock_first a) g.0 e, e) (turned a g.1))
      (λ e. rw (not_both t.0 t.1 (lock_first a) g.0 e, e) (unturned t.0))
