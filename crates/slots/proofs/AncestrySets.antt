-- A line, a step at a time, and against a set: only its members up to t matter.
-- Assumes nothing.
use Rattle.laws.proofs.Prelude.{ℕ, zero, suc, ◌≤◌, ◌<◌, ◌≡◌, ap, Bool, false, ◌||◌, List, ltb, ltb-true, arith, pick, split, bit, no_bit, climb_step}
use Rattle.sheet.specs.Field.{parent}
use Rattle.slots.specs.Ancestry.{in_ancestry}

-- the line of t is t and the line of its parent
pub line_step : (s : List ℕ) (p : ℕ → Bool) (t : ℕ) → in_ancestry s p t ≡ (p t || pick (ltb (parent s t) t) (in_ancestry s p (parent s t)) false)
unfolding in_ancestry
line_step s p t = climb_step (parent s) (λ k above. p k || above) false t

same_up : (s : List ℕ) (a b : ℕ → Bool) (n t : ℕ) → t < n → ((k : ℕ) → k ≤ t → a k ≡ b k) → in_ancestry s a t ≡ in_ancestry s b t
same_up s a b zero t l h = absurd (omega arith)
same_up s a b (suc n) t l h =
    rw (line_step s a t, line_step s b t, h t (omega arith))
    (ap (λ x. b t || x)
    (split (ltb (parent s t) t)
    (λ e.
    let m = ltb-true (parent s t) t e in
    rw e (same_up s a b n (parent s t) (omega arith) (λ k j. h k (omega arith))))
    (λ e. rw e)))

-- two sets with the same members up to t
pub in_ancestry_same : (s : List ℕ) (a b : ℕ → Bool) (t : ℕ) → ((k : ℕ) → k ≤ t → a k ≡ b k) → in_ancestry s a t ≡ in_ancestry s b t
in_ancestry_same s a b t h = same_up s a b (suc t) t (omega arith) h

none_up : (s : List ℕ) (p : ℕ → Bool) (n t : ℕ) → t < n → ((k : ℕ) → p k ≡ false) → in_ancestry s p t ≡ false
none_up s p zero t l h = absurd (omega arith)
none_up s p (suc n) t l h =
    rw (line_step s p t, h t)
    (split (ltb (parent s t) t)
    (λ e.
    let m = ltb-true (parent s t) t e in
    rw e (none_up s p n (parent s t) (omega arith) h))
    (λ e. rw e))

-- no line meets the empty set
pub line_none : (s : List ℕ) (t : ℕ) → in_ancestry s (bit 0) t ≡ false
line_none s t = none_up s (bit 0) (suc t) t (omega arith) no_bit
