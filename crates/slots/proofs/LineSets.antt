-- The members of a line's set are those of the line.
-- Assumes nothing.
use Rattle.laws.proofs.Prelude.{ℕ, zero, suc, ◌<◌, ◌≡◌, sym, ◌∙◌, true, List, eqb, ltb, ltb-true, arith, or-false, pick, split, climb_step, bit, no_bit, joined}
use Rattle.laws.proofs.Prelude.{bit_joined}
use mathlib.Core.Bool.{or_comm}
use Rattle.sheet.specs.Field.{parent}
use Rattle.slots.specs.Ancestry.{in_ancestry, is_self_or_ancestor}
use Rattle.slots.specs.Forms.Line.{line_set}
use Rattle.slots.proofs.AncestrySets.{line_step}

pub line_set_step : (s : List ℕ) (t : ℕ) → line_set s t ≡ joined (pick (ltb (parent s t) t) (line_set s (parent s t)) 0) true t
unfolding line_set
line_set_step s t = climb_step (parent s) (λ k above. joined above true k) 0 t

up_bits : (s : List ℕ) (n t k : ℕ) → t < n → t < 32 → k < 32 → bit (line_set s t) k ≡ in_ancestry s (eqb k) t
up_bits s zero t k l m h = absurd (omega arith)
up_bits s (suc n) t k l m h =
    rw (line_set_step s t, line_step s (eqb k) t)
    (bit_joined (pick (ltb (parent s t) t) (line_set s (parent s t)) 0) true t k m h
    ∙ split (ltb (parent s t) t)
    (λ e.
    let j = ltb-true (parent s t) t e in
    rw (e, up_bits s n (parent s t) k (omega arith) (omega arith) h) (or_comm (in_ancestry s (eqb k) (parent s t)) (eqb k t)))
    (λ e. rw (e, no_bit k) (sym (or-false (eqb k t)))))

pub line_bit : (s : List ℕ) (t k : ℕ) → t < 32 → k < 32 → bit (line_set s t) k ≡ is_self_or_ancestor s k t
unfolding is_self_or_ancestor
line_bit s t k m h = up_bits s (suc t) t k (omega arith) m h
