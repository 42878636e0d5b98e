-- Conflicts against a set: only the members below the count matter.
-- Assumes nothing.
use Rattle.laws.proofs.Prelude.{ℕ, ◌≤◌, ◌<◌, ◌≡◌, refl, sym, ap, ◌∙◌, Bool, true, false, not, ◌&&◌, and-false, List, eqb, eqb-true, arith, split, any_same, any_all_false}
use Rattle.laws.proofs.Prelude.{bit, no_bit, removed, set_below, none_set}
use mathlib.Core.Bool.{and_comm}
use Rattle.laws.specs.Sets.{bit_removed}
use Rattle.sheet.specs.Field.{count}
use Rattle.slots.specs.Conflict.{conflict, conflict_in, other_conflict_in}
use Rattle.slots.specs.Forms.Conflict.{found_in}

-- two sets with the same members
pub conflict_in_same : (s : List ℕ) (a b : ℕ → Bool) (t : ℕ) → ((k : ℕ) → k < count s → a k ≡ b k) → conflict_in s a t ≡ conflict_in s b t
unfolding conflict_in
conflict_in_same s a b t h =
    any_same (count s) (λ k. conflict s k t && a k) (λ k. conflict s k t && b k) (λ k l. ap (λ x. conflict s k t && x) (h k l))

-- a set without t has the other rivals of t
pub conflict_in_removed : (s : List ℕ) (m t : ℕ) → count s ≤ 32 → t < count s → conflict_in s (bit (removed m t)) t ≡ other_conflict_in s (bit m) t
unfolding other_conflict_in
conflict_in_removed s m t few l =
    conflict_in_same s (bit (removed m t)) (λ k. not (eqb k t) && bit m k) t
    (λ k h. bit_removed m t k (omega arith) (omega arith) ∙ and_comm (bit m k) (not (eqb k t)))

-- one that is no member has another rival in the set where it has a rival there
pub conflict_in_outside : (s : List ℕ) (member : ℕ → Bool) (others : Bool) (t : ℕ) → member t ≡ false → conflict_in s member t ≡ found_in s member others t
unfolding found_in other_conflict_in
conflict_in_outside s member true t out =
    conflict_in_same s member (λ k. not (eqb k t) && member k) t
    (λ k l. split (eqb k t) (λ y. rw (y, eqb-true k t y, out)) (λ y. rw y))
conflict_in_outside s member false t out = refl

-- no rival is in a set without members
none_there : (s : List ℕ) (t : ℕ) → conflict_in s (bit 0) t ≡ false
unfolding conflict_in
none_there s t =
    any_all_false (count s) (λ k. conflict s k t && bit 0 k) (λ k l. rw (no_bit k) (and-false (conflict s k t)))

pub conflicts_none : (s : List ℕ) (others : Bool) → 0 ≡ set_below (count s) (found_in s (bit 0) others)
conflicts_none s others =
    sym
    (none_set (count s) (found_in s (bit 0) others)
    (λ t l. sym (conflict_in_outside s (bit 0) others t (no_bit t)) ∙ none_there s t))
