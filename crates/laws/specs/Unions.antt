-- Ors in any order, and the unions and sets of which one member grows.
-- Assumes nothing.
use Prim.Native.Nat.{ℕ, zero, suc, ◌+◌, ◌/◌, ◌%◌, ◌^◌, ◌≤◌, ◌<◌, max}
use Rattle.std.proofs.Common.{not-suc-le-zero, le_of_suc-le-suc, eq-or-lt_of_le, le_antisymm, add-one, arith, sym, ap, ◌∙◌, ne_eqb}
use Rattle.std.specs.Prelude.{◌≡◌, refl, Bool, true, false, eqb}
use Rattle.std.proofs.Math.Arith.{bin_ind}
use Rattle.std.specs.Int.Bits.{bit_or, or_step, or_self}
use Rattle.std.proofs.lemmas.Nat.{or_shr, or_mod, or_comm}
use Rattle.laws.specs.Booleans.{either, clash}
use Rattle.laws.specs.Bits.{zero_or_one}
use Rattle.laws.specs.Mask.{union_below}
use Rattle.laws.specs.Sets.{joined, set_below, set_same}

or_digits : (x y z : ℕ) → x < 2 → y < 2 → z < 2 → max (bit_or x y) z ≡ max x (bit_or y z)
or_digits x y z h k l =
    either (zero_or_one x h)
    (λ e. either (zero_or_one y k) (λ f. either (zero_or_one z l) (λ g. rw (e, f, g)) (λ g. rw (e, f, g))) (λ f. either (zero_or_one z l) (λ g. rw (e, f, g)) (λ g. rw (e, f, g))))
    (λ e. either (zero_or_one y k) (λ f. either (zero_or_one z l) (λ g. rw (e, f, g)) (λ g. rw (e, f, g))) (λ f. either (zero_or_one z l) (λ g. rw (e, f, g)) (λ g. rw (e, f, g))))

or_both : (n b c : ℕ) → bit_or (bit_or (n / 2) (b / 2)) (c / 2) ≡ bit_or (n / 2) (bit_or (b / 2) (c / 2)) → bit_or (bit_or n b) c ≡ bit_or n (bit_or b c)
or_both n b c ih =
    or_step (bit_or n b) c
    ∙ rw (or_shr n b 1, or_mod n b 1, ih, or_digits (n % 2) (b % 2) (c % 2) (omega arith) (omega arith) (omega arith), ← (or_shr b c 1), ← (or_mod b c 1)) refl
    ∙ sym (or_step n (bit_or b c))

pub or_assoc : (a b c : ℕ) → bit_or (bit_or a b) c ≡ bit_or a (bit_or b c)
or_assoc a = bin_ind (λ (n : ℕ). (b c : ℕ) → bit_or (bit_or n b) c ≡ bit_or n (bit_or b c)) (λ b c. refl) (λ n ih b c. or_both n b c (ih (b / 2) (c / 2))) a

pub or_swap : (a b c : ℕ) → bit_or (bit_or a b) c ≡ bit_or (bit_or a c) b
or_swap a b c = or_assoc a b c ∙ ap (bit_or a) (or_comm b c) ∙ sym (or_assoc a c b)

-- what is joined twice is joined once
pub or_again : (a b : ℕ) → bit_or (bit_or a b) b ≡ bit_or a b
or_again a b = or_assoc a b b ∙ ap (bit_or a) (or_self b)

pub or_contains : (a m : ℕ) → bit_or a (bit_or a m) ≡ bit_or a m
or_contains a m = sym (or_assoc a a m) ∙ ap (λ (x : ℕ). bit_or x m) (or_self a)

or_four : (a b c d : ℕ) → bit_or (bit_or a b) (bit_or c d) ≡ bit_or (bit_or a c) (bit_or b d)
or_four a b c d = sym (or_assoc (bit_or a b) c d) ∙ ap (λ (x : ℕ). bit_or x d) (or_swap a b c) ∙ or_assoc (bit_or a c) b d

-- a loop that joins masks: its start, a turn, its end
pub union_start : (f : ℕ → ℕ) → 0 ≡ union_below 0 f
unfolding union_below
union_start f = refl

pub union_more : (n : ℕ) (f : ℕ → ℕ) (a x : ℕ) → a ≡ union_below n f → x ≡ f n → bit_or a x ≡ union_below (n + 1) f
unfolding union_below
union_more n f a x e h = rw (add-one, e, h)

pub union_done : (k n : ℕ) (f : ℕ → ℕ) (a : ℕ) → k ≤ n → n ≤ k → a ≡ union_below k f → a ≡ union_below n f
union_done k n f a l m e = rw (le_antisymm m l) e

-- the union of greater masks is the greater
pub union_contains : (n : ℕ) (f g : ℕ → ℕ) → ((k : ℕ) → bit_or (f k) (g k) ≡ g k) → bit_or (union_below n f) (union_below n g) ≡ union_below n g
unfolding union_below
union_contains zero f g h = refl
union_contains (suc n) f g h =
    or_four (union_below n f) (f n) (union_below n g) (g n) ∙ rw (union_contains n f g h, h n) refl

-- the members below n are the same
pub union_same : (n : ℕ) (f g : ℕ → ℕ) → ((k : ℕ) → k < n → g k ≡ f k) → union_below n g ≡ union_below n f
unfolding union_below
union_same zero f g h = refl
union_same (suc n) f g h = rw (union_same n f g (λ k l. h k (omega arith)), h n (omega arith)) refl

joined_again : (m t : ℕ) (a b : Bool) → (a ≡ true → b ≡ true) → joined (joined m a t) b t ≡ joined m b t
unfolding joined
joined_again m t true true h = or_again m (2 ^ t)
joined_again m t true false h = clash (h refl) refl
joined_again m t false b h = refl

joined_swap : (m s t : ℕ) (a b : Bool) → joined (joined m a s) b t ≡ joined (joined m b t) a s
unfolding joined
joined_swap m s t true true = or_swap m (2 ^ s) (2 ^ t)
joined_swap m s t true false = refl
joined_swap m s t false b = refl

-- one member t grows, and the others stay as they are
module _ (t : ℕ) where
  pub union_grown : (n : ℕ) (f g : ℕ → ℕ) → t < n → ((k : ℕ) → eqb k t ≡ false → g k ≡ f k) → bit_or (f t) (g t) ≡ g t → bit_or (union_below n f) (g t) ≡ union_below n g
  unfolding union_below
  union_grown zero f g l same more = absurd (not-suc-le-zero l)
  union_grown (suc n) f g l same more =
      either (eq-or-lt_of_le (le_of_suc-le-suc l))
      (λ e. rw (← e) (or_assoc (union_below t f) (f t) (g t) ∙ rw (more, union_same t f g (λ k m. same k (ne_eqb k t (λ z. omega (arith, z))))) refl))
      (λ m. or_swap (union_below n f) (f n) (g t) ∙ rw (union_grown n f g m same more, same n (ne_eqb n t (λ z. omega (arith, z)))) refl)

  pub set_grown : (n : ℕ) (f g : ℕ → Bool) → t < n → ((k : ℕ) → eqb k t ≡ false → g k ≡ f k) → (f t ≡ true → g t ≡ true) → joined (set_below n f) (g t) t ≡ set_below n g
  unfolding set_below
  set_grown zero f g l same more = absurd (not-suc-le-zero l)
  set_grown (suc n) f g l same more =
      either (eq-or-lt_of_le (le_of_suc-le-suc l))
      (λ e. rw (← e) (joined_again (set_below t f) t (f t) (g t) more ∙ rw (set_same t g f (λ k m. same k (ne_eqb k t (λ z. omega (arith, z))))) refl))
      (λ m. joined_swap (set_below n f) n t (f n) (g t) ∙ rw (set_grown n f g m same more, same n (ne_eqb n t (λ z. omega (arith, z)))) refl)
