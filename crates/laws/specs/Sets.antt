-- Sets of the numbers below 32, as masks.
-- Assumes nothing.
use Rattle.std.specs.Prelude.{ℕ, zero, suc, ◌+◌, ◌*◌, ◌-◌, ◌/◌, ◌%◌, ◌≤◌, ◌<◌, ◌^◌, ◌≡◌, refl, Bool, true, false, not, ◌&&◌, ◌||◌, eqb}
use Rattle.std.proofs.Common.{not-suc-le-zero, le_of_suc-le-suc, eq-or-lt_of_le, le_antisymm, div-one, add-one, arith, sym, ap, ◌∙◌, pow_pos, eq-eqb, ne_eqb}
use Rattle.std.proofs.Math.Nat.{pow-succ'}
use Rattle.std.specs.Bool.{beq}
use Rattle.std.proofs.Math.Bool.{or-false, and-true, and-false}
use Rattle.std.specs.Int.Bits.{bit_and, bit_or}
use Rattle.std.proofs.lemmas.Nat.{and_le_l, or_lt}
use Rattle.std.proofs.Math.Pow.{pow-lt}
use Rattle.laws.specs.Booleans.{pick, split, clash, either, and_parts, beq_same}
use Rattle.laws.specs.Below.{all_below, any_below, all_at, any_some, any_none}
use Rattle.laws.specs.Mask.{bit}
use Rattle.laws.specs.Bits.{zero_or_one, bit_or_lem, bit_and_lem, no_bit, bit_half}

-- the set with t too, where the test holds
unfoldable pub joined : ℕ → Bool → ℕ → ℕ
joined m on t = pick on (bit_or m (2 ^ t)) m

-- the set without t
unfoldable pub removed : ℕ → ℕ → ℕ
removed m t = bit_and m (4294967295 - 2 ^ t)

-- the numbers below n that pass
unfoldable pub set_below : ℕ → (ℕ → Bool) → ℕ
set_below zero p = 0
set_below (suc n) p = joined (set_below n p) (p n) n

-- one test over the bits of the 32 powers of two, and of what each leaves of a full word
powers : all_below 32 (λ t. all_below 32 (λ k. beq (bit (2 ^ t) k) (eqb k t) && beq (bit (4294967295 - 2 ^ t) k) (not (eqb k t)))) ≡ true
unfolding all_below bit
powers = refl

power_bits : (t k : ℕ) → t < 32 → k < 32 → (bit (2 ^ t) k ≡ eqb k t) × (bit (4294967295 - 2 ^ t) k ≡ not (eqb k t))
power_bits t k l m =
    let at-t = all_at 32 (λ j. all_below 32 (λ i. beq (bit (2 ^ j) i) (eqb i j) && beq (bit (4294967295 - 2 ^ j) i) (not (eqb i j)))) powers t l in
    let w = and_parts _ _ (all_at 32 (λ i. beq (bit (2 ^ t) i) (eqb i t) && beq (bit (4294967295 - 2 ^ t) i) (not (eqb i t))) at-t k m) in
    (beq_same _ _ w.0, beq_same _ _ w.1)

pub bit_joined : (m : ℕ) (on : Bool) (t k : ℕ) → t < 32 → k < 32 → bit (joined m on t) k ≡ (bit m k || (on && eqb k t))
unfolding joined
bit_joined m true t k l h = bit_or_lem m (2 ^ t) k ∙ ap (λ b. bit m k || b) (power_bits t k l h).0
bit_joined m false t k l h = sym (or-false (bit m k))

pub bit_removed : (m t k : ℕ) → t < 32 → k < 32 → bit (removed m t) k ≡ (bit m k && not (eqb k t))
unfolding removed
bit_removed m t k l h = bit_and_lem m (4294967295 - 2 ^ t) k ∙ ap (λ b. bit m k && b) (power_bits t k l h).1

-- the bits of what a set leaves of a full word of n bits
ones : ℕ → ℕ
ones zero = 0
ones (suc n) = 2 * ones n + 1

pub bit_first : (m : ℕ) → bit m 0 ≡ eqb (m % 2) 1
unfolding bit
bit_first m = rw (div-one m)

left_bit : (n m k : ℕ) → m ≤ ones n → k < n → bit (ones n - m) k ≡ not (bit m k)
unfolding ones
left_bit zero m k h l = absurd (not-suc-le-zero l)
left_bit (suc n) m zero h l =
    rw (bit_first (2 * ones n + 1 - m), bit_first m)
    (either (zero_or_one (m % 2) (omega arith))
    (λ e. let f : (2 * ones n + 1 - m) % 2 ≡ 1 = omega arith in rw (e, f))
    (λ e. let f : (2 * ones n + 1 - m) % 2 ≡ 0 = omega arith in rw (e, f)))
left_bit (suc n) m (suc k) h l =
    let e : (2 * ones n + 1 - m) / 2 ≡ ones n - m / 2 = omega arith in
    rw (bit_half (2 * ones n + 1 - m) k, bit_half m k, e) (left_bit n (m / 2) k (omega arith) (omega arith))

pub bit_outside : (m k : ℕ) → m < 4294967296 → k < 32 → bit (4294967295 - m) k ≡ not (bit m k)
unfolding ones
bit_outside m k h l = left_bit 32 m k (omega arith) l

none_above : (n : ℕ) (p : ℕ → Bool) → n ≤ 32 → (k : ℕ) → n ≤ k → k < 32 → bit (set_below n p) k ≡ false
unfolding set_below
none_above zero p l k h m = no_bit k
none_above (suc n) p l k h m =
    bit_joined (set_below n p) (p n) n k (omega arith) m
    ∙ rw (none_above n p (omega arith) k (omega arith) m, ne_eqb k n (λ e. omega (arith, e))) (and-false (p n))

-- a member of the set is a number that passes
pub set_bit : (n : ℕ) (p : ℕ → Bool) → n ≤ 32 → (k : ℕ) → k < n → bit (set_below n p) k ≡ p k
unfolding set_below
set_bit zero p l k h = absurd (not-suc-le-zero h)
set_bit (suc n) p l k h =
    bit_joined (set_below n p) (p n) n k (omega arith) (omega arith)
    ∙ either (eq-or-lt_of_le (le_of_suc-le-suc h))
    (λ e. rw (e, none_above n p (omega arith) n (omega arith) (omega arith), eq-eqb n n refl) (and-true (p n)))
    (λ m. rw (set_bit n p (omega arith) k m, ne_eqb k n (λ e. omega (arith, e)), and-false (p n)) (or-false (p k)))

-- a set of the numbers below n is a word of n bits, and of more
pub joined_small : (m x n : ℕ) (on : Bool) → x < 2 ^ m → n < m → joined x on n < 2 ^ m
unfolding joined
joined_small m x n true h l = or_lt m x (2 ^ n) h (pow-lt l)
joined_small m x n false h l = h

pub set_small : (m n : ℕ) (p : ℕ → Bool) → n ≤ m → set_below n p < 2 ^ m
unfolding set_below
set_small m zero p l = pow_pos m
set_small m (suc n) p l = joined_small m (set_below n p) n (p n) (set_small m n p (omega arith)) l

-- two words of n bits with the same bits
digit_same : (a b : ℕ) → a < 2 → b < 2 → eqb a 1 ≡ eqb b 1 → a ≡ b
digit_same a b h k e =
    either (zero_or_one a h)
    (λ x. either (zero_or_one b k) (λ y. x ∙ sym y) (λ y. clash {b = true} refl (rw (x, y) at (sym e))))
    (λ x. either (zero_or_one b k) (λ y. clash {b = true} refl (rw (x, y) at e)) (λ y. x ∙ sym y))

pub word_same : (n a b : ℕ) → a < 2 ^ n → b < 2 ^ n → ((k : ℕ) → k < n → bit a k ≡ bit b k) → a ≡ b
word_same zero a b h k f = omega arith
word_same (suc n) a b h k f =
    let x : a < 2 * 2 ^ n = rw (pow-succ' 2 n) at h in
    let y : b < 2 * 2 ^ n = rw (pow-succ' 2 n) at k in
    let high : a / 2 ≡ b / 2 =
    word_same n (a / 2) (b / 2) (omega (arith, x)) (omega (arith, y)) (λ i l. sym (bit_half a i) ∙ f (suc i) (omega (arith, l)) ∙ bit_half b i) in
    let low : a % 2 ≡ b % 2 = digit_same (a % 2) (b % 2) (omega arith) (omega arith) (sym (bit_first a) ∙ f 0 (omega arith) ∙ bit_first b) in
    omega (arith, high, low)

-- the members of a set that another has not
pub set_outside : (n : ℕ) (p : ℕ → Bool) (m : ℕ) → n ≤ 32 → m < 4294967296
    → bit_and (set_below n p) (4294967295 - m) ≡ set_below n (λ k. p k && not (bit m k))
set_outside n p m few h =
    let l = set_small n n p (omega arith) in
    word_same n (bit_and (set_below n p) (4294967295 - m)) (set_below n (λ k. p k && not (bit m k)))
    (omega (arith, l, and_le_l (set_below n p) (4294967295 - m)))
    (set_small n n (λ k. p k && not (bit m k)) (omega arith))
    (λ k i.
    bit_and_lem (set_below n p) (4294967295 - m) k
    ∙ rw (set_bit n p few k i, bit_outside m k h (omega (arith, i, few)))
    (sym (set_bit n (λ j. p j && not (bit m j)) few k i)))

-- a loop that makes a set: its start, a turn, its end
pub set_start : (p : ℕ → Bool) → 0 ≡ set_below 0 p
unfolding set_below
set_start p = refl

pub set_more : (n : ℕ) (p : ℕ → Bool) (m r : ℕ) (b : Bool) → m ≡ set_below n p → r ≡ joined m b n → b ≡ p n → r ≡ set_below (n + 1) p
unfolding set_below
set_more n p m r b e h k = rw (add-one, h, e, k)

pub set_done : (k n : ℕ) (p : ℕ → Bool) (m : ℕ) → k ≤ n → n ≤ k → m ≡ set_below k p → m ≡ set_below n p
set_done k n p m l h e = rw (le_antisymm h l) e

-- two tests that agree below n
pub set_same : (n : ℕ) (p q : ℕ → Bool) → ((k : ℕ) → k < n → p k ≡ q k) → set_below n p ≡ set_below n q
unfolding set_below
set_same zero p q h = refl
set_same (suc n) p q h = rw (set_same n p q (λ k l. h k (omega arith)), h n (omega arith))

-- the set is empty where none passes, and not where some number below n does
pub none_set : (n : ℕ) (p : ℕ → Bool) → ((k : ℕ) → k < n → p k ≡ false) → set_below n p ≡ 0
unfolding set_below joined
none_set zero p h = refl
none_set (suc n) p h = rw (h n (omega arith), none_set n p (λ k m. h k (omega arith)))

pub set_some : (n : ℕ) (p : ℕ → Bool) → n ≤ 32 → not (eqb (set_below n p) 0) ≡ any_below n p
set_some n p l =
    split (any_below n p)
    (λ e.
    let w = any_some n p e in
    rw (e, ne_eqb (set_below n p) 0 (λ z. clash (set_bit n p l w.0 w.1 ∙ w.2) (rw z (no_bit w.0)))))
    (λ e. rw (e, none_set n p (any_none n p e)))
