-- The bits of masks that others are made of.
-- Assumes nothing.
use Rattle.std.specs.Prelude.{ℕ, zero, suc, ◌/◌, ◌%◌, ◌^◌, ◌<◌, ◌≤◌, ◌≡◌, refl, ◌⊎◌, true, false, not, ◌&&◌, ◌||◌, eqb}
use Rattle.std.proofs.Common.{arith, sym, ◌∙◌, inl, inr, ne_eqb}
use Rattle.std.proofs.Math.Nat.{zero-div, pow-le-pow_right, pow-succ', div-eq_of_lt, div-div-eq-div-mul}
use Rattle.std.specs.Int.Bits.{bit_and, bit_or}
use Rattle.std.proofs.lemmas.Nat.{or_shr, and_shr, or_mod, and_mod}
use Rattle.laws.specs.Booleans.{either, clash, or_parts}
use Rattle.laws.specs.Below.{all_at, all_from, all_first, all_upto, all_same}
use Rattle.laws.specs.Mask.{bit, subset, union_below}

-- a number below two
pub zero_or_one : (n : ℕ) → n < 2 → (n ≡ 0) ⊎ (n ≡ 1)
zero_or_one zero h = inl refl
zero_or_one (suc zero) h = inr refl
zero_or_one (suc (suc n)) h = absurd (omega arith)

or_digit : (a b : ℕ) → a < 2 → b < 2 → eqb (bit_or a b) 1 ≡ (eqb a 1 || eqb b 1)
or_digit a b h k =
    either (zero_or_one a h)
    (λ e. either (zero_or_one b k) (λ f. rw (e, f)) (λ f. rw (e, f)))
    (λ e. either (zero_or_one b k) (λ f. rw (e, f)) (λ f. rw (e, f)))

and_digit : (a b : ℕ) → a < 2 → b < 2 → eqb (bit_and a b) 1 ≡ (eqb a 1 && eqb b 1)
and_digit a b h k =
    either (zero_or_one a h)
    (λ e. either (zero_or_one b k) (λ f. rw (f, e)) (λ f. rw (f, e)))
    (λ e. either (zero_or_one b k) (λ f. rw (f, e)) (λ f. rw (f, e)))

pub bit_or_lem : (a b i : ℕ) → bit (bit_or a b) i ≡ (bit a i || bit b i)
unfolding bit
bit_or_lem a b i =
    rw (or_shr a b i, or_mod (a / 2 ^ i) (b / 2 ^ i) 1) (or_digit (a / 2 ^ i % 2) (b / 2 ^ i % 2) (omega arith) (omega arith))

pub bit_and_lem : (a b i : ℕ) → bit (bit_and a b) i ≡ (bit a i && bit b i)
unfolding bit
bit_and_lem a b i =
    rw (and_shr a b i, and_mod (a / 2 ^ i) (b / 2 ^ i) 1) (and_digit (a / 2 ^ i % 2) (b / 2 ^ i % 2) (omega arith) (omega arith))

pub no_bit : (i : ℕ) → bit 0 i ≡ false
unfolding bit
no_bit i = ne_eqb (0 / 2 ^ i % 2) 1 (λ e. omega (arith, zero-div (2 ^ i), e))

-- a bit of an or is one of its parts'
pub or_bit : (a b i : ℕ) → bit (bit_or a b) i ≡ true → (bit a i ≡ true) ⊎ (bit b i ≡ true)
or_bit a b i h = or_parts (bit a i) (bit b i) (sym (bit_or_lem a b i) ∙ h)

-- a bit of a union is one member's
pub union_bit : (n : ℕ) (f : ℕ → ℕ) (i : ℕ) → bit (union_below n f) i ≡ true → (k : ℕ) × (k < n) × (bit (f k) i ≡ true)
unfolding union_below
union_bit zero f i h = clash h (no_bit i)
union_bit (suc n) f i h =
    either (or_bit (union_below n f) (f n) i h)
    (λ y. let w = union_bit n f i y in (w.0, omega (arith, w.1), w.2))
    (λ y. (n, omega arith, y))

-- a bit of a subset is the whole's
pub subset_bit : (n a b : ℕ) → subset n a b ≡ true → (i : ℕ) → i < n → bit a i ≡ true → bit b i ≡ true
unfolding subset
subset_bit n a b h i l e = rw e at (all_at n (λ k. not (bit a k) || bit b k) h i l)

-- a number of n bits has none from place n on
pub bit_above : (m n k : ℕ) → m < 2 ^ n → n ≤ k → bit m k ≡ false
unfolding bit
bit_above m n k h l =
    let w : 2 ^ n ≤ 2 ^ k = pow-le-pow_right (omega arith) l in
    let z : m / 2 ^ k ≡ 0 = div-eq_of_lt (omega (arith, w, h)) in
    rw z

-- the bit after k is the half's bit k
pub bit_half : (m k : ℕ) → bit m (suc k) ≡ bit (m / 2) k
unfolding bit
bit_half m k = rw (pow-succ' 2 k, ← (div-div-eq-div-mul m 2 (2 ^ k)))

-- the empty mask is a subset
pub subset_none : (n b : ℕ) → subset n 0 b ≡ true
unfolding subset
subset_none n b = all_from n (λ i. not (bit 0 i) || bit b i) (λ i l. rw (no_bit i))

-- a mask of n bits, tested at more places
pub subset_within : (n m a b : ℕ) → a < 2 ^ n → n ≤ m → subset n a b ≡ subset m a b
unfolding subset
subset_within n m a b h l = all_upto n m (λ i. not (bit a i) || bit b i) l (λ i j k. rw (bit_above a n i h j))

-- the lowest bit, then both masks shifted right by one
pub subset_shift : (n a b : ℕ) → a < 2 ^ n → subset n a b ≡ ((not (bit a 0) || bit b 0) && subset n (a / 2) (b / 2))
unfolding subset
subset_shift n a b h =
    subset_within n (suc n) a b h (omega arith)
    ∙ all_first n (λ i. not (bit a i) || bit b i)
    ∙ rw (all_same n (λ i. not (bit a (suc i)) || bit b (suc i)) (λ i. not (bit (a / 2) i) || bit (b / 2) i) (λ i l. rw (bit_half a i, bit_half b i)))
