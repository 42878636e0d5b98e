-- The number of a mask's bits, as a count of ones gives it.
-- Assumes nothing.
use Rattle.std.specs.Prelude.{ℕ, zero, suc, ◌+◌, ◌/◌, ◌%◌, ◌^◌, ◌≤◌, ◌<◌, ◌≡◌, refl, eqb}
use Rattle.std.proofs.Common.{arith, add-one, div-one, lt_of_lt_of_le, sym, ap, ap₂, ◌∙◌, pow_mono, shr_lt}
use Rattle.std.specs.Int.Count.{ones, ones_in, ones_step}
use Rattle.std.proofs.Math.Pow.{field, mod-mod-pow}
use Rattle.laws.specs.Booleans.{pick}
use Rattle.laws.specs.Mask.{bit}
use Rattle.laws.specs.Bits.{bit_half}
use Rattle.laws.specs.Sum.{sum_below, bits_below, sum_same, sum_front}

digit : (x : ℕ) → x < 2 → pick (eqb x 1) 1 0 ≡ x
digit zero h = refl
digit (suc zero) h = refl
digit (suc (suc x)) h = absurd (omega arith)

-- the lowest bit, and the bits of the half
lowest : (m : ℕ) → pick (bit m 0) 1 0 ≡ m % 2
unfolding bit
lowest m = digit (m / 1 % 2) (omega arith) ∙ ap (λ x. x % 2) (div-one m)

half : (n m : ℕ) → bits_below (suc n) m ≡ m % 2 + bits_below n (m / 2)
unfolding bits_below
half n m =
    sum_front n (λ i. pick (bit m i) 1 0)
    ∙ ap₂ (λ (x y : ℕ). x + y) (lowest m)
    (sum_same n (λ i. pick (bit m (suc i)) 1 0) (λ i. pick (bit (m / 2) i) 1 0) (λ i h. ap (λ b. pick b 1 0) (bit_half m i)))

-- a mask of n bits
pub ones_bits : (n m : ℕ) → m < 2 ^ n → ones m ≡ bits_below n m
unfolding ones ones_in bits_below sum_below
ones_bits zero m h = let e : m ≡ 0 = omega arith in rw e
ones_bits (suc n) m h =
    let l : m < 2 ^ (n + 1) = rw (add-one n) h in
    ones_step m ∙ ap (λ x. m % 2 + x) (ones_bits n (m / 2) (shr_lt n 1 l)) ∙ sym (half n m)

-- a mask of n bits has none above
pub bits_short : (n k m : ℕ) → n ≤ k → m < 2 ^ n → bits_below k m ≡ bits_below n m
bits_short n k m l h = sym (ones_bits k m (lt_of_lt_of_le h (pow_mono l))) ∙ ones_bits n m h

-- the n lowest bits of a mask
pub bits_low : (n m : ℕ) → bits_below n (m % 2 ^ n) ≡ bits_below n m
unfolding bits_below sum_below
bits_low zero m = refl
bits_low (suc n) m =
    half n (m % 2 ^ suc n)
    ∙ rw (← (add-one n), mod-mod-pow m n 1, field m n 1) (ap (λ x. m % 2 + x) (bits_low n (m / 2)))
    ∙ sym (half n m)
