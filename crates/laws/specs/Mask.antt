-- Bit masks of a byte.
-- Assumes nothing.
use Rattle.std.specs.Prelude.{ℕ, zero, suc, ◌-◌, ◌/◌, ◌%◌, ◌^◌, Bool, not, ◌||◌, eqb}
use Rattle.std.specs.Int.Bits.{bit_and, bit_or}
use Rattle.laws.specs.Below.{all_below}

-- mask m has bit i
unfoldable pub bit : ℕ → ℕ → Bool
bit m i = eqb (m / 2 ^ i % 2) 1

-- of the lowest n bits, each that a has is b's too
unfoldable pub subset : ℕ → ℕ → ℕ → Bool
subset n a b = all_below n (λ i. not (bit a i) || bit b i)

-- the bits of a that b has not
unfoldable pub without : ℕ → ℕ → ℕ
without a b = bit_and a (255 - b)

-- the bits that any of f 0 .. f (n - 1) has
unfoldable pub union_below : ℕ → (ℕ → ℕ) → ℕ
union_below zero f = 0
union_below (suc n) f = bit_or (union_below n f) (f n)
