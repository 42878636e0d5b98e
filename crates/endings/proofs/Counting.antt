-- The bits of a mask counted.
-- Assumes nothing.
use Rattle.std.proofs.Common.{pow_pos}
use Rattle.std.proofs.Math.Nat.{mod-lt}
use Rattle.std.proofs.lemmas.Nat.{and_mask, mod-pow-add, ones_cat}
use Rattle.std.specs.Int.Bits.{bit_and}
use Rattle.std.specs.Int.Count.{ones}
use Rattle.laws.proofs.Prelude.{ℕ, zero, suc, ◌+◌, ◌-◌, ◌*◌, ◌/◌, ◌%◌, ◌^◌, ◌≤◌, ◌<◌, ◌≡◌, refl, ap, ◌∙◌, true, eqb, arith, eq-or-lt_of_le, le_of_suc-le-suc, either, pick, bit, sum_below, bits_below}
use Rattle.laws.specs.Bits.{zero_or_one}
use Rattle.laws.specs.Sum.{bits_bound}
use Rattle.endings.specs.Forms.Bounds.{Ones}

-- the digits of a number's low n bits, counted by the library
one_digit : (d : ℕ) → d < 2 → ones d ≡ pick (eqb d 1) 1 0
unfolding ones
one_digit d h = either (zero_or_one d h) (λ e. rw e refl) (λ e. rw e refl)

ones_low : (n m : ℕ) → ones (m % 2 ^ n) ≡ bits_below n m
unfolding bits_below sum_below bit
ones_low zero m = let z : m % 1 ≡ 0 = omega arith in rw z (one_digit 0 (omega arith))
ones_low (suc n) m =
    let e : m % 2 ^ (suc n) ≡ (m / 2 ^ n % 2) * 2 ^ n + m % 2 ^ n = let up : suc n ≡ 1 + n = omega arith in rw up (mod-pow-add m 1 n) in
    rw e
    (ones_cat n (m / 2 ^ n % 2) (m % 2 ^ n) (mod-lt m (pow_pos n))
    ∙ rw (one_digit (m / 2 ^ n % 2) (omega arith), ones_low n m) (omega arith))

pub ones_masked : (m n r : ℕ) → r ≡ ones (bit_and m (2 ^ n - 1)) → Ones (bits_below n m) n r
ones_masked m n r h =
    let e = h ∙ ap ones (and_mask m n) ∙ ones_low n m in
    record { is = e; few = rw e (bits_bound n m) }

-- one bit more of a mask that has it
ones_more : (mask t : ℕ) → bit mask t ≡ true → bits_below (suc t) mask ≡ bits_below t mask + 1
unfolding bits_below sum_below
ones_more mask t h = rw h

ones_grow : (mask k n : ℕ) → k ≤ n → bits_below k mask ≤ bits_below n mask
unfolding bits_below sum_below
ones_grow mask k zero h = let z : k ≡ 0 = omega arith in rw z (omega arith)
ones_grow mask k (suc n) h =
    either (eq-or-lt_of_le h)
    (λ e. rw e (omega arith))
    (λ l. omega (arith, ones_grow mask k n (le_of_suc-le-suc l)))

-- a destination's four bytes stand in a list that has four for each bit
pub ones_room : (mask t n place size : ℕ) → t < n → bit mask t ≡ true → place ≡ bits_below t mask → size ≡ 4 * bits_below n mask → 4 * place + 4 ≤ size
ones_room mask t n place size h b e f = omega (arith, ones_more mask t b, ones_grow mask (suc t) n h)
