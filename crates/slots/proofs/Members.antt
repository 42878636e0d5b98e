-- Going through the members of a set: what is left at the start, and after each of them.
-- Assumes nothing.
use Rattle.std.specs.Int.{w32}
use Rattle.std.proofs.lemmas.Nat.Bits.{bit_at-trailing_zeros}
use Rattle.std.proofs.lemmas.Nat.{and_le_l}
use Rattle.laws.proofs.Prelude.{ℕ, ◌-◌, ◌^◌, ◌≤◌, ◌<◌, ◌≡◌, refl, sym, ap, ◌∙◌, Bool, true, false, ◌&&◌, and-false, Bool·beq, ltb, leb, eq-eqb, arith, clash, and_parts, beq_same}
use Rattle.laws.proofs.Prelude.{all_below, all_at, bit, bit_and, bit_and_lem, removed}
use Rattle.laws.specs.Sets.{bit_removed}
use lib.Count.{count_trailing_zeros}
use Rattle.slots.specs.Forms.Members.{Between, Least}
use Rattle.slots.proofs.Trailing.{below_trailing, at_trailing}

-- one test over the bits below a number, and of what they leave of a full word
masks : all_below 33 (λ n. all_below 32 (λ k. Bool·beq (bit (2 ^ n - 1) k) (ltb k n) && Bool·beq (bit (18446744073709551615 - (2 ^ n - 1)) k) (leb n k))) ≡ true
unfolding all_below bit
masks = refl

mask_bits : (n k : ℕ) → n ≤ 32 → k < 32 → (bit (2 ^ n - 1) k ≡ ltb k n) × (bit (18446744073709551615 - (2 ^ n - 1)) k ≡ leb n k)
mask_bits n k l h =
    let at_n = all_at 33 (λ i. all_below 32 (λ j. Bool·beq (bit (2 ^ i - 1) j) (ltb j i) && Bool·beq (bit (18446744073709551615 - (2 ^ i - 1)) j) (leb i j))) masks n (omega (arith, l)) in
    let w = and_parts _ _ (all_at 32 (λ j. Bool·beq (bit (2 ^ n - 1) j) (ltb j n) && Bool·beq (bit (18446744073709551615 - (2 ^ n - 1)) j) (leb n j)) at_n k h) in
    (beq_same _ _ w.0, beq_same _ _ w.1)

turned : (a b c : Bool) → ((a && b) && c) ≡ (a && (c && b))
turned true true true = refl
turned true true false = refl
turned true false true = refl
turned true false false = refl
turned false b c = refl

-- the members between two numbers
pub between_masks : (set from n : ℕ) → from ≤ 32 → n ≤ 32 → Between set from n (bit_and (bit_and set (2 ^ n - 1)) (18446744073709551615 - (2 ^ from - 1)))
between_masks set from n l h = record {
  at = λ k i.
      bit_and_lem (bit_and set (2 ^ n - 1)) (18446744073709551615 - (2 ^ from - 1)) k
      ∙ rw (bit_and_lem set (2 ^ n - 1) k, (mask_bits n k h i).0, (mask_bits from k l i).1) (turned (bit set k) (ltb k n) (leb from k));
}

-- the least member of one that has some
pub least_taken : (m : ℕ) → (m ≡ 0 → ⊥) → m < 4294967296 → Least m (count_trailing_zeros 32 m) (removed m (count_trailing_zeros 32 m))
least_taken m h l =
    let low : count_trailing_zeros 32 m < 32 = (bit_at-trailing_zeros w32 m (omega (arith, h)) l).0 in
    record { low = low; here = at_trailing 32 m low; gap = below_trailing 32 m; rest = refl }

-- a set without a member is a lower number
pub least_lower : (m k r : ℕ) → Least m k r → r < m
unfolding removed
least_lower m k r w =
    let e : bit (removed m k) k ≡ false = bit_removed m k k w.low w.low ∙ rw (eq-eqb k k refl) (and-false (bit m k)) in
    let d : removed m k ≡ m → ⊥ = λ z. clash w.here (ap (λ x. bit x k) (sym z) ∙ e) in
    omega (arith, w.rest, d, and_le_l m (4294967295 - 2 ^ k))
