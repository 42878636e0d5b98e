-- Lacks: which secrets meet them.
-- Assumes nothing.
use Rattle.laws.proofs.Prelude.{ℕ, zero, suc, ◌*◌, ◌-◌, ◌/◌, ◌%◌, ◌^◌, ◌≤◌, ◌<◌, ◌≡◌, refl, sym, ◌∙◌, Bool, true, false, not, ◌&&◌, List, eqb, eqb-true, ne_eqb, eq-eqb}
use Rattle.laws.proofs.Prelude.{not-true, arith, Bool·beq, bit_and, bit_or, split, clash, either, and_parts, beq_same, fails_by, all_below, all_at, bit, subset, without}
use Rattle.laws.proofs.Prelude.{bit_and_lem, no_bit, or_bit, bit_above, zero_or_one, subset_bit, bit_outside}
use Rattle.position.proofs.Rules.{count, signatures, required, Checked, signed, shares_to}
use native.Mathlib.Nat.{pow-succ'}
use lib.Bits.{and_le_l}
use Rattle.laws.specs.Bits.{bit_half}
use Rattle.laws.specs.Sets.{bit_first}
use Rattle.attainable.specs.Forms.Others.{meets, Lacks}
use Rattle.attainable.proofs.Masks.{subset_from, or_left, or_last}

-- two tests of which each follows from the other
pub both_ways : (a b : Bool) → (a ≡ true → b ≡ true) → (b ≡ true → a ≡ true) → a ≡ b
both_ways true b f g = sym (f refl)
both_ways false b f g = sym (fails_by b (λ y. clash {b = false} (g y) refl))

-- a word without bits
pub no_bits : (n m : ℕ) → m < 2 ^ n → ((k : ℕ) → k < n → bit m k ≡ false) → m ≡ 0
no_bits zero m h f = omega (arith, h)
no_bits (suc n) m h f =
    let l : m < 2 * 2 ^ n = rw (pow-succ' 2 n) at h in
    let high : m / 2 ≡ 0 = no_bits n (m / 2) (omega (arith, l)) (λ k i. sym (bit_half m k) ∙ f (suc k) (omega (arith, i))) in
    let low : m % 2 ≡ 0 =
    either (zero_or_one (m % 2) (omega arith)) (λ e. e) (λ e. clash {b = bit m 0} (bit_first m ∙ rw e) (f 0 (omega arith))) in
    omega (arith, high, low)

-- the bits of what a byte leaves
bytes : all_below 256 (λ m. all_below 8 (λ k. Bool·beq (bit (255 - m) k) (not (bit m k)))) ≡ true
unfolding all_below bit
bytes = refl

left_bit : (m k : ℕ) → m < 256 → k < 8 → bit (255 - m) k ≡ not (bit m k)
left_bit m k h l =
    beq_same _ _
    (all_at 8 (λ j. Bool·beq (bit (255 - m) j) (not (bit m j))) (all_at 256 (λ i. all_below 8 (λ j. Bool·beq (bit (255 - i) j) (not (bit i j)))) bytes m h) k l)

module _ (n need have secrets : ℕ) (few : n ≤ 8) (word : need < 2 ^ n) (byte : have < 256) (small : secrets < 256) where
  -- a signature that is needed, neither at hand nor shown
  lacking : (k : ℕ) → k < n → bit (bit_and (without need have) (4294967295 - secrets)) k ≡ ((bit need k && not (bit have k)) && not (bit secrets k))
  unfolding without
  lacking k l =
      bit_and_lem (bit_and need (255 - have)) (4294967295 - secrets) k
      ∙ rw (bit_and_lem need (255 - have) k, left_bit have k byte (omega (arith, l, few)), bit_outside secrets k (omega (arith, small)) (omega (arith, l, few)))

  below : bit_and (without need have) (4294967295 - secrets) < 2 ^ n
  unfolding without
  below = omega (arith, word, and_le_l (without need have) (4294967295 - secrets), and_le_l need (255 - have))

  unlacking : subset n need (bit_or have secrets) ≡ true → (k : ℕ) → k < n → ((bit need k && not (bit have k)) && not (bit secrets k)) ≡ true → ⊥
  unlacking y k l z =
      let a = and_parts (bit need k && not (bit have k)) (not (bit secrets k)) z in
      let b = and_parts (bit need k) (not (bit have k)) a.0 in
      either (or_bit have secrets k (subset_bit n need (bit_or have secrets) y k l b.0))
      (λ i. clash i (not-true (bit have k) b.1))
      (λ i. clash i (not-true (bit secrets k) a.1))

  pub lack_met : meets secrets (without need have) ≡ subset n need (bit_or have secrets)
  unfolding meets
  lack_met =
      both_ways (eqb (bit_and (without need have) (4294967295 - secrets)) 0) (subset n need (bit_or have secrets))
      (λ y.
      let e = eqb-true (bit_and (without need have) (4294967295 - secrets)) 0 y in
      subset_from n need (bit_or have secrets)
      (λ k l i.
      split (bit have k)
      (λ a. or_left have secrets k a)
      (λ a.
      split (bit secrets k)
      (λ b. or_last have secrets k b)
      (λ b. clash {b = bit (bit_and (without need have) (4294967295 - secrets)) k} (lacking k l ∙ rw (i, a, b)) (rw e (no_bit k))))))
      (λ y.
      eq-eqb (bit_and (without need have) (4294967295 - secrets)) 0
      (no_bits n (bit_and (without need have) (4294967295 - secrets)) below
      (λ k l. lacking k l ∙ fails_by ((bit need k && not (bit have k)) && not (bit secrets k)) (unlacking y k l))))

top : bit 256 8 ≡ true
unfolding bit
top = refl

-- nobody meets a bit above all signatures
pub never_met : (secrets : ℕ) → secrets < 256 → meets secrets 256 ≡ false
unfolding meets
never_met secrets small =
    ne_eqb (bit_and 256 (4294967295 - secrets)) 0
    (λ e.
    clash {b = bit (bit_and 256 (4294967295 - secrets)) 8}
    (bit_and_lem 256 (4294967295 - secrets) 8
    ∙ rw (top, bit_outside secrets 8 (omega (arith, small)) (omega arith), bit_above secrets 8 8 small (omega arith)))
    (rw e (no_bit 8)))

-- what is lacking, case by case
module _ (s : List ℕ) (barred : Bool) (x have d t : ℕ) where
  pub lack_barred : barred ≡ true → Lacks s barred x have d t 256
  lack_barred e = record { met = λ m h. rw e (never_met m h) }

  pub lack_away : barred ≡ false → shares_to s t d ≡ false → Lacks s barred x have d t 256
  lack_away e f = record { met = λ m h. rw (e, f) (never_met m h) }

  pub lack_own : barred ≡ false → shares_to s t d ≡ true → d ≡ x → Lacks s barred x have d t 256
  lack_own e f g = record { met = λ m h. rw (e, f, eq-eqb d x g) (never_met m h) }

  pub lack_rest : barred ≡ false → shares_to s t d ≡ true → (d ≡ x → ⊥) → Checked s → t < count s → have < 256
      → Lacks s barred x have d t (without (required s t) have)
  unfolding signed
  lack_rest e f g ok l byte =
      record {
        met = λ m h. rw (e, f, ne_eqb d x g) (lack_met (signatures s) (required s t) have m ok.signatures_few (ok.entries t l).required_within byte h);
      }
