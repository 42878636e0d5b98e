-- The zeros at the low end of a mask.
-- Assumes nothing.
use Rattle.laws.proofs.Prelude.{ℕ, zero, suc, ◌/◌, ◌%◌, ◌<◌, ◌≡◌, refl, ◌∙◌, true, false, eq-eqb, arith, not-suc-le-zero}
use Rattle.laws.proofs.Prelude.{le_of_suc-le-suc, bit}
use lib.Count.{under, count_trailing_zeros}
use Rattle.laws.specs.Bits.{bit_half}
use Rattle.laws.specs.Sets.{bit_first}

-- no bit is set below the zeros' number, and the bit there is, unless all are zeros
below_digit : (d m r : ℕ) → m % 2 ≡ d → ((i : ℕ) → i < r → bit (m / 2) i ≡ false) → (i : ℕ) → i < under d r → bit m i ≡ false
below_digit zero m r e h zero l = bit_first m ∙ rw e
below_digit zero m r e h (suc i) l = bit_half m i ∙ h i (le_of_suc-le-suc l)
below_digit (suc d) m r e h i l = absurd (not-suc-le-zero l)

pub below_trailing : (k m i : ℕ) → i < count_trailing_zeros k m → bit m i ≡ false
unfolding count_trailing_zeros
below_trailing zero m i l = absurd (not-suc-le-zero l)
below_trailing (suc k) m i l = below_digit (m % 2) m (count_trailing_zeros k (m / 2)) refl (below_trailing k (m / 2)) i l

at_digit : (d k m r : ℕ) → m % 2 ≡ d → (r < k → bit (m / 2) r ≡ true) → under d r < suc k → bit m (under d r) ≡ true
at_digit zero k m r e h l = bit_half m r ∙ h (le_of_suc-le-suc l)
at_digit (suc d) k m r e h l = bit_first m ∙ eq-eqb (m % 2) 1 (omega (arith, e))

pub at_trailing : (k m : ℕ) → count_trailing_zeros k m < k → bit m (count_trailing_zeros k m) ≡ true
unfolding count_trailing_zeros
at_trailing zero m l = absurd (not-suc-le-zero l)
at_trailing (suc k) m l = at_digit (m % 2) k m (count_trailing_zeros k (m / 2)) refl (at_trailing k (m / 2)) l
