-- The empty mask: nothing is planned, nothing is refused.
-- Assumes nothing.
use Rattle.laws.proofs.Prelude.{ℕ, zero, suc, ◌+◌, ◌^◌, ◌<◌, ◌≡◌, refl, true, false, ◌&&◌, List, [], lt-ltb, clash, any_all_false, all_from, no_bit, gather, gather_empty}
use Rattle.laws.proofs.Prelude.{bit, sum_below, bits_below}
use Rattle.position.proofs.Rules.{count, is_self_or_ancestor, block_limit}
use lib.Pow.{pow_pos}
use Rattle.endings.specs.Plan.{planned, plan_at, plan}
use Rattle.endings.specs.Ending.{paying_named, ending_right, is_possible}
use Rattle.claim_earliest.proofs.Ending.{says_possible}

none_planned : (s : List ℕ) (t : ℕ) → planned s 0 t ≡ false
unfolding planned
none_planned s t = any_all_false (count s) (λ x. bit 0 x && is_self_or_ancestor s t x) (λ x h. rw (no_bit x))

pub empty_plan : (s : List ℕ) (per_day : ℕ) (to : ℕ → ℕ) → plan s per_day 0 to block_limit ≡ []
unfolding plan plan_at
empty_plan s per_day to =
    gather_empty (λ b. gather (count s) (plan_at s per_day 0 to b)) (block_limit + 1)
    (λ b. gather_empty (plan_at s per_day 0 to b) (count s) (λ t. rw (none_planned s t)))

no_bits : (n : ℕ) → bits_below n 0 ≡ 0
unfolding bits_below sum_below
no_bits zero = refl
no_bits (suc n) = rw (no_bits n, no_bit n)

power_some : (n : ℕ) → 0 < 2 ^ n
power_some n = pow_pos n

pub empty_right : (s : List ℕ) → ending_right s 0 [] ≡ true
unfolding ending_right paying_named
empty_right s =
    rw (lt-ltb 0 (2 ^ count s) (power_some (count s)), no_bits (count s))
    (all_from (count s) (paying_named s 0 []) (λ t h. rw (no_bit t)))

pub empty_possible : (s : List ℕ) (per_day : ℕ) → is_possible s per_day 0 ≡ true
empty_possible s per_day =
    says_possible s per_day 0
    (record {
      apart = λ x y lx ly bx by e. clash bx (no_bit x);
      within = λ t l p. clash p (none_planned s t);
    })
