-- What P1 to P5 say of one number of blocks per day and one block of revoke, for all of them: lock heights and deadlines of the
-- SASwap sheet, over each transaction's block. The deadlines that P6 and P7 rest on stand here too.
-- Assumes nothing.
use Rattle.std.specs.Prelude.{ℕ, ◌+◌, ◌*◌, ◌≤◌, ◌<◌, ◌≡◌, refl, eqb}
use Rattle.std.proofs.Common.{arith, mul-le-mul_right, mul-lt-mul_of_pos_right, lt-ltb, le-ltb, ne_eqb}
use Rattle.std.proofs.Math.Nat.{min-eq_left, min-eq_right}
use Rattle.std.proofs.lemmas.Bool.{eqb-false}
use Rattle.laws.specs.Booleans.{split}
use Rattle.sheet.specs.Saswap.{offset, saswap_at, saswap}
use Rattle.sheet.specs.LockHeight.{lock_height, never}
use Rattle.sheet.proofs.Offset.{offset_small}
use Rattle.sheet.proofs.Theorems.{refund_lock_height, revoke_lock_height}
use Rattle.slots.specs.Deadline.{deadline}
use Rattle.steps.specs.Names.{success, refund1, revoke, refund2, timeout, spend_revoke}
use Rattle.position.proofs.Opened.{opened}

-- P1 to P3: "refund_1 and revoke lock heights", whatever is confirmed
unfoldable pub refund1_height : ℕ → ℕ
refund1_height d = (offset d + 1) * d

unfoldable pub revoke_height : ℕ → ℕ
revoke_height d = (offset d + 2) * d

pub refund1_lock : (d : ℕ) (block : ℕ → ℕ) → lock_height (saswap d) d block refund1 ≡ refund1_height d
unfolding refund1_height
refund1_lock = refund_lock_height

pub revoke_lock : (d : ℕ) (block : ℕ → ℕ) → lock_height (saswap d) d block revoke ≡ revoke_height d
unfolding revoke_height
revoke_lock = revoke_lock_height

-- success has no lock
pub success_lock : (d : ℕ) (block : ℕ → ℕ) → lock_height (saswap d) d block success ≡ 0
unfolding opened
success_lock d block = refl

pub heights_rise : (d : ℕ) → 0 < d → refund1_height d < revoke_height d
unfolding refund1_height revoke_height
heights_rise d h = mul-lt-mul_of_pos_right (omega arith) h

-- P4: "revoke in block 7: refund_2 lock 10, timeout 13", for every block of revoke
pub refund2_lock : (d : ℕ) (block : ℕ → ℕ) → 0 < block revoke → lock_height (saswap d) d block refund2 ≡ block revoke + d
unfolding opened
refund2_lock d block h = rw (ne_eqb (block 4) 0 (λ e. omega arith)) (omega arith)

pub timeout_lock : (d : ℕ) (block : ℕ → ℕ) → 0 < block revoke → lock_height (saswap d) d block timeout ≡ block revoke + 2 * d
unfolding opened
timeout_lock d block h = rw (ne_eqb (block 4) 0 (λ e. omega arith))

-- ".. refund_2 deadline 13, spend_revoke deadline 10", where these are no greater than "never"
pub refund2_deadline : (d : ℕ) (block : ℕ → ℕ) → 0 < d → 0 < block revoke → block revoke + 2 * d ≤ never
    → deadline (saswap d) d block refund2 ≡ block revoke + 2 * d
unfolding opened
refund2_deadline d block h c l =
    rw (
      ne_eqb (block 4) 0 (λ e. omega arith),
      lt-ltb (block 4 + 1 * d) (block 4 + 2 * d) (omega arith),
      le-ltb (block 4 + 1 * d) (block 4 + 1 * d) (omega arith),
      le-ltb (block 4 + 1 * d) 0 (omega arith),
    )
    (simp (min-eq_left, min-eq_right))

pub spend_revoke_deadline : (d : ℕ) (block : ℕ → ℕ) → 0 < block revoke → block revoke + d ≤ never
    → deadline (saswap d) d block spend_revoke ≡ block revoke + d
unfolding opened
spend_revoke_deadline d block c l =
    let a : block 4 + 1 * d ≤ block 4 + 2 * d = omega arith in
    let b : block 4 + 1 * d ≤ 2147483647 = omega arith in
    rw (
      ne_eqb (block 4) 0 (λ e. omega arith),
      lt-ltb 0 (block 4 + 1 * d) (omega arith),
      lt-ltb 0 (block 4 + 2 * d) (omega arith),
    )
    (simp (min-eq_left, min-eq_right) (omega arith))

-- P5: "revoke unconfirmed: spend_revoke deadline never"
pub spend_revoke_never : (d : ℕ) (block : ℕ → ℕ) → block revoke ≡ 0 → deadline (saswap d) d block spend_revoke ≡ never
unfolding opened
spend_revoke_never d block e = rw e

-- refund_2 has a lock height within the blocks only where revoke is confirmed
pub refund2_waits : (d m : ℕ) (block : ℕ → ℕ) → m < never → lock_height (saswap d) d block refund2 ≤ m → 0 < block revoke
unfolding opened
refund2_waits d m block h k =
    split (eqb (block 4) 0)
    (λ y. let z = rw y at k in absurd (omega arith))
    (λ y. let z = eqb-false (block 4) 0 y in omega arith)

-- the deadlines of success and refund_1, the sheet given by its offset
at_most : (o d k : ℕ) → o ≤ 2 → k ≤ 2 → d ≤ 1000 → (o + k) * d ≤ never
at_most o d k h l m = let a : (o + k) * d ≤ 4 * d = mul-le-mul_right d (omega arith) in omega arith

success_at : (o d : ℕ) (block : ℕ → ℕ) → o ≤ 2 → 0 < d → d ≤ 1000 → deadline (saswap_at o) d block success ≡ (o + 1) * d
unfolding opened
success_at o d block s h k =
    let a : (0 + 1) * d ≤ (o + 1) * d = mul-le-mul_right d (omega arith) in
    let b : (o + 1) * d ≤ (o + 2) * d = mul-le-mul_right d (omega arith) in
    let c = at_most o d 1 s (omega arith) k in
    rw (lt-ltb 0 ((o + 1) * d) (omega arith), lt-ltb 0 ((o + 2) * d) (omega arith)) (simp (min-eq_left, min-eq_right))

refund1_at : (o d : ℕ) (block : ℕ → ℕ) → o ≤ 2 → 0 < d → d ≤ 1000 → deadline (saswap_at o) d block refund1 ≡ (o + 2) * d
unfolding opened
refund1_at o d block s h k =
    let a : (o + 1) * d < (o + 2) * d = mul-lt-mul_of_pos_right (omega arith) h in
    let c = at_most o d 2 s (omega arith) k in
    rw
    (lt-ltb ((o + 1) * d) ((o + 2) * d) a, le-ltb ((o + 1) * d) ((o + 1) * d) (omega arith), le-ltb ((o + 1) * d) 0 (omega arith))
    (simp (min-eq_left, min-eq_right))

revoke_at : (o d : ℕ) (block : ℕ → ℕ) → deadline (saswap_at o) d block revoke ≡ never
unfolding opened
revoke_at o d block =
    let a : (o + 1) * d ≤ (o + 2) * d = mul-le-mul_right d (omega arith) in
    rw
    (le-ltb ((o + 2) * d) ((o + 1) * d) a, le-ltb ((o + 2) * d) ((o + 2) * d) (omega arith), le-ltb ((o + 2) * d) 0 (omega arith))

-- the deadline of success is refund_1's lock height, for "blocks per day (2 bytes, 1 to 1,000)"
pub success_deadline : (d : ℕ) (block : ℕ → ℕ) → 0 < d → d ≤ 1000 → deadline (saswap d) d block success ≡ refund1_height d
unfolding saswap refund1_height
success_deadline d block = success_at (offset d) d block (offset_small d)

-- that of refund_1 is revoke's
pub refund1_deadline : (d : ℕ) (block : ℕ → ℕ) → 0 < d → d ≤ 1000 → deadline (saswap d) d block refund1 ≡ revoke_height d
unfolding saswap revoke_height
refund1_deadline d block = refund1_at (offset d) d block (offset_small d)

-- revoke has none
pub revoke_deadline : (d : ℕ) (block : ℕ → ℕ) → deadline (saswap d) d block revoke ≡ never
unfolding saswap
revoke_deadline d block = revoke_at (offset d) d block
