-- Computed examples: Bitcoin's words on both sides, the SASwap sheet's numbers, the edges of 26 and 27, and the order of the refusals.
-- Assumes nothing.
use Rattle.laws.proofs.Prelude.{ℕ, ◌-◌, ◌^◌, ◌≡◌, refl, true, false, List, [], ◌∷◌, leb}
use Rattle.sheet.specs.Saswap.{saswap}
use Rattle.sheet.specs.LockHeight.{lock_height}
use Rattle.call_timelocks.specs.Bitcoin.{Block, final, is_final, relative, value, reached, admitted}
use Rattle.call_timelocks.specs.Fields.{n_lock_time, n_sequence}
use Rattle.call_timelocks.specs.Timelocks.{field_refusal, timelocks_answer}
use Rattle.call_timelocks.specs.Claim.{boxed, real, read}
use Rattle.call_timelocks.proofs.Opened.{opened}

-- FFFFFFFF and FFFFFFFE
final_value : (final ≡ 16 ^ 8 - 1) × (4294967294 ≡ 16 ^ 8 - 2)
final_value = (refl, refl)

-- "The transaction version must be 2": neither 1 nor 3; and the two numbers are the given ones, in this order
boxed_fields : ((boxed 5 7).version ≡ 2) × ((boxed 5 7).lock_time ≡ 5) × ((boxed 5 7).sequence ≡ 7)
boxed_fields = (refl, refl, refl)

-- a block at height 800,000, its median time past in 2023
block : Block
block = record { height = 800000; time = 1690000000 }

-- nLockTime: none; a height that is passed, and one that is not; a time that is passed, and one that is not; a final sequence
unlocked : is_final (boxed 0 0) block ≡ true
unfolding opened block
unlocked = refl

height_lock : (is_final (boxed 799999 0) block ≡ true) × (is_final (boxed 800000 0) block ≡ false)
unfolding opened block
height_lock = (refl, refl)

time_lock : (is_final (boxed 1689999999 0) block ≡ true) × (is_final (boxed 1690000000 0) block ≡ false)
unfolding opened block
time_lock = (refl, refl)

threshold_lock : (is_final (boxed 499999999 0) block ≡ false) × (is_final (boxed 500000000 0) block ≡ true)
unfolding opened block
threshold_lock = (refl, refl)

final_lock : (is_final (boxed 800000 4294967295) block ≡ true) × (is_final (boxed 800000 4294967294) block ≡ false)
unfolding opened block
final_lock = (refl, refl)

-- BIP 68: from version 2 on, and not with bit 31
version_lock : (relative (record { version = 2; lock_time = 0; sequence = 10 }) ≡ true) × (relative (record { version = 1; lock_time = 0; sequence = 10 }) ≡ false)
unfolding opened
version_lock = (refl, refl)

disabled_lock : (relative (boxed 0 2147483647) ≡ true) × (relative (boxed 0 2147483648) ≡ false)
unfolding opened
disabled_lock = (refl, refl)

-- the low 16 bits alone are read
value_lock : (value (boxed 0 65535) ≡ 65535) × (value (boxed 0 65536) ≡ 0) × (value (boxed 0 4194305) ≡ 1)
unfolding opened
value_lock = (refl, refl, refl)

-- a parent at height 799,990: a value of 10 blocks is reached at 800,000, one of 11 is not
blocks_lock : (reached (boxed 0 10) (record { height = 799990; time = 0 }) block ≡ true) × (reached (boxed 0 11) (record { height = 799990; time = 0 }) block ≡ false)
unfolding opened block
blocks_lock = (refl, refl)

-- with bit 22 the value counts 512 seconds
seconds_lock : (reached (boxed 0 4194305) (record { height = 800000; time = 1689999488 }) block ≡ true) × (reached (boxed 0 4194305) (record { height = 0; time = 1689999489 }) block ≡ false)
unfolding opened block
seconds_lock = (refl, refl)

-- both rules are asked
both_admit : (admitted (boxed 799999 10) (record { height = 799990; time = 0 }) block ≡ true)
    × (admitted (boxed 800000 10) (record { height = 799990; time = 0 }) block ≡ false)
    × (admitted (boxed 799999 11) (record { height = 799990; time = 0 }) block ≡ false)
unfolding opened block
both_admit = (refl, refl, refl)

-- the SASwap sheet at 144 blocks per day, from height 800,000 on: lock_A; refund_1 and revoke; refund_2, timeout
swap_fields : (n_lock_time (saswap 144) 144 800000 0 ≡ 0) × (n_sequence (saswap 144) 144 0 ≡ 4294967295)
    × (n_lock_time (saswap 144) 144 800000 3 ≡ 800144) × (n_sequence (saswap 144) 144 3 ≡ 4294967294)
    × (n_lock_time (saswap 144) 144 800000 4 ≡ 800288)
    × (n_lock_time (saswap 144) 144 800000 5 ≡ 0) × (n_sequence (saswap 144) 144 5 ≡ 145) × (n_sequence (saswap 144) 144 6 ≡ 289)
unfolding opened
swap_fields = (refl, refl, refl, refl, refl, refl, refl, refl)

-- an opening and a child with a lock of this type and of these days
unfoldable pub pair : ℕ → ℕ → List ℕ
pair type days = 2 ∷ 2 ∷ 0 ∷ 1 ∷ 2 ∷ 255 ∷ 0 ∷ 1 ∷ 0 ∷ 0 ∷ 2 ∷ 2 ∷ 0 ∷ 0 ∷ 0 ∷ type ∷ days ∷ []

-- the bytes of a whole call, with one byte to spare, and read back
call_writes : timelocks_answer (pair 2 1) (144 ∷ 0 ∷ 0 ∷ 0 ∷ []) 800000 (7 ∷ 7 ∷ 7 ∷ 7 ∷ 7 ∷ 7 ∷ 7 ∷ 7 ∷ 7 ∷ 7 ∷ 7 ∷ 7 ∷ 7 ∷ 7 ∷ 7 ∷ 7 ∷ 7 ∷ [])
    ≡ record { refusal = 0; buffer = 0 ∷ 0 ∷ 0 ∷ 0 ∷ 255 ∷ 255 ∷ 255 ∷ 255 ∷ 0 ∷ 0 ∷ 0 ∷ 0 ∷ 145 ∷ 0 ∷ 0 ∷ 0 ∷ 7 ∷ [] }
unfolding opened pair
call_writes = refl

call_read : read (0 ∷ 0 ∷ 0 ∷ 0 ∷ 255 ∷ 255 ∷ 255 ∷ 255 ∷ 0 ∷ 53 ∷ 12 ∷ 0 ∷ 254 ∷ 255 ∷ 255 ∷ 255 ∷ []) 1 ≡ boxed 800000 4294967294
unfolding opened
call_read = refl

-- 26: a value of 65,535 passes (217 days of 302 blocks, and one), 65,536 does not (255 days of 257)
relative_edge : (field_refusal (pair 2 217) (46 ∷ 1 ∷ 0 ∷ 0 ∷ []) 0 ≡ 0) × (n_sequence (pair 2 217) 302 1 ≡ 65535)
    × (field_refusal (pair 2 255) (1 ∷ 1 ∷ 0 ∷ 0 ∷ []) 0 ≡ 26) × (n_sequence (pair 2 255) 257 1 ≡ 65536)
unfolding opened pair
relative_edge = (refl, refl, refl, refl)

-- 27: a height of 499,999,999 passes, 500,000,000 does not, nor does the largest base; without an absolute lock every base passes
absolute_edge : (field_refusal (pair 1 1) (1 ∷ 0 ∷ 0 ∷ 0 ∷ []) 499999998 ≡ 0) × (field_refusal (pair 1 1) (1 ∷ 0 ∷ 0 ∷ 0 ∷ []) 499999999 ≡ 27)
    × (field_refusal (pair 1 1) (1 ∷ 0 ∷ 0 ∷ 0 ∷ []) 4294967295 ≡ 27) × (field_refusal (pair 2 1) (1 ∷ 0 ∷ 0 ∷ 0 ∷ []) 4294967295 ≡ 0)
unfolding opened pair
absolute_edge = (refl, refl, refl, refl)

-- an opening with an absolute lock before one without, and a child since its parent
three : ℕ → List ℕ
three days = 3 ∷ 2 ∷ 0 ∷ 1 ∷ 2 ∷ 255 ∷ 1 ∷ 1 ∷ 0 ∷ 255 ∷ 0 ∷ 1 ∷ 0 ∷ 1 ∷ 2 ∷ 2 ∷ 0 ∷ 1 ∷ 1 ∷ 0 ∷ 0 ∷ 2 ∷ days ∷ []

-- the order: 10; 26 for all before 27 for any; 27; 25 last
order : ((timelocks_answer (three 255) (1 ∷ 1 ∷ 3 ∷ 0 ∷ []) 500000000 []).refusal ≡ 10)
    × ((timelocks_answer (three 255) (1 ∷ 1 ∷ 0 ∷ 0 ∷ []) 500000000 []).refusal ≡ 26)
    × ((timelocks_answer (three 254) (1 ∷ 1 ∷ 0 ∷ 0 ∷ []) 500000000 []).refusal ≡ 27)
    × ((timelocks_answer (three 254) (1 ∷ 1 ∷ 0 ∷ 0 ∷ []) 0 []).refusal ≡ 25)
unfolding opened three
order = (refl, refl, refl, refl)

-- version 1 is not enough: the child of a parent in block 1 would be admitted there, a day before its lock
version_needed : (admitted (record { version = 1; lock_time = 0; sequence = n_sequence (pair 2 1) 144 1 }) (real 800000 1 0) (real 800000 1 0) ≡ true)
    × (leb (lock_height (pair 2 1) 144 (λ k. 1) 1) (1 - 1) ≡ false)
unfolding opened pair
version_needed = (refl, refl)
