-- The SASwap sheet of document 01's table, for a number of blocks per day.
-- Assumes nothing.
use Rattle.std.specs.Prelude.{ℕ, ◌+◌, ◌-◌, List, [], ◌∷◌, ◌++◌, eqb}
use Rattle.laws.specs.Booleans.{pick}

-- Document 02, Slip 5: "the offset for 1 to 1,000 blocks per day becomes: 1 gives 2, 2 gives 1, anything else 0"
unfoldable pub offset : ℕ → ℕ
offset per_day = pick (eqb per_day 1) 2 (pick (eqb per_day 2) 1 0)

-- document 01's words, which `offset-difference` in proofs/Theorems.antt cites: "Offset is 3 less the blocks per day, never below zero."
unfoldable pub offset_by_difference : ℕ → ℕ
offset_by_difference per_day = 3 - per_day

-- n and s; "secrets 12; Alice holds 5, Bob 10"
abbrev saswap_head : List ℕ
saswap_head = 15 ∷ 4 ∷ 12 ∷ 5 ∷ 10 ∷ []

-- columns parent, payees, needs, and the veil
abbrev saswap_entries : List ℕ
saswap_entries =
    -- 0 lock_A
    255 ∷ 0 ∷ 1 ∷ 0
    -- 1 lock_B
    ∷ 255 ∷ 0 ∷ 2 ∷ 0
    -- 2 success
    ∷ 0 ∷ 0 ∷ 11 ∷ 0
    -- 3 refund_1
    ∷ 0 ∷ 0 ∷ 7 ∷ 0
    -- 4 revoke
    ∷ 0 ∷ 0 ∷ 3 ∷ 0
    -- 5 refund_2
    ∷ 4 ∷ 0 ∷ 7 ∷ 0
    -- 6 timeout
    ∷ 4 ∷ 0 ∷ 3 ∷ 0
    -- 7 spend_A
    ∷ 0 ∷ 3 ∷ 3 ∷ 0
    -- 8 spend_B (veil 1)
    ∷ 1 ∷ 3 ∷ 12 ∷ 1
    -- 9 spend_success
    ∷ 2 ∷ 2 ∷ 2 ∷ 0
    -- 10 spend_refund_1_bob
    ∷ 3 ∷ 2 ∷ 3 ∷ 0
    -- 11 spend_refund_1_alice
    ∷ 3 ∷ 1 ∷ 1 ∷ 0
    -- 12 spend_revoke
    ∷ 4 ∷ 3 ∷ 3 ∷ 0
    -- 13 spend_refund_2
    ∷ 5 ∷ 1 ∷ 1 ∷ 0
    -- 14 spend_timeout
    ∷ 6 ∷ 2 ∷ 2 ∷ 0
    ∷ []

-- column lock: type and days
abbrev saswap_locks : ℕ → List ℕ
saswap_locks offset =
    -- 0 lock_A, 1 lock_B, 2 success
    0 ∷ 0 ∷ 0 ∷ 0 ∷ 0 ∷ 0
    -- 3 refund_1: absolute, offset + 1
    ∷ 1 ∷ (offset + 1)
    -- 4 revoke: absolute, offset + 2
    ∷ 1 ∷ (offset + 2)
    -- 5 refund_2: parent, 1
    ∷ 2 ∷ 1
    -- 6 timeout: parent, 2
    ∷ 2 ∷ 2
    -- 7 spend_A, 8 spend_B, 9 spend_success, 10 spend_refund_1_bob
    ∷ 0 ∷ 0 ∷ 0 ∷ 0 ∷ 0 ∷ 0 ∷ 0 ∷ 0
    -- 11 spend_refund_1_alice: parent, 1
    ∷ 2 ∷ 1
    -- 12 spend_revoke, 13 spend_refund_2, 14 spend_timeout
    ∷ 0 ∷ 0 ∷ 0 ∷ 0 ∷ 0 ∷ 0
    ∷ []

-- the table with an offset
unfoldable pub saswap_at : ℕ → List ℕ
saswap_at offset = saswap_head ++ saswap_entries ++ saswap_locks offset

-- "the SASwap sheet for that number of blocks"
unfoldable pub saswap : ℕ → List ℕ
saswap per_day = saswap_at (offset per_day)
