-- Document 01's known positions P1 to P10 and its desk errors, and positions that tell document 02's rules from the older ones, as one table
-- whose every row holds.
-- Assumes nothing.
use Rattle.std.specs.Prelude.{ℕ, ◌≡◌, refl, true, List, [], ◌∷◌, ◌++◌}
use Rattle.sheet.specs.LockHeight.{never}
use Rattle.slots.specs.Destination.{alice, contract}
use Rattle.steps.specs.Names.{lock_a, success, refund1, revoke, refund2, timeout, spend_b, spend_revoke}
use Rattle.position.proofs.Opened.{opened}
use Rattle.claim_known.specs.Case.{Case, lock_is, deadline_is, sheet_length, statuses_zero, send_gets, unsigned_gets, shared_is, status_is, step_gets, opens, prints, revoked_in, swap_sheet, passes, send_place, gets_there, same_lines, holds}

-- "3 a day, open, stealth 1"
abbrev pub setup3 : List ℕ
setup3 = 3 ∷ 0 ∷ 0 ∷ 1 ∷ []

-- mine the block being filled
abbrev pub mine : List ℕ
mine = 6 ∷ 2 ∷ 255 ∷ 2 ∷ []

-- lock_A sent, included, mined: one block
abbrev locked_a : List ℕ
locked_a = 3 ∷ 0 ∷ 0 ∷ 2 ∷ 5 ∷ 2 ∷ 0 ∷ 2 ∷ mine

-- lock_B alike
abbrev locked_b : List ℕ
locked_b = 3 ∷ 1 ∷ 1 ∷ 2 ∷ 5 ∷ 2 ∷ 1 ∷ 2 ∷ mine

-- Alice shares success; Bob can sign it then
abbrev pub success_at2 : List ℕ
success_at2 = locked_a ++ (1 ∷ 0 ∷ 2 ∷ 2 ∷ mine)

-- Alice shares revoke; Bob can sign it then
abbrev pub revoke_at5 : List ℕ
revoke_at5 = locked_a ++ (1 ∷ 0 ∷ 4 ∷ 2 ∷ mine) ++ mine ++ mine ++ mine

-- nothing is shared; Bob cannot sign revoke
abbrev pub unshared_at5 : List ℕ
unshared_at5 = locked_a ++ mine ++ mine ++ mine ++ mine

-- Bob shares refund_1; Alice can sign it then
abbrev refund_at3 : List ℕ
refund_at3 = locked_a ++ (1 ∷ 1 ∷ 3 ∷ 2 ∷ mine) ++ mine

-- lock_B confirmed; Bob gives secret_bob, and Alice sends spend_B to the pool
abbrev spent_b : List ℕ
spent_b = locked_b ++ (2 ∷ 1 ∷ 3 ∷ 0 ∷ 3 ∷ 0 ∷ 8 ∷ 0 ∷ [])

-- at 2 blocks, filled by lock_B and spend_B, lock_A and its child success wait in the pool
abbrev waiting_at2 : List ℕ
waiting_at2 = spent_b ++ (5 ∷ 2 ∷ 8 ∷ 2 ∷ mine) ++ (1 ∷ 0 ∷ 2 ∷ 2 ∷ 3 ∷ 0 ∷ 0 ∷ 2 ∷ 3 ∷ 1 ∷ 2 ∷ 2 ∷ [])

-- "3 a day", careful, stealth 0
abbrev pub careful30 : List ℕ
careful30 = 3 ∷ 0 ∷ 2 ∷ 0 ∷ []

-- both first shares, and lock_A confirmed; Bob doesn't lock
abbrev locked_alone : List ℕ
locked_alone = 1 ∷ 0 ∷ 255 ∷ 2 ∷ 1 ∷ 1 ∷ 255 ∷ 2 ∷ locked_a

-- lock_A and success mined in blocks 1 and 2: the other rivals of success are dead
abbrev succeeded : List ℕ
succeeded = locked_a ++ (1 ∷ 0 ∷ 2 ∷ 2 ∷ 3 ∷ 1 ∷ 2 ∷ 2 ∷ 5 ∷ 2 ∷ 2 ∷ 2 ∷ mine)

-- "3 a day", careful, stealth 1
abbrev careful3 : List ℕ
careful3 = 3 ∷ 0 ∷ 2 ∷ 1 ∷ []

-- first shares, lock_A and lock_B in blocks 1 and 2; Alice shares success, and Bob gives secret_bob
abbrev careful_at2 : List ℕ
careful_at2 = locked_alone ++ locked_b ++ (1 ∷ 0 ∷ 2 ∷ 2 ∷ 2 ∷ 1 ∷ 3 ∷ 0 ∷ [])

-- P10's sheet and setup
abbrev sheet10 : List ℕ
sheet10 = 2 ∷ 2 ∷ 0 ∷ 1 ∷ 2 ∷ 255 ∷ 0 ∷ 1 ∷ 0 ∷ 0 ∷ 2 ∷ 2 ∷ 0 ∷ 0 ∷ 0 ∷ 1 ∷ 1 ∷ []

abbrev setup10 : List ℕ
setup10 = 1 ∷ 0 ∷ 0 ∷ 0 ∷ []

-- a chain of three, the last with a rival whose lock is 1 day
abbrev chain_sheet : List ℕ
chain_sheet =
    4 ∷ 1 ∷ 0 ∷ 1 ∷ 1
    ∷ 255 ∷ 0 ∷ 1 ∷ 0
    ∷ 0 ∷ 0 ∷ 1 ∷ 0
    ∷ 1 ∷ 1 ∷ 1 ∷ 0
    ∷ 1 ∷ 2 ∷ 1 ∷ 0
    ∷ 0 ∷ 0 ∷ 0 ∷ 0 ∷ 0 ∷ 0 ∷ 1 ∷ 1
    ∷ []

-- all three sent at 1 block a day; the last is bumped
abbrev chain_bumped : List ℕ
chain_bumped = 3 ∷ 0 ∷ 0 ∷ 2 ∷ 3 ∷ 0 ∷ 1 ∷ 2 ∷ 3 ∷ 0 ∷ 2 ∷ 0 ∷ 7 ∷ 2 ∷ 2 ∷ 2 ∷ []

-- an opening and three rivals below it: one pays, one has a child, one has a lock of 1 day
abbrev rival_sheet : List ℕ
rival_sheet =
    5 ∷ 1 ∷ 0 ∷ 1 ∷ 1
    ∷ 255 ∷ 0 ∷ 1 ∷ 0
    ∷ 0 ∷ 1 ∷ 1 ∷ 0
    ∷ 0 ∷ 0 ∷ 1 ∷ 0
    ∷ 0 ∷ 2 ∷ 1 ∷ 0
    ∷ 2 ∷ 1 ∷ 1 ∷ 0
    ∷ 0 ∷ 0 ∷ 0 ∷ 0 ∷ 0 ∷ 0 ∷ 1 ∷ 1 ∷ 0 ∷ 0
    ∷ []

-- the opening, the second rival and its child are handed in; the opening and the first rival are sent, and this one is bumped
abbrev rival_bumped : List ℕ
rival_bumped =
    4 ∷ 0 ∷ 0 ∷ 2 ∷ 4 ∷ 0 ∷ 2 ∷ 2 ∷ 4 ∷ 0 ∷ 4 ∷ 0
    ∷ 3 ∷ 0 ∷ 0 ∷ 2 ∷ 3 ∷ 0 ∷ 1 ∷ 0
    ∷ 7 ∷ 2 ∷ 1 ∷ 2
    ∷ []

-- the opening is confirmed; the second rival and its child wait while the first rival is mined
abbrev rival_mined : List ℕ
rival_mined = locked_a ++ (3 ∷ 0 ∷ 2 ∷ 2 ∷ 3 ∷ 0 ∷ 4 ∷ 0 ∷ 4 ∷ 0 ∷ 1 ∷ 0 ∷ mine)

-- an opening and two rivals below it, the second locked for a day since the opening
abbrev heir_sheet : List ℕ
heir_sheet =
    3 ∷ 1 ∷ 0 ∷ 1 ∷ 1
    ∷ 255 ∷ 0 ∷ 1 ∷ 0
    ∷ 0 ∷ 1 ∷ 1 ∷ 0
    ∷ 0 ∷ 2 ∷ 1 ∷ 0
    ∷ 0 ∷ 0 ∷ 0 ∷ 0 ∷ 2 ∷ 1
    ∷ []

-- the opening and the first rival are sent, and the opening is mined
abbrev heir_waits : List ℕ
heir_waits = 3 ∷ 0 ∷ 0 ∷ 2 ∷ 3 ∷ 0 ∷ 1 ∷ 0 ∷ 5 ∷ 2 ∷ 0 ∷ 2 ∷ mine

-- a row, and that it holds
pub record Row : Type 0 where
  pub case : Case
  pub right : holds case ≡ true

abbrev row : (c : Case) → holds c ≡ true → Row
row c h = record { case = c; right = h }

-- the table; an error of the check stands at the row that fails
unfoldable pub rows : List Row
unfolding opened revoked_in swap_sheet passes send_place gets_there same_lines holds
rows =
    -- P1 to P3, refund_1 and revoke lock heights: "3 a day, 3 and 6; 1 a day, 3 and 4; 2 a day, 4 and 6"
    row (lock_is 3 0 refund1 3) refl
    ∷ row (lock_is 3 0 revoke 6) refl
    ∷ row (lock_is 1 0 refund1 3) refl
    ∷ row (lock_is 1 0 revoke 4) refl
    ∷ row (lock_is 2 0 refund1 4) refl
    ∷ row (lock_is 2 0 revoke 6) refl
    -- P4: "3 a day, revoke in block 7: refund_2 lock 10, timeout 13, refund_2 deadline 13, spend_revoke deadline 10"
    ∷ row (lock_is 3 7 refund2 10) refl
    ∷ row (lock_is 3 7 timeout 13) refl
    ∷ row (deadline_is 3 7 refund2 13) refl
    ∷ row (deadline_is 3 7 spend_revoke 10) refl
    -- P5: "revoke unconfirmed: spend_revoke deadline never"
    ∷ row (deadline_is 3 0 spend_revoke never) refl
    -- P6: "success to pool passes at 2 blocks, 18 at 3, to the miner passes at 3"
    ∷ row (send_gets setup3 success_at2 2 (3 ∷ 1 ∷ 2 ∷ 2 ∷ []) 0) refl
    ∷ row (send_gets setup3 (success_at2 ++ mine) 3 (3 ∷ 1 ∷ 2 ∷ 2 ∷ []) 18) refl
    ∷ row (send_gets setup3 (success_at2 ++ mine) 3 (4 ∷ 1 ∷ 2 ∷ 2 ∷ []) 0) refl
    -- P7: "revoke gets 17 at 5 blocks, passes at 6"
    ∷ row (send_gets setup3 revoke_at5 5 (3 ∷ 1 ∷ 4 ∷ 2 ∷ []) 17) refl
    ∷ row (send_gets setup3 (revoke_at5 ++ mine) 6 (3 ∷ 1 ∷ 4 ∷ 2 ∷ []) 0) refl
    -- P8: "an empty journal leaves all statuses 0"
    ∷ row (statuses_zero setup3 []) refl
    -- P9: "the SASwap sheet is 95 bytes"
    ∷ row (sheet_length 3 95) refl
    -- P10
    ∷ row (prints
    sheet10
    setup10
    (3 ∷ 0 ∷ 0 ∷ 2 ∷ 5 ∷ 2 ∷ 0 ∷ 2 ∷ 6 ∷ 2 ∷ 255 ∷ 2 ∷ 3 ∷ 1 ∷ 1 ∷ 1 ∷ 5 ∷ 2 ∷ 1 ∷ 2 ∷ 6 ∷ 2 ∷ 255 ∷ 2 ∷ [])
    ((6 ∷ 0 ∷ 2 ∷ []) ∷ (0 ∷ 4 ∷ 2 ∷ 1 ∷ 0 ∷ 2147483647 ∷ []) ∷ (1 ∷ 4 ∷ 1 ∷ 2 ∷ 1 ∷ 2147483647 ∷ []) ∷ [])) refl
    -- desk error "A lock reached at its height minus one": refund_1's is 3
    ∷ row (send_gets setup3 (locked_a ++ (1 ∷ 1 ∷ 3 ∷ 2 ∷ mine)) 2 (3 ∷ 0 ∷ 3 ∷ 2 ∷ []) 17) refl
    ∷ row (send_gets setup3 refund_at3 3 (3 ∷ 0 ∷ 3 ∷ 2 ∷ []) 0) refl
    -- "deadline taken from the own lock": refund_1's own is 3
    ∷ row (deadline_is 3 0 refund1 6) refl
    ∷ row (deadline_is 3 0 success 3) refl
    -- "a secret shared by a hand-in before its block"
    ∷ row (shared_is setup3 (refund_at3 ++ (4 ∷ 0 ∷ 3 ∷ 2 ∷ [])) refund1 contract 2) refl
    ∷ row (shared_is setup3 (refund_at3 ++ (4 ∷ 0 ∷ 3 ∷ 2 ∷ mine)) refund1 contract 7) refl
    -- "spend_B exposing secrets": by a send or by its block
    ∷ row (shared_is setup3 spent_b spend_b alice 0) refl
    ∷ row (shared_is setup3 (spent_b ++ (5 ∷ 2 ∷ 8 ∷ 2 ∷ mine)) spend_b alice 0) refl
    -- "a bump that leaves the block without a parent": the bumped one's waiting ancestors enter too
    ∷ row (status_is (swap_sheet setup3) setup3 (waiting_at2 ++ (7 ∷ 2 ∷ 2 ∷ 2 ∷ [])) success 3) refl
    ∷ row (status_is (swap_sheet setup3) setup3 (waiting_at2 ++ (7 ∷ 2 ∷ 2 ∷ 2 ∷ [])) lock_a 3) refl
    ∷ row (status_is chain_sheet (1 ∷ 0 ∷ 0 ∷ 0 ∷ []) chain_bumped 2 3) refl
    ∷ row (status_is chain_sheet (1 ∷ 0 ∷ 0 ∷ 0 ∷ []) chain_bumped 1 3) refl
    ∷ row (status_is chain_sheet (1 ∷ 0 ∷ 0 ∷ 0 ∷ []) chain_bumped 0 3) refl
    -- the same: with a block entry its children leave
    ∷ row (status_is rival_sheet (1 ∷ 0 ∷ 0 ∷ 1 ∷ []) rival_bumped 0 3) refl
    ∷ row (status_is rival_sheet (1 ∷ 0 ∷ 0 ∷ 1 ∷ []) rival_bumped 1 3) refl
    ∷ row (status_is rival_sheet (1 ∷ 0 ∷ 0 ∷ 1 ∷ []) rival_bumped 2 0) refl
    ∷ row (status_is rival_sheet (1 ∷ 0 ∷ 0 ∷ 1 ∷ []) rival_bumped 4 0) refl
    -- "status (1 pool, 2 block, 4 confirmed, 8 dead, summed)": each alone; dead by a rival of its own and by one of its line
    ∷ row (status_is (swap_sheet careful3) careful3 (careful_at2 ++ (3 ∷ 1 ∷ 2 ∷ 2 ∷ [])) success 1) refl
    ∷ row (status_is (swap_sheet setup3) setup3 (refund_at3 ++ (4 ∷ 0 ∷ 3 ∷ 2 ∷ [])) refund1 2) refl
    ∷ row (status_is (swap_sheet setup3) setup3 succeeded success 4) refl
    ∷ row (status_is (swap_sheet setup3) setup3 succeeded refund1 8) refl
    ∷ row (status_is (swap_sheet setup3) setup3 succeeded refund2 8) refl
    -- the list: "Alice's steps first, then Bob's .., then the miner's, each by kind, transaction, destination"; every kind is there
    ∷ row (opens (swap_sheet careful3) careful3 [] (1 ∷ 0 ∷ 255 ∷ 2 ∷ 1 ∷ 1 ∷ 255 ∷ 2 ∷ [])) refl
    ∷ row (opens (swap_sheet careful3) careful3 careful_at2
    (2 ∷ 0 ∷ 0 ∷ 1 ∷ 3 ∷ 0 ∷ 8 ∷ 0 ∷ 4 ∷ 0 ∷ 8 ∷ 0 ∷ 3 ∷ 1 ∷ 2 ∷ 2 ∷ 4 ∷ 1 ∷ 2 ∷ 2 ∷ mine)) refl
    ∷ row (opens (swap_sheet careful3) careful3 (careful_at2 ++ (3 ∷ 1 ∷ 2 ∷ 2 ∷ []))
    (2 ∷ 0 ∷ 0 ∷ 1 ∷ 3 ∷ 0 ∷ 8 ∷ 0 ∷ 4 ∷ 0 ∷ 8 ∷ 0 ∷ 3 ∷ 1 ∷ 9 ∷ 1 ∷ 7 ∷ 2 ∷ 2 ∷ 2 ∷ [])) refl
    ∷ row (opens sheet10 setup10 (3 ∷ 0 ∷ 0 ∷ 2 ∷ [])
    (1 ∷ 0 ∷ 0 ∷ 2 ∷ 2 ∷ 0 ∷ 0 ∷ 1 ∷ 1 ∷ 1 ∷ 1 ∷ 1 ∷ 2 ∷ 1 ∷ 1 ∷ 0 ∷ 5 ∷ 2 ∷ 0 ∷ 2 ∷ [])) refl
    -- Slip 1: a child that waits while its parent is mined stays in the pool, and at 1 block a day its bump is owed in the very next block
    ∷ row (status_is heir_sheet (1 ∷ 0 ∷ 0 ∷ 0 ∷ []) heir_waits 0 4) refl
    ∷ row (status_is heir_sheet (1 ∷ 0 ∷ 0 ∷ 0 ∷ []) heir_waits 1 1) refl
    ∷ row (step_gets heir_sheet (1 ∷ 0 ∷ 0 ∷ 0 ∷ []) heir_waits mine 20) refl
    ∷ row (step_gets heir_sheet (1 ∷ 0 ∷ 0 ∷ 0 ∷ []) heir_waits (7 ∷ 2 ∷ 1 ∷ 2 ∷ []) 0) refl
    ∷ row (status_is heir_sheet (1 ∷ 0 ∷ 0 ∷ 0 ∷ []) (heir_waits ++ (7 ∷ 2 ∷ 1 ∷ 2 ∷ mine)) 1 4) refl
    -- the same: who meets a different rival of a mined one leaves, and its child with it
    ∷ row (status_is rival_sheet (3 ∷ 0 ∷ 0 ∷ 1 ∷ []) rival_mined 2 8) refl
    ∷ row (status_is rival_sheet (3 ∷ 0 ∷ 0 ∷ 1 ∷ []) rival_mined 4 8) refl
    -- Slip 3: "kinds 3 and 4 that met both 16 and 17 got 16 and now get 17", at 5 blocks; at 6 only 16 is met
    ∷ row (unsigned_gets setup3 unshared_at5 5 (3 ∷ 1 ∷ 4 ∷ 2 ∷ []) 17) refl
    ∷ row (unsigned_gets setup3 unshared_at5 5 (4 ∷ 1 ∷ 4 ∷ 2 ∷ []) 17) refl
    ∷ row (unsigned_gets setup3 (unshared_at5 ++ mine) 6 (3 ∷ 1 ∷ 4 ∷ 2 ∷ []) 16) refl
    ∷ row (unsigned_gets setup3 (unshared_at5 ++ mine) 6 (4 ∷ 1 ∷ 4 ∷ 2 ∷ []) 16) refl
    -- the same: 18 stays behind 16, for success at 3 blocks
    ∷ row (unsigned_gets setup3 (locked_a ++ mine ++ mine) 3 (3 ∷ 1 ∷ 2 ∷ 2 ∷ []) 16) refl
    -- Slip 6, "In phase 2 Alice may now send": refund_1 and revoke from their lock heights on
    ∷ row (send_gets careful30 (locked_alone ++ mine) 2 (3 ∷ 0 ∷ 3 ∷ 2 ∷ []) 17) refl
    ∷ row (send_gets careful30 (locked_alone ++ mine ++ mine) 3 (3 ∷ 0 ∷ 3 ∷ 2 ∷ []) 0) refl
    ∷ row (send_gets careful30 (locked_alone ++ mine ++ mine ++ mine ++ mine ++ mine) 6 (3 ∷ 0 ∷ 4 ∷ 2 ∷ []) 0) refl
    ∷ []
