-- Document 02, Slip 10 on a small ring, computed: its list, a gift to either other party, a payout to Carol; its checks; party and destination 3 on a
-- sheet of two.
-- Assumes nothing.
use Rattle.laws.proofs.Prelude.{ℕ, ◌≡◌, refl, List, [], ◌∷◌, ◌++◌}
use Rattle.position.proofs.Rules.{sheet_refusal, setup_refusal, carol, start, run, step, list_bytes, holder_in}
use Rattle.position.proofs.Opened.{opened}

-- two transactions, three signatures, one held by each party: Alice opens the coin, and it pays Carol
abbrev body : List ℕ
body = 255 ∷ 0 ∷ 1 ∷ 0 ∷ 0 ∷ 4 ∷ 4 ∷ 0 ∷ 0 ∷ 0 ∷ 0 ∷ 0 ∷ []

abbrev ring : List ℕ
ring = 130 ∷ 3 ∷ 0 ∷ 1 ∷ 2 ∷ 4 ∷ body

-- the same transactions for two, paying Bob
abbrev pair : List ℕ
pair = 2 ∷ 3 ∷ 0 ∷ 1 ∷ 6 ∷ 255 ∷ 0 ∷ 1 ∷ 0 ∷ 0 ∷ 2 ∷ 4 ∷ 0 ∷ 0 ∷ 0 ∷ 0 ∷ 0 ∷ []

-- 3 blocks per day, open, stealth 0
abbrev open3 : List ℕ
open3 = 3 ∷ 0 ∷ 0 ∷ 0 ∷ []

-- "In the open list Carol stands after Bob and before the miner": once Alice has sent the opening
listed : list_bytes ring open3 (run ring open3 (3 ∷ 0 ∷ 0 ∷ 2 ∷ [])).position
    ≡ 1 ∷ 0 ∷ 0 ∷ 2 ∷ 2 ∷ 0 ∷ 0 ∷ 1 ∷ 2 ∷ 0 ∷ 0 ∷ 3
    ∷ 2 ∷ 1 ∷ 1 ∷ 0 ∷ 2 ∷ 1 ∷ 1 ∷ 3
    ∷ 1 ∷ 3 ∷ 1 ∷ 3 ∷ 2 ∷ 3 ∷ 2 ∷ 0 ∷ 2 ∷ 3 ∷ 2 ∷ 1 ∷ 3 ∷ 3 ∷ 1 ∷ 3
    ∷ 5 ∷ 2 ∷ 0 ∷ 2 ∷ []
unfolding opened
listed = refl

-- a payout to Carol
abbrev paid : List ℕ
paid = 3 ∷ 0 ∷ 0 ∷ 2 ∷ 3 ∷ 3 ∷ 1 ∷ 3 ∷ 5 ∷ 2 ∷ 0 ∷ 2 ∷ 5 ∷ 2 ∷ 1 ∷ 2 ∷ 6 ∷ 2 ∷ 255 ∷ 2 ∷ []

carol_paid : ((run ring open3 paid).refusal ≡ 0) × (holder_in ring (run ring open3 paid).position 0 ≡ carol)
unfolding opened
carol_paid = (refl, refl)

-- 1 to 8 on a ring
checks : (sheet_refusal (130 ∷ 3 ∷ 0 ∷ 1 ∷ 2 ∷ []) ≡ 1)
    × (sheet_refusal (128 ∷ 3 ∷ 0 ∷ 1 ∷ 2 ∷ 4 ∷ body) ≡ 2)
    × (sheet_refusal (161 ∷ 3 ∷ 0 ∷ 1 ∷ 2 ∷ 4 ∷ body) ≡ 2)
    × (sheet_refusal (130 ∷ 3 ∷ 0 ∷ 1 ∷ 2 ∷ 8 ∷ body) ≡ 3)
    × (sheet_refusal (ring ++ (0 ∷ [])) ≡ 4)
    × (sheet_refusal (130 ∷ 3 ∷ 0 ∷ 1 ∷ 2 ∷ 4 ∷ 255 ∷ 0 ∷ 1 ∷ 0 ∷ 0 ∷ 8 ∷ 4 ∷ 0 ∷ 0 ∷ 0 ∷ 0 ∷ 0 ∷ []) ≡ 6)
    × (sheet_refusal ring ≡ 0)
unfolding opened
checks = (refl, refl, refl, refl, refl, refl, refl)

-- "32 when a three-party sheet comes with conduct 1 or 2; tested before 10"
setups : (setup_refusal ring (3 ∷ 0 ∷ 1 ∷ 9 ∷ []) ≡ 32)
    × (setup_refusal ring (3 ∷ 0 ∷ 2 ∷ 0 ∷ []) ≡ 32)
    × (setup_refusal ring (0 ∷ 0 ∷ 1 ∷ 0 ∷ []) ≡ 9)
    × (setup_refusal ring (3 ∷ 0 ∷ 3 ∷ 0 ∷ []) ≡ 10)
    × (setup_refusal ring (3 ∷ 0 ∷ 0 ∷ 2 ∷ []) ≡ 10)
    × (setup_refusal pair (3 ∷ 0 ∷ 1 ∷ 0 ∷ []) ≡ 10)
    × (setup_refusal ring open3 ≡ 0)
unfolding opened
setups = (refl, refl, refl, refl, refl, refl, refl)

-- the number of a step in the empty journal's position
abbrev first : List ℕ → ℕ → ℕ → ℕ → ℕ → ℕ
first s k a t d = (step s open3 (start s) (record { kind = k; party = a; transaction = t; destination = d })).refusal

-- "A key may be given to either other party."; not to oneself, and the miner gives none
gifts : (first ring 2 0 0 1 ≡ 0) × (first ring 2 0 0 3 ≡ 0) × (first ring 2 3 2 1 ≡ 0) × (first ring 2 3 2 3 ≡ 11) × (first ring 2 2 2 1 ≡ 11) × (first ring 2 0 0 2 ≡ 11)
unfolding opened
gifts = (refl, refl, refl, refl, refl, refl)

-- party 3 and destination 3 on a sheet of two
two : (first pair 2 0 0 1 ≡ 0) × (first pair 2 0 0 3 ≡ 11) × (first pair 2 3 2 1 ≡ 11) × (first pair 1 1 1 1 ≡ 0) × (first pair 1 1 1 3 ≡ 11)
unfolding opened
two = (refl, refl, refl, refl, refl)
