-- What open, the counts and the claims' words mean, by computed examples on both sides.
-- Assumes nothing.
use Rattle.laws.proofs.Prelude.{ℕ, ◌≡◌, refl, ap, true, false, List, [], ◌∷◌, ◌++◌, length, arith, clash}
use Rattle.position.proofs.Rules.{never, saswap, lock_a, lock_b, success, revoke, refund1, start, is_confirmed, journal_steps}
use Rattle.position.specs.declared.Position.{Position}
use Rattle.readings.specs.Reported.{reported_count}
use Rattle.dated.specs.Opens.{opens}
use Rattle.dated.specs.Dated.{count_of, dated_run}
use Rattle.dated.specs.Report.{rows_of}
use Rattle.dated.proofs.OpenedRules.{opened_dated}
use Rattle.claim_opened.specs.Claim.{SameButCounts, along, Cause, never_open, open_in, Least}
use Rattle.claim_opened.proofs.Theorems.{first_open_lem}

-- P10: its sheet, its setup, its journal
abbrev p10 : List ℕ
p10 = 2 ∷ 2 ∷ 0 ∷ 1 ∷ 2 ∷ 255 ∷ 0 ∷ 1 ∷ 0 ∷ 0 ∷ 2 ∷ 2 ∷ 0 ∷ 0 ∷ 0 ∷ 1 ∷ 1 ∷ []

abbrev daily : List ℕ
daily = 1 ∷ 0 ∷ 0 ∷ 0 ∷ []

abbrev first_block : List ℕ
first_block = 3 ∷ 0 ∷ 0 ∷ 2 ∷ 5 ∷ 2 ∷ 0 ∷ 2 ∷ 6 ∷ 2 ∷ 255 ∷ 2 ∷ []

abbrev payout : List ℕ
payout = 3 ∷ 1 ∷ 1 ∷ 1 ∷ 5 ∷ 2 ∷ 1 ∷ 2 ∷ 6 ∷ 2 ∷ 255 ∷ 2 ∷ []

-- the count of t after a journal
abbrev after : List ℕ → List ℕ → List ℕ → ℕ → ℕ
after s u j t = count_of (dated_run s u j).dated t

-- the opening is open before any step, the payout once its parent is confirmed and its lock reached, at 1 block
p10_counts : (after p10 daily [] 0 ≡ 0) × (after p10 daily [] 1 ≡ never) × (after p10 daily first_block 1 ≡ 1) × (after p10 daily (first_block ++ payout) 1 ≡ 1)
unfolding opened_dated
p10_counts = (refl, refl, refl, refl)

-- the report's last number of a row
p10_reported : (reported_count (rows_of p10 daily (dated_run p10 daily (first_block ++ payout))) 0 ≡ 0) × (reported_count (rows_of p10 daily (dated_run p10 daily (first_block ++ payout))) 1 ≡ 1)
unfolding opened_dated
p10_reported = (refl, refl)

-- the same without a lock: mined in its parent's own block it is confirmed and was never open; a parent in the block is not enough
unlocked : List ℕ
unlocked = 2 ∷ 2 ∷ 0 ∷ 1 ∷ 2 ∷ 255 ∷ 0 ∷ 1 ∷ 0 ∷ 0 ∷ 2 ∷ 2 ∷ 0 ∷ 0 ∷ 0 ∷ 0 ∷ 0 ∷ []

filled : List ℕ
filled = 3 ∷ 0 ∷ 0 ∷ 2 ∷ 3 ∷ 1 ∷ 1 ∷ 1 ∷ 5 ∷ 2 ∷ 0 ∷ 2 ∷ 5 ∷ 2 ∷ 1 ∷ 2 ∷ []

together : (after unlocked daily filled 1 ≡ never) × (after unlocked daily (filled ++ (6 ∷ 2 ∷ 255 ∷ 2 ∷ [])) 1 ≡ never)
    × (is_confirmed (dated_run unlocked daily (filled ++ (6 ∷ 2 ∷ 255 ∷ 2 ∷ []))).dated.position 1 ≡ true)
unfolding opened_dated unlocked filled
together = (refl, refl, refl)

-- conduct has no part: the locks are open on a careful, fresh SASwap sheet, success is not
careful_fresh : (opens (saswap 3) (3 ∷ 0 ∷ 2 ∷ 0 ∷ []) (start (saswap 3)) lock_a ≡ true) × (opens (saswap 3) (3 ∷ 0 ∷ 2 ∷ 0 ∷ []) (start (saswap 3)) lock_b ≡ true)
    × (opens (saswap 3) (3 ∷ 0 ∷ 2 ∷ 0 ∷ []) (start (saswap 3)) success ≡ false)
unfolding opened_dated
careful_fresh = (refl, refl, refl)

-- lock_A in block 1, two more blocks, then sig_alice given to Bob: success is open at 3 blocks, where its deadline is reached; the count
-- stays; revoke opens at its lock, 6; refund_1 lacks a signature; a step refused at the end sets nothing
given_late : List ℕ
given_late = first_block ++ (6 ∷ 2 ∷ 255 ∷ 2 ∷ 6 ∷ 2 ∷ 255 ∷ 2 ∷ 2 ∷ 0 ∷ 0 ∷ 1 ∷ [])

three_more : List ℕ
three_more = 6 ∷ 2 ∷ 255 ∷ 2 ∷ 6 ∷ 2 ∷ 255 ∷ 2 ∷ 6 ∷ 2 ∷ 255 ∷ 2 ∷ []

abbrev open_setup_lem : List ℕ
open_setup_lem = 3 ∷ 0 ∷ 0 ∷ 0 ∷ []

deadline_not_asked : (after (saswap 3) open_setup_lem given_late success ≡ 3) × (after (saswap 3) open_setup_lem (given_late ++ three_more) success ≡ 3)
    × (after (saswap 3) open_setup_lem given_late revoke ≡ never) × (after (saswap 3) open_setup_lem (given_late ++ three_more) revoke ≡ 6)
    × (after (saswap 3) open_setup_lem (given_late ++ three_more) refund1 ≡ never)
    × (after (saswap 3) open_setup_lem (given_late ++ (3 ∷ 1 ∷ 4 ∷ 2 ∷ [])) revoke ≡ never)
unfolding opened_dated given_late three_more
deadline_not_asked = (refl, refl, refl, refl, refl, refl)

-- the positions along a journal: one for each accepted step and the empty journal's; none behind a refused step
positions : (length (along p10 daily (journal_steps (first_block ++ payout)) (start p10)) ≡ 7)
    × (length (along p10 daily (journal_steps (payout ++ first_block)) (start p10)) ≡ 1)
unfolding opened_dated along
positions = (refl, refl)

-- ---- the words of the claim
-- the count that it speaks of is one number: two that are the least are the same
by_cause : {s u : List ℕ} {t c d : ℕ} {ps : List Position} → Least s u t ps c → Least s u t ps d → Cause s u t ps c → Cause s u t ps d → c ≡ d
by_cause x y (never_open e h) (never_open f k) = omega (arith, e, f)
by_cause x y (never_open e h) (open_in q m o f) = clash o (h q m)
by_cause x y (open_in q m o e) (never_open f k) = clash o (k q m)
by_cause x y (open_in q m o e) (open_in r n w f) = omega (arith, e, f, x.least r n w, y.least q m o)

pub one_number : {s u : List ℕ} {t c d : ℕ} {ps : List Position} → Least s u t ps c → Least s u t ps d → c ≡ d
one_number x y = by_cause x y x.cause y.cause

-- of P10's payout it is 1 after the first block, and neither 0 nor 2147483647
abbrev first_positions : List Position
first_positions = along p10 daily (journal_steps first_block) (start p10)

pub payout_least : Least p10 daily 1 first_positions 1
unfolding opened_dated
payout_least = first_open_lem p10 daily first_block refl 1 (omega arith)

pub payout_no_other : (Least p10 daily 1 first_positions 0 → ⊥) × (Least p10 daily 1 first_positions never → ⊥)
payout_no_other = (λ x. let e = one_number payout_least x in omega (arith, e), λ x. let e = one_number payout_least x in omega (arith, e))

-- positions differ in their counts alone where these differ, and not where a block more is mined
pub counts_apart : SameButCounts (record { position = start p10; opened = [] }) (record { position = start p10; opened = 0 ∷ [] })
counts_apart = refl

pub blocks_apart : SameButCounts (dated_run p10 daily []).dated (dated_run p10 daily first_block).dated → ⊥
unfolding opened_dated
blocks_apart e = let z : ◌≡◌ {A = ℕ} 0 1 = ap (λ (p : Position). p.mined) e in omega (arith, z)
