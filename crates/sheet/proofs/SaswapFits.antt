-- The SASwap sheet passes the check, and a setup for it passes under every conduct.
-- Assumes nothing.
use Rattle.laws.proofs.Prelude.{ℕ, ◌≤◌, ◌≡◌, refl, true, List, eqb, length, eqb-true, eq-eqb, le-leb, arith, or-true, all_below, all_at, first_failing}
use Rattle.laws.specs.Same.{equal_same}
use Rattle.sheet.specs.Field.{parties, count, signatures}
use Rattle.sheet.specs.Check.{sheet_refusal}
use Rattle.sheet.proofs.Opened.{opened}
use Rattle.sheet.proofs.Offset.{offset_small}
use Rattle.sheet.specs.Saswap.{offset, saswap_at, saswap}
use Rattle.sheet.specs.Setup.{per_day, conduct, stealth, blocks_right, parties_right, is_saswap, conduct_right, setup_tests, setup_refusal}

-- one test over the four offsets
all_pass : all_below 4 (λ o. eqb (sheet_refusal (saswap_at o)) 0) ≡ true
unfolding opened
all_pass = refl

pub saswap_passes : (d : ℕ) → sheet_refusal (saswap d) ≡ 0
unfolding saswap offset
saswap_passes d =
    eqb-true (sheet_refusal (saswap_at (offset d))) 0 (all_at 4 (λ o. eqb (sheet_refusal (saswap_at o)) 0) all_pass (offset d) (omega (arith, offset_small d)))

-- "the claim about two secrets remains one about the SASwap sheet": it has two parties
pub parties_saswap : (d : ℕ) → parties (saswap d) ≡ 2
unfolding opened
parties_saswap d = refl

-- and 15 transactions with 4 signatures
pub saswap_sizes : (d : ℕ) → (count (saswap d) ≡ 15) × (signatures (saswap d) ≡ 4)
unfolding opened
saswap_sizes d = (refl, refl)

pub saswap_fits : (u : List ℕ) → length u ≡ 4 → 1 ≤ per_day u → per_day u ≤ 1000 → conduct u ≤ 2 → stealth u ≤ 1 → setup_refusal (saswap (per_day u)) u ≡ 0
unfolding setup_refusal setup_tests first_failing blocks_right parties_right conduct_right is_saswap
saswap_fits u l a b c d =
    simp (parties_saswap (per_day u), eq-eqb (length u) 4 l, le-leb 1 (per_day u) a, le-leb (per_day u) 1000 b, le-leb (conduct u) 2 c, le-leb (stealth u) 1 d, equal_same (saswap (per_day u)), or-true)
