-- Payouts, computed, on both sides.
-- Assumes nothing.
use Rattle.laws.proofs.Prelude.{ℕ, ◌≡◌, refl, Bool, true, not, ◌&&◌, List, [], ◌∷◌}
use Rattle.sheet.proofs.Opened.{opened}
use Rattle.ledger.specs.Coin.{nobody}
use Rattle.slots.specs.Destination.{alice, bob, contract}
use Rattle.readings.specs.Holder.{is_payout, is_payout_to}

-- 0 opens a coin, 1 spends it to either party
abbrev sheet : List ℕ
sheet = 2 ∷ 1 ∷ 0 ∷ 1 ∷ 1 ∷ 255 ∷ 0 ∷ 1 ∷ 0 ∷ 0 ∷ 3 ∷ 1 ∷ 0 ∷ 0 ∷ 0 ∷ 0 ∷ 0 ∷ []

-- the coin, held by `who`, is a payout to `party`
abbrev to : ℕ → ℕ → Bool
to who party = is_payout_to sheet (λ coin. who) party 0

-- held by a party, and then to that party alone; by the contract or nobody; no number but the opening's
pub payouts :
    (is_payout sheet (λ coin. bob) 0
    && (to bob bob && (not (to bob alice) && (to alice alice && (not (to alice bob)
    && (not (is_payout sheet (λ coin. contract) 0) && (not (to contract contract)
    && (not (is_payout sheet (λ coin. nobody) 0)
    && not (is_payout sheet (λ coin. bob) 1))))))))) ≡ true
unfolding opened is_payout is_payout_to
payouts = refl
