-- The claim for careful conduct on the SASwap sheet: the two secrets are never both known beyond their owners, and no party is paid
-- from both coins.
-- Assumes nothing.
use Rattle.std.specs.Prelude.{ℕ, ◌≡◌, Bool, false, not, ◌&&◌, ◌||◌, List}
use Rattle.laws.specs.Below.{any_below}
use Rattle.laws.specs.Mask.{bit}
use Rattle.sheet.specs.Refusal.{accepted}
use Rattle.sheet.specs.Field.{parties, party_at, count, start_keys}
use Rattle.sheet.specs.Saswap.{saswap}
use Rattle.sheet.specs.Setup.{per_day, conduct, setup_refusal}
use Rattle.slots.specs.Slot.{shared_any}
use Rattle.ledger.specs.Ledger.{ledger_holder}
use Rattle.position.specs.declared.Position.{Position}
use Rattle.steps.specs.Names.{secret_alice, secret_bob, lock_a, lock_b}
use Rattle.position.specs.Position.{slot, holds}
use Rattle.position.specs.Play.{FourBytes}
use Rattle.readings.specs.Holder.{is_payout_to}
use Rattle.readings.specs.Reported.{reported_holder}
use Rattle.position.specs.Holder.{holder_in}
use Rattle.claim_ledger.specs.Claim.{books_of, position_of, report_of, reported_bytes}

-- "shared knowledge": signature i is in it, for some transaction and destination
unfoldable pub in_shared : List ℕ → Position → ℕ → Bool
in_shared s p i = any_below (count s) (λ t. bit (shared_any (slot p t)) i)

-- "each party's keys held": signature i is held by a party that has it not in "the masks held at the start"
unfoldable pub held_by_other : List ℕ → Position → ℕ → Bool
held_by_other s p i = any_below (parties s) (λ k. not (bit (start_keys s (party_at k)) i) && holds p (party_at k) i)

-- a secret is known beyond its owner: through shared knowledge, or because a party that did not hold it at the start holds it
unfoldable pub known : List ℕ → Position → ℕ → Bool
known s p i = in_shared s p i || held_by_other s p i

-- no party is paid from both coins, where `held` gives each coin's holder: "A payout is a coin whose holder is a party."
abbrev pub PaidOnce : List ℕ → (ℕ → ℕ) → Type 0
PaidOnce s held = (party : ℕ) → (is_payout_to s held party lock_a && is_payout_to s held party lock_b) ≡ false

-- what is claimed of a list of four-byte groups, played from the empty journal's position
pub record Safe (s u : List ℕ) (bs : List FourBytes) : Type 0 where
  pub secrets : (known s (position_of s u bs) secret_alice && known s (position_of s u bs) secret_bob) ≡ false
  -- holders "read .. from the position", from the plain ledger, "and from the report of the accepted steps where that report answers 0"
  pub position : PaidOnce s (holder_in s (position_of s u bs))
  pub ledger : PaidOnce s (ledger_holder (books_of s u bs).kept)
  pub report : (out : List ℕ) → (report_of s u bs out).refusal ≡ accepted → PaidOnce s (reported_holder s (reported_bytes s u bs out))

-- for every setup with conduct 2, "careful", that fits "the SASwap sheet for that number of blocks", and every list
abbrev pub Careful : Type 0
Careful =
    (u : List ℕ)
    → setup_refusal (saswap (per_day u)) u ≡ accepted
    → conduct u ≡ 2
    → (bs : List FourBytes)
    → Safe (saswap (per_day u)) u bs
