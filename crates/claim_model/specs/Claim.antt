-- What document 001's model checks, each claim under 001's name, after every list of four-byte groups from the empty journal's position,
-- refused ones passed over. NoConcurrentSecretKnowledge and NoSingleParticipantTakesAll are claimed in crate claim_careful. The cases for
-- PARTICIPANTS_IRRATIONAL are left out, and so is ENABLED; ContractEventuallyFinished is about fairness and time, which the rules have not.
-- Assumes nothing.
use Rattle.std.specs.Prelude.{ℕ, ◌≤◌, ◌<◌, ◌≡◌, Bool, true, false, not, ◌&&◌, ◌||◌, ◌⊎◌, List, eqb, get_or}
use Rattle.sheet.specs.Refusal.{accepted}
use Rattle.sheet.specs.Field.{count}
use Rattle.sheet.specs.Check.{sheet_refusal}
use Rattle.sheet.specs.Saswap.{saswap}
use Rattle.sheet.specs.Setup.{per_day, conduct, setup_refusal}
use Rattle.slots.specs.Conflict.{conflict}
use Rattle.slots.specs.Destination.{alice, bob}
use Rattle.slots.specs.Signatures.{signed}
use Rattle.steps.specs.Decode.{shares_to}
use Rattle.steps.specs.Names.{secret_alice, secret_bob, lock_a, lock_b, spend_b, spend_refund1_bob}
use Rattle.position.specs.declared.Position.{Position}
use Rattle.position.specs.Position.{in_pool, pool_to, in_block, block_to, is_confirmed, confirmed_to, sent, placed, holds, sender_has, lock_height_in}
use Rattle.position.specs.Conduct.{phase, success_unshared}
use Rattle.readings.specs.Holder.{is_payout, is_payout_to}
use Rattle.position.specs.Holder.{holder_in}
use Rattle.position.specs.Play.{FourBytes, step, play}
use Rattle.step_laws.specs.Wellformed.{Wellformed}
use Rattle.claim_ledger.specs.Claim.{position_of}
use Rattle.claim_careful.specs.Claim.{in_shared}
use Rattle.claim_model.specs.Words.{phases, cardinality, remains, none_remains, swap_successful, swap_aborted, swap_timed_out, contract_finished}

-- ---- on any sheet
-- "ConflictingSet(id) ∩ ids = {id}" for each of these
abbrev pub ConflictFree : List ℕ → (ℕ → Bool) → Type 0
ConflictFree s ids = (t k : ℕ) → ids t ≡ true → ids k ≡ true → conflict s k t ≡ true → k ≡ t

pub record Kept (s u : List ℕ) (p : Position) : Type 0 where
  -- TypeOK: sizes and ranges, and "tx.to ∈ DstSet(tx.id)"
  pub well_formed : Wellformed s p
  pub pool_to_lem : (t : ℕ) → in_pool p t ≡ true → shares_to s t (pool_to p t) ≡ true
  pub block_to_lem : (t : ℕ) → in_block p t ≡ true → shares_to s t (block_to p t) ≡ true
  pub confirmed_to_lem : (t : ℕ) → is_confirmed p t ≡ true → shares_to s t (confirmed_to p t) ≡ true
  -- NoConflictingTransactions: in chain and block together, in chain and pool together, and what is confirmed is in neither
  pub chain_and_block : ConflictFree s (placed p)
  pub chain_and_pool : ConflictFree s (sent p)
  pub once : (t : ℕ) → is_confirmed p t ≡ true → (in_block p t ≡ false) × (in_pool p t ≡ false)
  -- TransactionTimelocksEnforced: "Len(blocks) ≥ TimelockExpirationHeight(tx.id)", in the pool and in the block
  pub pool_locks : (t : ℕ) → in_pool p t ≡ true → lock_height_in s u p t ≤ p.mined
  pub block_locks : (t : ℕ) → in_block p t ≡ true → lock_height_in s u p t ≤ p.mined

-- for every sheet and setup whose checks give 0, of two parties or three, and any conduct
abbrev pub ModelKept : Type 0
ModelKept = (s u : List ℕ) → sheet_refusal s ≡ accepted → setup_refusal s u ≡ accepted → (bs : List FourBytes) → Kept s u (position_of s u bs)

-- ---- on the SASwap sheet under careful conduct
pub record Expected (s : List ℕ) (p : Position) : Type 0 where
  -- ConsistentPhase: exactly one, and it is document 01's, which goes by the shares made
  pub one_phase : cardinality (phases p) ≡ 1
  pub phase_is : get_or (phases p) (phase p) false ≡ true
  -- NoUnexpectedTransactions
  pub unexpected : (sent p spend_refund1_bob ≡ false) × (placed p spend_refund1_bob ≡ false)
  -- ExpectedStateOnTimeout: "RemainingTransactions ⊆ {tx_lock_B, tx_spend_B}"
  pub on_timeout : swap_timed_out s p ≡ true → (t : ℕ) → t < count s → remains s p t ≡ true → (t ≡ lock_b) ⊎ (t ≡ spend_b)
  -- NoTransactionsRemaining_iff_NotTimedOut: "ContractFinished ∧ ¬SwapTimedOut", which is that it is successful or aborted
  pub none_remaining : none_remains s p ≡ (contract_finished s p && not (swap_timed_out s p))
  pub not_timed_out : none_remains s p ≡ (swap_successful p || swap_aborted p)
  -- ExpectedStateOnFinish: nothing remains, and pool and block are empty; or after a timeout spend_B remains, and pool and block hold at
  -- most lock_B
  pub finished : contract_finished s p ≡ true → swap_timed_out s p ≡ false → (none_remains s p ≡ true) × ((t : ℕ) → (in_pool p t ≡ false) × (in_block p t ≡ false))
  pub timed_out_lem : swap_timed_out s p ≡ true → (remains s p spend_b ≡ true) × ((t : ℕ) → (in_pool p t || in_block p t) ≡ true → t ≡ lock_b)

-- for every setup with conduct 2 that fits the SASwap sheet: 1 to 1,000 blocks per day, stealth 0 and 1
abbrev pub ModelExpected : Type 0
ModelExpected =
    (u : List ℕ)
    → setup_refusal (saswap (per_day u)) u ≡ accepted
    → conduct u ≡ 2
    → (bs : List FourBytes)
    → Expected (saswap (per_day u)) (position_of (saswap (per_day u)) u bs)

-- ---- beyond 001, a fair ending
-- a party can take coin B: its send of spend_B to the pool passes, and where spend_B stands already it is that party's
pub record Takes (s u : List ℕ) (p : Position) (party : ℕ) : Type 0 where
  pub now : sent p spend_b ≡ false → (step s u p (record { kind = 3; party = party; transaction = spend_b; destination = party })).refusal ≡ accepted
  pub in_pool_lem : in_pool p spend_b ≡ true → pool_to p spend_b ≡ party
  pub in_block_lem : in_block p spend_b ≡ true → block_to p spend_b ≡ party
  pub in_chain : is_confirmed p spend_b ≡ true → confirmed_to p spend_b ≡ party

-- a fair ending, with the holders "read .. from the position"
pub record Fair (s u : List ℕ) (p : Position) : Type 0 where
  -- success is shared only in phase 3, with coin B locked
  pub success_late : success_unshared p ≡ false → phase p ≡ 3
  -- both coins paid out: successful or aborted, one coin each
  pub both_paid : is_payout s (holder_in s p) lock_a ≡ true → is_payout s (holder_in s p) lock_b ≡ true
      → ((swap_successful p || swap_aborted p) ≡ true) × (eqb (holder_in s p lock_a) (holder_in s p lock_b) ≡ false)
  -- coin A paid to Alice: secret_alice is in shared knowledge, so Bob has what spend_B needs; if coin B is locked, he can take it
  pub alice_paid : is_payout_to s (holder_in s p) alice lock_a ≡ true
      → (in_shared s p secret_alice ≡ true) × (signed s (sender_has s p bob spend_b bob) spend_b ≡ true) × (is_confirmed p lock_b ≡ true → Takes s u p bob)
  -- coin A paid to Bob: the swap has timed out, or Alice has secret_bob, by key or shared, so what spend_B needs; coin B is locked, and she
  -- can take it
  pub bob_paid : is_payout_to s (holder_in s p) bob lock_a ≡ true → swap_timed_out s p ≡ false
      → ((holds p alice secret_bob || in_shared s p secret_bob) ≡ true) × (signed s (sender_has s p alice spend_b alice) spend_b ≡ true) × (is_confirmed p lock_b ≡ true) × Takes s u p alice

abbrev pub FairEnding : Type 0
FairEnding =
    (u : List ℕ)
    → setup_refusal (saswap (per_day u)) u ≡ accepted
    → conduct u ≡ 2
    → (bs : List FourBytes)
    → Fair (saswap (per_day u)) u (position_of (saswap (per_day u)) u bs)

-- ---- an ending is final: of a position and what further steps lead to
pub record Final (s : List ℕ) (p q : Position) : Type 0 where
  pub successful : swap_successful p ≡ true → swap_successful q ≡ true
  pub aborted : swap_aborted p ≡ true → swap_aborted q ≡ true
  pub timed_out_lem : swap_timed_out s p ≡ true → swap_timed_out s q ≡ true

abbrev pub EndingsFinal : Type 0
EndingsFinal =
    (u : List ℕ)
    → setup_refusal (saswap (per_day u)) u ≡ accepted
    → conduct u ≡ 2
    → (bs more : List FourBytes)
    → Final (saswap (per_day u)) (position_of (saswap (per_day u)) u bs) (play (saswap (per_day u)) u more (position_of (saswap (per_day u)) u bs))
