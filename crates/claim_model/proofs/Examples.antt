-- Three blocks per day, computed: a journal for each ending and some for none, and for each claim a position in which it is false.
-- Assumes nothing.
use Rattle.laws.proofs.Prelude.{ℕ, ◌≡◌, refl, Bool, true, false, List, [], ◌∷◌, ◌++◌, arith, map, pick, clash, either, gather}
use Rattle.position.proofs.Rules.{accepted, saswap, alice, bob, contract, entry_for, with_pool, with_block, with_confirmed, with_shared, with_mark, nobody, lock_a, lock_b}
use Rattle.position.proofs.Rules.{success, refund1, revoke, spend_a, spend_b, spend_refund1_bob, spend_timeout, start, phase, change_slot, holder_in, run}
use Rattle.position.specs.declared.Position.{Position}
use Rattle.position.proofs.Opened.{opened}
use Rattle.claim_careful.specs.Claim.{in_shared}
use Rattle.claim_model.specs.Words.{all_shared, both_shared, phases, cardinality, remains, none_remains, has_custody, swap_successful, swap_aborted, swap_timed_out, contract_finished}
use Rattle.claim_model.specs.Claim.{Kept, Expected, Takes, Fair, Final}

abbrev s3 : List ℕ
s3 = saswap 3

-- 3 a day, careful, stealth 0; the same open
abbrev careful3 : List ℕ
careful3 = 3 ∷ 0 ∷ 2 ∷ 0 ∷ []

abbrev open3 : List ℕ
open3 = 3 ∷ 0 ∷ 0 ∷ 1 ∷ []

-- ---- journals
abbrev mine : List ℕ
mine = 6 ∷ 2 ∷ 255 ∷ 2 ∷ []

-- a party's send to the pool, included; and mined
abbrev included : ℕ → ℕ → ℕ → List ℕ
included party t to = 3 ∷ party ∷ t ∷ to ∷ 5 ∷ 2 ∷ t ∷ 2 ∷ []

abbrev confirmed : ℕ → ℕ → ℕ → List ℕ
confirmed party t to = included party t to ++ mine

abbrev first_shares : List ℕ
first_shares = 1 ∷ 0 ∷ 255 ∷ 2 ∷ 1 ∷ 1 ∷ 255 ∷ 2 ∷ []

-- lock_A in block 1; lock_B in block 2
abbrev locked_a : List ℕ
locked_a = first_shares ++ confirmed 0 0 2

abbrev locked : List ℕ
locked = locked_a ++ confirmed 1 1 2

-- Alice shares success, Bob gives secret_bob and sends success, bumped into block 3; spend_success and spend_B in block 4
abbrev successful : List ℕ
successful = locked ++ (1 ∷ 0 ∷ 2 ∷ 2 ∷ 2 ∷ 1 ∷ 3 ∷ 0 ∷ 3 ∷ 1 ∷ 2 ∷ 2 ∷ 7 ∷ 2 ∷ 2 ∷ 2 ∷ []) ++ mine ++ included 1 9 1 ++ confirmed 0 8 0

-- refund_1 in block 4, and a day later spend_refund_1_alice and spend_B
abbrev aborted : List ℕ
aborted = locked ++ mine ++ confirmed 0 3 2 ++ mine ++ mine ++ mine ++ included 0 11 0 ++ confirmed 1 8 1

-- revoke in block 7, timeout two days later in block 14, spend_timeout in block 15; from lock_B in block 2, or without it
abbrev revoked : List ℕ
revoked =
    confirmed 1 4 2 ++ mine ++ mine ++ mine ++ mine ++ mine ++ mine ++ confirmed 1 6 2 ++ confirmed 1 14 1

abbrev timed_out : List ℕ
timed_out = locked ++ mine ++ mine ++ mine ++ mine ++ revoked

abbrev timed_out_alone : List ℕ
timed_out_alone = locked_a ++ mine ++ mine ++ mine ++ mine ++ mine ++ revoked

-- open: Alice gives sig_alice and secret_alice, Bob takes both coins
abbrev both_to_bob : List ℕ
both_to_bob =
    confirmed 0 0 2 ++ confirmed 1 1 2 ++ (2 ∷ 0 ∷ 0 ∷ 1 ∷ 2 ∷ 0 ∷ 2 ∷ 1 ∷ 3 ∷ 1 ∷ 7 ∷ 1 ∷ 3 ∷ 1 ∷ 8 ∷ 1 ∷ 7 ∷ 2 ∷ 7 ∷ 2 ∷ 5 ∷ 2 ∷ 8 ∷ 2 ∷ []) ++ mine

abbrev after : List ℕ → List ℕ → Position
after setup journal = (run s3 setup journal).position

-- those that remain, by number
unfoldable left : Position → List ℕ
left p = gather 15 (λ t. pick (remains s3 p t) (t ∷ []) [])

-- what a journal that is accepted whole comes to: phase, endings, what remains, who holds the coins
record Comes (setup journal : List ℕ) (phaseNumber : ℕ) (succeeds aborts times_out ends : Bool) (remaining : List ℕ) (holder_a holder_b : ℕ) : Type 0 where
  accepts : (run s3 setup journal).refusal ≡ accepted
  in_phase : phase (after setup journal) ≡ phaseNumber
  succeeded : swap_successful (after setup journal) ≡ succeeds
  was_aborted : swap_aborted (after setup journal) ≡ aborts
  timed_out_lem : swap_timed_out s3 (after setup journal) ≡ times_out
  finished : contract_finished s3 (after setup journal) ≡ ends
  leaves : left (after setup journal) ≡ remaining
  coin_a : holder_in s3 (after setup journal) lock_a ≡ holder_a
  coin_b : holder_in s3 (after setup journal) lock_b ≡ holder_b

-- the three endings
by_success : Comes careful3 successful 3 true false false true [] bob alice
unfolding opened in_shared has_custody swap_successful swap_aborted swap_timed_out contract_finished remains left
by_success = record { accepts = refl; in_phase = refl; succeeded = refl; was_aborted = refl; timed_out_lem = refl; finished = refl; leaves = refl; coin_a = refl; coin_b = refl }

by_abort : Comes careful3 aborted 3 false true false true [] alice bob
unfolding opened in_shared has_custody swap_successful swap_aborted swap_timed_out contract_finished remains left
by_abort = record { accepts = refl; in_phase = refl; succeeded = refl; was_aborted = refl; timed_out_lem = refl; finished = refl; leaves = refl; coin_a = refl; coin_b = refl }

by_timeout : Comes careful3 timed_out 3 false false true true (spend_b ∷ []) bob contract
unfolding opened in_shared has_custody swap_successful swap_aborted swap_timed_out contract_finished remains left
by_timeout = record { accepts = refl; in_phase = refl; succeeded = refl; was_aborted = refl; timed_out_lem = refl; finished = refl; leaves = refl; coin_a = refl; coin_b = refl }

by_timeout_alone : Comes careful3 timed_out_alone 2 false false true true (lock_b ∷ spend_b ∷ []) bob nobody
unfolding opened in_shared has_custody swap_successful swap_aborted swap_timed_out contract_finished remains left
by_timeout_alone = record { accepts = refl; in_phase = refl; succeeded = refl; was_aborted = refl; timed_out_lem = refl; finished = refl; leaves = refl; coin_a = refl; coin_b = refl }

-- none of them: both coins locked; and, open, both coins taken by Bob, after which nothing remains
none_yet : Comes careful3 locked 3 false false false false (2 ∷ 3 ∷ 4 ∷ 5 ∷ 6 ∷ 7 ∷ 8 ∷ 9 ∷ 10 ∷ 11 ∷ 12 ∷ 13 ∷ 14 ∷ []) contract contract
unfolding opened in_shared has_custody swap_successful swap_aborted swap_timed_out contract_finished remains left
none_yet = record { accepts = refl; in_phase = refl; succeeded = refl; was_aborted = refl; timed_out_lem = refl; finished = refl; leaves = refl; coin_a = refl; coin_b = refl }

neither : Comes open3 both_to_bob 3 false false false false [] bob bob
unfolding opened in_shared has_custody swap_successful swap_aborted swap_timed_out contract_finished remains left
neither = record { accepts = refl; in_phase = refl; succeeded = refl; was_aborted = refl; timed_out_lem = refl; finished = refl; leaves = refl; coin_a = refl; coin_b = refl }

-- a timeout with secret_bob in shared knowledge, or held by Alice, is none
shared_no_timeout : swap_timed_out s3 (change_slot success (with_shared contract 8) (after careful3 timed_out)) ≡ false
unfolding opened in_shared swap_timed_out
shared_no_timeout = refl

held_no_timeout : swap_timed_out s3 (record { slots = (after careful3 timed_out).slots; mined = 15; keys = 13 ∷ 10 ∷ 0 ∷ 0 ∷ 0 ∷ 0 ∷ [] }) ≡ false
unfolding opened in_shared swap_timed_out
held_no_timeout = refl

-- ---- phases, in the order of a swap
in_phases : map phases (after careful3 [] ∷ after careful3 first_shares ∷ after careful3 locked_a ∷ after careful3 locked ∷ [])
    ≡ (true ∷ false ∷ false ∷ false ∷ [])
    ∷ (false ∷ true ∷ false ∷ false ∷ [])
    ∷ (false ∷ false ∷ true ∷ false ∷ [])
    ∷ (false ∷ false ∷ false ∷ true ∷ [])
    ∷ []
unfolding opened phases both_shared all_shared
in_phases = refl

-- one party's first shares are not both's
one_shared : phases (after careful3 (1 ∷ 0 ∷ 255 ∷ 2 ∷ [])) ≡ true ∷ false ∷ false ∷ false ∷ []
unfolding opened phases both_shared all_shared
one_shared = refl

counted : map cardinality ([] ∷ (true ∷ false ∷ true ∷ []) ∷ (false ∷ true ∷ []) ∷ []) ≡ 0 ∷ 2 ∷ 1 ∷ []
unfolding cardinality
counted = refl

-- ---- positions in which the claims are false
abbrev empty : Position
empty = start s3

-- t confirmed in block 1, waiting in the pool, in the block, to a destination
abbrev mined : ℕ → ℕ → Position → Position
mined t to p = change_slot t (with_confirmed (entry_for to) 1) p

abbrev pooled : ℕ → ℕ → Position → Position
pooled t to p = change_slot t (with_pool (entry_for to)) p

abbrev filled : ℕ → ℕ → Position → Position
filled t to p = change_slot t (with_block (entry_for to)) p

-- destinations, in pool, block and chain
strays : (Kept s3 open3 (pooled lock_a bob empty) → ⊥) × (Kept s3 open3 (filled lock_a bob empty) → ⊥) × (Kept s3 open3 (mined lock_a bob empty) → ⊥)
unfolding opened
strays = ((λ k. clash (k.pool_to_lem lock_a refl) refl), (λ k. clash (k.block_to_lem lock_a refl) refl), (λ k. clash (k.confirmed_to_lem lock_a refl) refl))

-- rivals in block and chain, in pool and chain; one confirmed and waiting
rivals : (Kept s3 open3 (filled revoke contract (mined success contract empty)) → ⊥)
    × (Kept s3 open3 (pooled revoke contract (mined success contract empty)) → ⊥)
    × (Kept s3 open3 (filled lock_a contract (mined lock_a contract empty)) → ⊥)
    × (Kept s3 open3 (pooled lock_a contract (mined lock_a contract empty)) → ⊥)
unfolding opened
rivals = (
  (λ k. omega (arith, k.chain_and_block success revoke refl refl refl)),
  (λ k. omega (arith, k.chain_and_pool success revoke refl refl refl)),
  (λ k. clash refl (k.once lock_a refl).0),
  (λ k. clash refl (k.once lock_a refl).1),
)

-- a lock before its height, in pool and block
early : (Kept s3 open3 (pooled refund1 contract empty) → ⊥) × (Kept s3 open3 (filled refund1 contract empty) → ⊥)
unfolding opened
early = ((λ k. omega (arith, k.pool_locks refund1 refl)), (λ k. omega (arith, k.block_locks refund1 refl)))

-- marks without shared signatures, and these without marks: another phase than document 01's
abbrev signed_at : ℕ → ℕ → Position → Position
signed_at t m p = change_slot t (with_shared contract m) p

abbrev marked_at : ℕ → ℕ → Position → Position
marked_at party t p = change_slot t (with_mark party contract) p

other_phase : (Expected s3 (marked_at alice 4 (marked_at alice 6 (marked_at bob 3 (marked_at bob 4 (marked_at bob 5 (marked_at bob 6 empty)))))) → ⊥)
    × (Expected s3 (signed_at 3 2 (signed_at 4 3 (signed_at 5 2 (signed_at 6 3 empty)))) → ⊥)
unfolding opened phases both_shared all_shared
other_phase = ((λ k. clash k.phase_is refl), (λ k. clash k.phase_is refl))

-- spend_refund_1_bob in pool and block
unexpected_stands : (Expected s3 (pooled spend_refund1_bob bob empty) → ⊥) × (Expected s3 (filled spend_refund1_bob bob empty) → ⊥)
unfolding opened
unexpected_stands = ((λ k. clash refl k.unexpected.0), (λ k. clash refl k.unexpected.1))

-- spend_timeout confirmed without its parents: lock_A remains
timeout_alone : Expected s3 (mined spend_timeout bob empty) → ⊥
unfolding opened in_shared swap_timed_out remains
timeout_alone k = either (k.on_timeout refl lock_a (omega arith) refl) (λ e. omega arith) (λ e. omega arith)

-- nothing remains, and the swap is neither successful nor aborted
one_takes_all : (Expected s3 (after open3 both_to_bob) → ⊥) × (Expected s3 (after open3 both_to_bob) → ⊥)
    × (Fair s3 careful3 (after open3 both_to_bob) → ⊥) × (Fair s3 careful3 (after open3 both_to_bob) → ⊥)
unfolding opened in_shared has_custody swap_successful swap_aborted swap_timed_out contract_finished remains none_remains
one_takes_all = (
  (λ k. clash refl k.none_remaining),
  (λ k. clash refl k.not_timed_out),
  (λ k. clash (k.both_paid refl refl).0 refl),
  (λ k. clash refl (k.both_paid refl refl).1),
)

-- finished, and lock_A remains, or waits in the pool or the block
waits_on : (Expected s3 (mined spend_b alice (mined spend_a bob empty)) → ⊥)
    × (Expected s3 (pooled lock_a contract (after careful3 successful)) → ⊥)
    × (Expected s3 (filled lock_a contract (after careful3 successful)) → ⊥)
unfolding opened in_shared has_custody swap_successful swap_aborted swap_timed_out contract_finished remains none_remains
waits_on = (
  (λ k. clash (k.finished refl refl).0 refl),
  (λ k. clash refl ((k.finished refl refl).1 lock_a).0),
  (λ k. clash refl ((k.finished refl refl).1 lock_a).1),
)

-- timed out, and spend_B is confirmed, or waits in the pool or the block
spent_late : (Expected s3 (mined spend_b bob (after careful3 timed_out)) → ⊥)
    × (Expected s3 (pooled spend_b bob (after careful3 timed_out)) → ⊥)
    × (Expected s3 (filled spend_b bob (after careful3 timed_out)) → ⊥)
unfolding opened in_shared swap_timed_out remains
spent_late = (
  (λ k. clash (k.timed_out_lem refl).0 refl),
  (λ k. omega (arith, (k.timed_out_lem refl).1 spend_b refl)),
  (λ k. omega (arith, (k.timed_out_lem refl).1 spend_b refl)),
)

-- success shared before any phase
shared_early : Fair s3 careful3 (after open3 (1 ∷ 0 ∷ 2 ∷ 2 ∷ [])) → ⊥
unfolding opened
shared_early k = omega (arith, k.success_late refl)

-- other keys
abbrev keyed : ℕ → ℕ → Position → Position
keyed a b p = record { slots = p.slots; mined = p.mined; keys = a ∷ b ∷ 0 ∷ 0 ∷ 0 ∷ 0 ∷ [] }

-- coin A paid to Alice: secret_alice not shared; shared, and Bob without his own secret
abbrev to_alice : Position
to_alice = mined spend_a alice (mined lock_a contract empty)

alice_alone : (Fair s3 careful3 to_alice → ⊥) × (Fair s3 careful3 (keyed 5 2 (change_slot refund1 (with_shared contract 4) to_alice)) → ⊥)
unfolding opened in_shared
alice_alone = ((λ k. clash (k.alice_paid refl).0 refl), (λ k. clash (k.alice_paid refl).1 refl))

-- coin A paid to Bob: secret_bob neither Alice's nor shared; hers, and she without her own; hers, and coin B not locked
abbrev to_bob : Position
to_bob = mined spend_a bob (mined lock_a contract empty)

bob_alone : (Fair s3 careful3 to_bob → ⊥) × (Fair s3 careful3 (keyed 9 10 (mined lock_b contract to_bob)) → ⊥) × (Fair s3 careful3 (keyed 13 10 to_bob) → ⊥)
unfolding opened in_shared swap_timed_out
bob_alone = (
  (λ k. clash (k.bob_paid refl refl).0 refl),
  (λ k. clash (k.bob_paid refl refl).1 refl),
  (λ k. clash (k.bob_paid refl refl).2 refl),
)

-- coin B cannot be taken before it is locked; where spend_B stands for Bob it is not Alice's
bob_takes : (Takes s3 careful3 empty alice → ⊥)
    × (Takes s3 careful3 (pooled spend_b bob empty) alice → ⊥)
    × (Takes s3 careful3 (filled spend_b bob empty) alice → ⊥)
    × (Takes s3 careful3 (mined spend_b bob empty) alice → ⊥)
unfolding opened
bob_takes = (
  (λ k. omega (arith, k.now refl)),
  (λ k. omega (arith, k.in_pool_lem refl)),
  (λ k. omega (arith, k.in_block_lem refl)),
  (λ k. omega (arith, k.in_chain refl)),
)

-- an ending that is undone
undone : (Final s3 (after careful3 successful) empty → ⊥) × (Final s3 (after careful3 aborted) empty → ⊥) × (Final s3 (after careful3 timed_out) empty → ⊥)
unfolding opened in_shared has_custody swap_successful swap_aborted swap_timed_out
undone = ((λ k. clash (k.successful refl) refl), (λ k. clash (k.aborted refl) refl), (λ k. clash (k.timed_out_lem refl) refl))
