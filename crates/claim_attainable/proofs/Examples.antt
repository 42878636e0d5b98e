-- The words of specs/ by example: on the SASwap sheet at 1 block per day, and on a ring of three.
-- Assumes nothing.
use Rattle.laws.proofs.Prelude.{ℕ, ◌+◌, ◌^◌, ◌≡◌, refl, Bool, true, false, false≢true, List, [], ◌∷◌, ◌++◌, eqb, arith, either, all_below, any_below, joined, set_below}
use Rattle.position.proofs.Rules.{sheet_refusal, saswap, alice, bob, contract, carol, success, refund1, revoke, refund2, timeout, spend_b, spend_success, spend_refund1_alice}
use Rattle.position.proofs.Rules.{spend_revoke, spend_refund2, spend_timeout, is_confirmed, FourBytes, journal_steps, play}
use Rattle.position.specs.declared.Position.{Position}
use Rattle.position.proofs.Opened.{opened}
use Rattle.claim_ledger.specs.Claim.{position_of}
use Rattle.attainable.specs.Attainable.{gone, secrets_of, other_keys, others_keys, shown_by, known_from, overdue, forgone, never_sent, waits_for, signable, comes, grown, rounds, attainable, attainable_elsewhere, Closed}
use Rattle.claim_attainable.specs.Words.{step_of, send_of, without, sends_only}
use Rattle.claim_attainable.specs.Claim.{Foreseen}
use Rattle.claim_attainable.proofs.Theorems.{attainability}

unfoldable brought : Unit {0}
unfolding opened joined set_below all_below any_below gone secrets_of other_keys others_keys shown_by known_from overdue forgone never_sent waits_for signable comes grown rounds attainable attainable_elsewhere step_of send_of without sends_only
brought = tt

-- no transaction is lent
abbrev none : ℕ → Bool
none t = false

-- this party's send of a transaction to the pool for the contract, included and mined; an empty block
abbrev mine : List ℕ
mine = 6 ∷ 2 ∷ 255 ∷ 2 ∷ []

abbrev confirmed : ℕ → ℕ → List ℕ
confirmed party t = 3 ∷ party ∷ t ∷ 2 ∷ 5 ∷ 2 ∷ t ∷ 2 ∷ mine

-- both first shares, lock_A in block 1, lock_B in block 2
abbrev locked : List ℕ
locked = 1 ∷ 0 ∷ 255 ∷ 2 ∷ 1 ∷ 1 ∷ 255 ∷ 2 ∷ (confirmed 0 0 ++ confirmed 1 1)

-- careful conduct without and with stealth
abbrev careful : List ℕ
careful = 1 ∷ 0 ∷ 2 ∷ 0 ∷ []

abbrev stealthy : List ℕ
stealthy = 1 ∷ 0 ∷ 2 ∷ 1 ∷ []

abbrev after : List ℕ → List ℕ → Position
after setup journal = position_of (saswap 1) setup (journal_steps journal)

abbrev reach : List ℕ → List ℕ → ℕ → (ℕ → Bool) → ℕ
reach setup journal x also = attainable (saswap 1) setup (after setup journal) x also

-- after the locks. Without Alice: revoke and timeout, which she has signed, and what pays Bob below; refund_1 needs her secret, success
-- her signature. Without Bob: what he has signed, and what pays Alice below; timeout too, but not what pays Bob below it
pub without_alice : reach careful locked alice none ≡ 2 ^ revoke + 2 ^ timeout + 2 ^ spend_timeout
unfolding brought
without_alice = refl

pub without_bob : reach careful locked bob none ≡ 2 ^ refund1 + 2 ^ revoke + 2 ^ refund2 + 2 ^ timeout + 2 ^ spend_refund1_alice + 2 ^ spend_refund2
unfolding brought
without_bob = refl

-- Alice shares success: Bob can send it. One block later its deadline is reached, and only a hand-in is left
abbrev shared : List ℕ
shared = locked ++ (1 ∷ 0 ∷ 2 ∷ 2 ∷ [])

pub with_share : reach careful shared alice none ≡ 2 ^ success + 2 ^ revoke + 2 ^ timeout + 2 ^ spend_success + 2 ^ spend_timeout
unfolding brought
with_share = refl

pub too_late : reach careful (shared ++ mine) alice none ≡ 2 ^ revoke + 2 ^ timeout + 2 ^ spend_timeout
unfolding brought
too_late = refl

pub by_hand_in : reach stealthy (shared ++ mine) alice none ≡ 2 ^ success + 2 ^ revoke + 2 ^ timeout + 2 ^ spend_success + 2 ^ spend_timeout
unfolding brought
by_hand_in = refl

-- without Bob: once success is shared a careful Alice no longer sends refund_1, and once she holds secret_bob no longer refund_2; a loose
-- one does
abbrev loose : List ℕ
loose = 1 ∷ 0 ∷ 1 ∷ 0 ∷ []

abbrev given : List ℕ
given = shared ++ (2 ∷ 1 ∷ 3 ∷ 0 ∷ [])

pub no_refund1 : reach careful shared bob none ≡ 2 ^ revoke + 2 ^ refund2 + 2 ^ timeout + 2 ^ spend_refund2
unfolding brought
no_refund1 = refl

pub no_refund2 : reach careful given bob none ≡ 2 ^ revoke + 2 ^ timeout + 2 ^ spend_b
unfolding brought
no_refund2 = refl

pub loose_refunds : reach loose given bob none
    ≡ 2 ^ refund1 + 2 ^ revoke + 2 ^ refund2 + 2 ^ timeout + 2 ^ spend_b + 2 ^ spend_refund1_alice + 2 ^ spend_refund2
unfolding brought
loose_refunds = refl

-- where Alice sends refund_1 she shows her secret, and Bob can take coin B
pub with_refund : reach careful locked alice (eqb refund1) ≡ 2 ^ refund1 + 2 ^ revoke + 2 ^ timeout + 2 ^ spend_b + 2 ^ spend_timeout
unfolding brought
with_refund = refl

-- so it is once the pool shows refund_1, for which a bump is owed; once it is confirmed, its rivals and what is below them are dead
abbrev refunded : List ℕ
refunded = locked ++ mine ++ (3 ∷ 0 ∷ 3 ∷ 2 ∷ [])

pub refund_waits : reach careful refunded alice none ≡ 2 ^ refund1 + 2 ^ revoke + 2 ^ timeout + 2 ^ spend_b + 2 ^ spend_timeout
unfolding brought
refund_waits = refl

pub refund_done : reach careful (refunded ++ (7 ∷ 2 ∷ 3 ∷ 2 ∷ mine)) alice none ≡ 2 ^ spend_b
unfolding brought
refund_done = refl

-- open conduct: Bob, to whom Alice gave her signature, has revoke and spend_revoke, which pays him, in the pool. Both can come without
-- him, the second for him alone
abbrev quiet : List ℕ
quiet = 1 ∷ 0 ∷ 0 ∷ 0 ∷ []

abbrev sent : Position
sent = after quiet (confirmed 0 0 ++ (2 ∷ 0 ∷ 0 ∷ 1 ∷ (mine ++ mine ++ mine)) ++ (3 ∷ 1 ∷ 4 ∷ 2 ∷ 3 ∷ 1 ∷ 12 ∷ 1 ∷ []))

pub for_bob : (attainable (saswap 1) quiet sent bob none ≡ 2 ^ revoke + 2 ^ spend_revoke) × (attainable_elsewhere (saswap 1) quiet sent bob none ≡ 2 ^ revoke)
unfolding brought
for_bob = (refl, refl)

-- a ring of three: 0, 1 and 2 open the coins, each by one party's signature; 3 pays Alice or Bob by Alice's, 4 Bob or Carol by Bob's,
-- 5 Carol by Bob's and her own
abbrev ring : List ℕ
ring =
    134 ∷ 3 ∷ 0 ∷ 1 ∷ 2 ∷ 4
    ∷ 255 ∷ 0 ∷ 1 ∷ 0
    ∷ 255 ∷ 0 ∷ 2 ∷ 0
    ∷ 255 ∷ 0 ∷ 4 ∷ 0
    ∷ 0 ∷ 3 ∷ 1 ∷ 0
    ∷ 1 ∷ 6 ∷ 2 ∷ 0
    ∷ 2 ∷ 4 ∷ 6 ∷ 0
    ∷ 0 ∷ 0 ∷ 0 ∷ 0 ∷ 0 ∷ 0 ∷ 1 ∷ 2 ∷ 0 ∷ 0 ∷ 2 ∷ 1
    ∷ []

abbrev fresh : Position
fresh = position_of ring quiet []

-- without one party the two others bring their coins and what their keys, together, pay to them
pub ring_reach : (attainable ring quiet fresh alice none ≡ 2 ^ 1 + 2 ^ 2 + 2 ^ 4 + 2 ^ 5)
    × (attainable ring quiet fresh bob none ≡ 2 ^ 0 + 2 ^ 2 + 2 ^ 3)
    × (attainable ring quiet fresh carol none ≡ 2 ^ 0 + 2 ^ 1 + 2 ^ 3 + 2 ^ 4)
unfolding brought
ring_reach = (refl, refl, refl)

-- ---- the steps without a party

abbrev steps : List ℕ → List FourBytes
steps j = journal_steps j

-- Bob's send, the miner's steps, and four bytes of a kind that is none, are without Alice; her share, gift, send and hand-in are not
pub words_without : (without alice (steps (confirmed 1 4 ++ (9 ∷ 0 ∷ 0 ∷ 0 ∷ []))) ≡ true)
    × (without alice (steps (confirmed 0 4)) ≡ false)
    × (without alice (steps (1 ∷ 0 ∷ 2 ∷ 2 ∷ [])) ≡ false)
    × (without alice (steps (2 ∷ 0 ∷ 0 ∷ 1 ∷ [])) ≡ false)
    × (without alice (steps (4 ∷ 0 ∷ 3 ∷ 2 ∷ [])) ≡ false)
    × (without bob (steps (confirmed 1 4)) ≡ false)
unfolding brought
words_without = (refl, refl, refl, refl, refl, refl)

-- her send and hand-in of refund_1 are sends of it, a share of it or a send of another is not
pub words_sends : (sends_only alice (eqb refund1) (steps (confirmed 0 3 ++ (4 ∷ 0 ∷ 3 ∷ 2 ∷ []))) ≡ true)
    × (sends_only alice (eqb refund1) (steps (1 ∷ 0 ∷ 3 ∷ 2 ∷ [])) ≡ false)
    × (sends_only alice (eqb refund1) (steps (confirmed 0 4)) ≡ false)
    × (sends_only alice none (steps (confirmed 1 4)) ≡ true)
unfolding brought
words_sends = (refl, refl, refl, refl)

-- ---- the claim

sheet_passes : sheet_refusal (saswap 1) ≡ 0
unfolding opened
sheet_passes = refl

-- from the locks, Bob's revoke in block 5: foreseen without Alice
abbrev revoked : List FourBytes
revoked = steps (mine ++ mine ++ confirmed 1 4)

pub revoke_comes : is_confirmed (play (saswap 1) careful revoked (after careful locked)) revoke ≡ true
unfolding brought
revoke_comes = refl

pub revoke_foreseen : Foreseen (saswap 1) careful (after careful locked) (play (saswap 1) careful revoked (after careful locked)) alice none
unfolding brought
revoke_foreseen = (attainability (saswap 1) careful sheet_passes refl (steps locked) alice refl).nobody revoked refl

-- Alice's refund_1 in block 4 is not, neither for a destination other than hers; with sends of refund_1 it is
abbrev refunding : List FourBytes
refunding = steps (mine ++ (3 ∷ 0 ∷ 3 ∷ 2 ∷ 7 ∷ 2 ∷ 3 ∷ 2 ∷ mine))

pub refund_unforeseen : Foreseen (saswap 1) careful (after careful locked) (play (saswap 1) careful refunding (after careful locked)) alice none → ⊥
unfolding brought
refund_unforeseen f = either (f.confirmed refund1 (omega arith) refl) false≢true false≢true

pub refund_elsewhere : Foreseen (saswap 1) careful (after careful locked) (play (saswap 1) careful refunding (after careful locked)) alice none → ⊥
unfolding brought
refund_elsewhere f = either (f.elsewhere refund1 (omega arith) refl (λ e. omega (arith, e))) false≢true false≢true

pub refund_foreseen : Foreseen (saswap 1) careful (after careful locked) (play (saswap 1) careful refunding (after careful locked)) alice (eqb refund1)
unfolding brought
refund_foreseen = (attainability (saswap 1) careful sheet_passes refl (steps locked) alice refl).sending (eqb refund1) refunding refl

-- her share of success lets more come than before
pub share_grows : Foreseen (saswap 1) careful (after careful locked) (after careful shared) alice none → ⊥
unfolding brought
share_grows f = false≢true (f.fewer success (omega arith) refl)

-- the empty set is not closed: revoke comes
pub empty_open : Closed (saswap 1) careful (after careful locked) alice none 0 → ⊥
unfolding brought
empty_open c = false≢true (c revoke (omega arith) contract (omega arith) refl)
