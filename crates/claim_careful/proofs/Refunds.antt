-- Bob never locks: three blocks per day, careful conduct, computed. Alice gets coin A back by refund_1, or by revoke and refund_2, and Bob takes no step after the
-- first shares.
-- Assumes nothing.
use Rattle.laws.proofs.Prelude.{ℕ, ◌≡◌, refl, Bool, true, false, not, List, [], ◌∷◌, ◌++◌, eqb, length, every}
use Rattle.position.proofs.Rules.{accepted, step_conduct, saswap, alice, bob, contract, nobody, FourBytes, journal_steps, run}
use Rattle.position.proofs.Opened.{opened}
use Rattle.claim_careful.specs.Claim.{in_shared, held_by_other, known}
use Rattle.claim_careful.proofs.Examples.{Comes}

-- 3 a day, careful, stealth 0
abbrev setup : List ℕ
setup = 3 ∷ 0 ∷ 2 ∷ 0 ∷ []

abbrev mine : List ℕ
mine = 6 ∷ 2 ∷ 255 ∷ 2 ∷ []

-- "each as one step (transaction 255, destination 2)"
abbrev first_shares : List ℕ
first_shares = 1 ∷ 0 ∷ 255 ∷ 2 ∷ 1 ∷ 1 ∷ 255 ∷ 2 ∷ []

-- this party's send of a transaction to the pool, included and mined
abbrev confirmed : ℕ → ℕ → ℕ → List ℕ
confirmed party t destination = 3 ∷ party ∷ t ∷ destination ∷ 5 ∷ 2 ∷ t ∷ 2 ∷ mine

-- lock_A in block 1
abbrev locked : List ℕ
locked = confirmed 0 0 2

-- refund_1 at its lock height, 3, and in block 4; spend_refund_1_alice a day later, in block 8
abbrev by_refund1 : List ℕ
by_refund1 = mine ++ mine ++ confirmed 0 3 2 ++ mine ++ mine ++ mine ++ confirmed 0 11 0

-- revoke at its lock height, 6, and in block 7; refund_2 a day later, in block 11; spend_refund_2 in block 12
abbrev by_refund2 : List ℕ
by_refund2 =
    mine ++ mine ++ mine ++ mine ++ mine ++ confirmed 0 4 2
    ++ mine ++ mine ++ mine ++ confirmed 0 5 2
    ++ confirmed 0 13 0

-- no step of the journal is this party's
unfoldable pub idle : ℕ → List ℕ → Bool
idle party j = every (λ (b : FourBytes). not (eqb b.party party)) (journal_steps j)

-- after the first shares the journal is accepted whole, no step of it is Bob's, and in the end Alice is the holder of coin A, coin B has none, and of the secrets
-- Alice's alone is known
pub record Refunds (journal : List ℕ) : Type 0 where
  pub comes : Comes setup (first_shares ++ journal) accepted true false alice nobody
  pub whole : (run (saswap 3) setup (first_shares ++ journal)).accepted ≡ length (journal_steps (first_shares ++ journal))
  pub alone : idle bob journal ≡ true

pub refunds_by_refund1 : Refunds (locked ++ by_refund1)
unfolding opened idle known in_shared held_by_other
refunds_by_refund1 = record { comes = record { refusal = refl; secret_alices = refl; secret_bobs = refl; coin_a = refl; coin_b = refl }; whole = refl; alone = refl }

pub refunds_by_refund2 : Refunds (locked ++ by_refund2)
unfolding opened idle known in_shared held_by_other
refunds_by_refund2 = record { comes = record { refusal = refl; secret_alices = refl; secret_bobs = refl; coin_a = refl; coin_b = refl }; whole = refl; alone = refl }

-- before that the coin is in the contract
pub locked_only : Comes setup (first_shares ++ locked) accepted false false contract nobody
unfolding opened known in_shared held_by_other
locked_only = record { refusal = refl; secret_alices = refl; secret_bobs = refl; coin_a = refl; coin_b = refl }

-- there a share of success gets 13; with lock_B confirmed it would pass
pub shares_nothing : Comes setup (first_shares ++ locked ++ (1 ∷ 0 ∷ 2 ∷ 2 ∷ [])) step_conduct false false contract nobody
unfolding opened known in_shared held_by_other
shares_nothing = record { refusal = refl; secret_alices = refl; secret_bobs = refl; coin_a = refl; coin_b = refl }

pub shares_later : Comes setup (first_shares ++ locked ++ confirmed 1 1 2 ++ (1 ∷ 0 ∷ 2 ∷ 2 ∷ [])) accepted false false contract contract
unfolding opened known in_shared held_by_other
shares_later = record { refusal = refl; secret_alices = refl; secret_bobs = refl; coin_a = refl; coin_b = refl }

-- a journal with Bob's lock_B has a step of his
pub locks_both : idle bob (locked ++ confirmed 1 1 2) ≡ false
unfolding opened idle
locks_both = refl
