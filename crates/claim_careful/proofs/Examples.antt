-- Three blocks per day, computed: a careful swap in which each party is paid once and one secret is known, a loose journal after
-- which both secrets are known and Alice is paid from both coins, an open one in which Bob is; and by what a secret is known.
-- Assumes nothing.
use Rattle.laws.proofs.Prelude.{ℕ, ◌≡◌, refl, Bool, true, false, ◌&&◌, ◌||◌, List, [], ◌∷◌, ◌++◌, eqb, Bool·beq, clash, every}
use Rattle.position.proofs.Rules.{accepted, step_conduct, saswap, alice, bob, contract, secret_alice, secret_bob, lock_a, lock_b, run, holder_in}
use Rattle.position.proofs.Opened.{opened}
use Rattle.claim_careful.specs.Claim.{in_shared, held_by_other, known, PaidOnce}

-- first shares, lock_A in block 1, lock_B in block 2; Alice shares success and Bob gives secret_bob
abbrev swap : List ℕ
swap =
    1 ∷ 0 ∷ 255 ∷ 2
    ∷ 1 ∷ 1 ∷ 255 ∷ 2
    ∷ 3 ∷ 0 ∷ 0 ∷ 2
    ∷ 5 ∷ 2 ∷ 0 ∷ 2
    ∷ 6 ∷ 2 ∷ 255 ∷ 2
    ∷ 3 ∷ 1 ∷ 1 ∷ 2
    ∷ 5 ∷ 2 ∷ 1 ∷ 2
    ∷ 6 ∷ 2 ∷ 255 ∷ 2
    ∷ 1 ∷ 0 ∷ 2 ∷ 2
    ∷ 2 ∷ 1 ∷ 3 ∷ 0
    ∷ []

-- Bob sends success, which a bump brings into block 3; then spend_success and spend_B
abbrev success : List ℕ
success =
    3 ∷ 1 ∷ 2 ∷ 2
    ∷ 7 ∷ 2 ∷ 2 ∷ 2
    ∷ 6 ∷ 2 ∷ 255 ∷ 2
    ∷ 3 ∷ 1 ∷ 9 ∷ 1
    ∷ 3 ∷ 0 ∷ 8 ∷ 0
    ∷ 5 ∷ 2 ∷ 9 ∷ 2
    ∷ 5 ∷ 2 ∷ 8 ∷ 2
    ∷ 6 ∷ 2 ∷ 255 ∷ 2
    ∷ []

-- Alice lets success pass its deadline and sends refund_1 after all, block 4; then spend_refund_1_alice and spend_B
abbrev refund : List ℕ
refund =
    6 ∷ 2 ∷ 255 ∷ 2
    ∷ 3 ∷ 0 ∷ 3 ∷ 2
    ∷ 5 ∷ 2 ∷ 3 ∷ 2
    ∷ 6 ∷ 2 ∷ 255 ∷ 2
    ∷ 6 ∷ 2 ∷ 255 ∷ 2
    ∷ 6 ∷ 2 ∷ 255 ∷ 2
    ∷ 6 ∷ 2 ∷ 255 ∷ 2
    ∷ 3 ∷ 0 ∷ 11 ∷ 0
    ∷ 3 ∷ 0 ∷ 8 ∷ 0
    ∷ 5 ∷ 2 ∷ 11 ∷ 2
    ∷ 5 ∷ 2 ∷ 8 ∷ 2
    ∷ 6 ∷ 2 ∷ 255 ∷ 2
    ∷ []

-- what a journal comes to on the SASwap sheet: its refusal number, which secrets are known, who holds the coins
pub record Comes (setup journal : List ℕ) (number : ℕ) (alices bobs : Bool) (holder_a holder_b : ℕ) : Type 0 where
  pub refusal : (run (saswap 3) setup journal).refusal ≡ number
  pub secret_alices : known (saswap 3) (run (saswap 3) setup journal).position secret_alice ≡ alices
  pub secret_bobs : known (saswap 3) (run (saswap 3) setup journal).position secret_bob ≡ bobs
  pub coin_a : holder_in (saswap 3) (run (saswap 3) setup journal).position lock_a ≡ holder_a
  pub coin_b : holder_in (saswap 3) (run (saswap 3) setup journal).position lock_b ≡ holder_b

-- under careful conduct the swap goes through, with secret_bob known and secret_alice not
pub careful_swap : Comes (3 ∷ 0 ∷ 2 ∷ 0 ∷ []) (swap ++ success) accepted false true bob alice
unfolding opened known in_shared held_by_other
careful_swap = record { refusal = refl; secret_alices = refl; secret_bobs = refl; coin_a = refl; coin_b = refl }

-- under loose conduct Alice takes both coins, and both secrets are known
pub loose_refund : Comes (3 ∷ 0 ∷ 1 ∷ 0 ∷ []) (swap ++ refund) accepted true true alice alice
unfolding opened known in_shared held_by_other
loose_refund = record { refusal = refl; secret_alices = refl; secret_bobs = refl; coin_a = refl; coin_b = refl }

-- which careful conduct refuses
pub careful_refund : Comes (3 ∷ 0 ∷ 2 ∷ 0 ∷ []) (swap ++ refund) step_conduct false true contract contract
unfolding opened known in_shared held_by_other
careful_refund = record { refusal = refl; secret_alices = refl; secret_bobs = refl; coin_a = refl; coin_b = refl }

-- open: lock_A in block 1, lock_B in block 2
abbrev locked : List ℕ
locked =
    3 ∷ 0 ∷ 0 ∷ 2
    ∷ 5 ∷ 2 ∷ 0 ∷ 2
    ∷ 6 ∷ 2 ∷ 255 ∷ 2
    ∷ 3 ∷ 1 ∷ 1 ∷ 2
    ∷ 5 ∷ 2 ∷ 1 ∷ 2
    ∷ 6 ∷ 2 ∷ 255 ∷ 2
    ∷ []

-- Alice gives sig_alice and secret_alice; Bob sends spend_A, which is bumped, and spend_B
abbrev given : List ℕ
given =
    2 ∷ 0 ∷ 0 ∷ 1
    ∷ 2 ∷ 0 ∷ 2 ∷ 1
    ∷ 3 ∷ 1 ∷ 7 ∷ 1
    ∷ 3 ∷ 1 ∷ 8 ∷ 1
    ∷ 7 ∷ 2 ∷ 7 ∷ 2
    ∷ 5 ∷ 2 ∷ 8 ∷ 2
    ∷ 6 ∷ 2 ∷ 255 ∷ 2
    ∷ []

-- open, stealth 1
abbrev open_setup : List ℕ
open_setup = 3 ∷ 0 ∷ 0 ∷ 1 ∷ []

-- under open conduct Bob can take both coins
pub open_gifts : Comes open_setup (locked ++ given) accepted true false bob bob
unfolding opened known in_shared held_by_other
open_gifts = record { refusal = refl; secret_alices = refl; secret_bobs = refl; coin_a = refl; coin_b = refl }

-- the holders after a journal, read from the position
abbrev held_after : List ℕ → List ℕ → ℕ → ℕ
held_after setup journal = holder_in (saswap 3) (run (saswap 3) setup journal).position

-- so "no party is paid from both coins" is false there, of Bob, and in the loose journal, of Alice
pub bob_paid_twice : PaidOnce (saswap 3) (held_after open_setup (locked ++ given)) → ⊥
unfolding opened
bob_paid_twice h = clash refl (h bob)

pub alice_paid_twice : PaidOnce (saswap 3) (held_after (3 ∷ 0 ∷ 1 ∷ 0 ∷ []) (swap ++ refund)) → ⊥
unfolding opened
alice_paid_twice h = clash refl (h alice)

-- a secret after a journal: whether it is in shared knowledge, whether a party that did not have it at the start holds it
pub record Knowledge : Type 0 where
  pub journal : List ℕ
  pub secret : ℕ
  pub by_share : Bool
  pub by_key : Bool

-- the journal is accepted, and the secret is known by these alone
unfoldable pub knows : Knowledge → Bool
knows k =
    let r = run (saswap 3) open_setup k.journal in
    eqb r.refusal accepted
    && (Bool·beq (in_shared (saswap 3) r.position k.secret) k.by_share
    && (Bool·beq (held_by_other (saswap 3) r.position k.secret) k.by_key
    && Bool·beq (known (saswap 3) r.position k.secret) (k.by_share || k.by_key)))

-- Bob shares refund_1; Alice can sign it at 3 blocks
abbrev refundable : List ℕ
refundable = locked ++ (1 ∷ 1 ∷ 3 ∷ 2 ∷ 6 ∷ 2 ∷ 255 ∷ 2 ∷ [])

unfoldable pub knowledge : List Knowledge
knowledge =
    -- at first each secret is its owner's
    record { journal = []; secret = secret_alice; by_share = false; by_key = false }
    ∷ record { journal = []; secret = secret_bob; by_share = false; by_key = false }
    -- given, and so held by the other party
    ∷ record { journal = 2 ∷ 0 ∷ 2 ∷ 1 ∷ []; secret = secret_alice; by_share = false; by_key = true }
    ∷ record { journal = 2 ∷ 0 ∷ 2 ∷ 1 ∷ []; secret = secret_bob; by_share = false; by_key = false }
    ∷ record { journal = 2 ∷ 1 ∷ 3 ∷ 0 ∷ []; secret = secret_bob; by_share = false; by_key = true }
    ∷ record { journal = 2 ∷ 1 ∷ 3 ∷ 0 ∷ []; secret = secret_alice; by_share = false; by_key = false }
    -- a share keeps secrets; a send to the pool shares them
    ∷ record { journal = refundable; secret = secret_alice; by_share = false; by_key = false }
    ∷ record { journal = refundable ++ (3 ∷ 0 ∷ 3 ∷ 2 ∷ []); secret = secret_alice; by_share = true; by_key = false }
    ∷ record { journal = refundable ++ (3 ∷ 0 ∷ 3 ∷ 2 ∷ []); secret = secret_bob; by_share = false; by_key = false }
    -- a hand-in does with its block
    ∷ record { journal = refundable ++ (4 ∷ 0 ∷ 3 ∷ 2 ∷ []); secret = secret_alice; by_share = false; by_key = false }
    ∷ record { journal = refundable ++ (4 ∷ 0 ∷ 3 ∷ 2 ∷ 6 ∷ 2 ∷ 255 ∷ 2 ∷ []); secret = secret_alice; by_share = true; by_key = false }
    -- Bob's by success; given and then shared
    ∷ record { journal = locked ++ (1 ∷ 0 ∷ 2 ∷ 2 ∷ 3 ∷ 1 ∷ 2 ∷ 2 ∷ []); secret = secret_bob; by_share = true; by_key = false }
    ∷ record { journal = locked ++ (1 ∷ 0 ∷ 2 ∷ 2 ∷ 2 ∷ 1 ∷ 3 ∷ 0 ∷ 3 ∷ 1 ∷ 2 ∷ 2 ∷ []); secret = secret_bob; by_share = true; by_key = true }
    -- spend_B is veiled
    ∷ record { journal = locked ++ given; secret = secret_bob; by_share = false; by_key = false }
    ∷ []

-- the one fact about them
pub all_known : every knows knowledge ≡ true
unfolding opened known in_shared held_by_other knows knowledge
all_known = refl
