-- What holds in every position that careful conduct on the SASwap sheet leads to, beside what holds in every sound one.
-- Assumes nothing.
use Rattle.laws.proofs.Prelude.{ℕ, ◌+◌, ◌*◌, ◌<◌, ◌≡◌, true, List, ◌⊎◌, bit}
use Rattle.position.proofs.Rules.{per_day, alice, bob, contract, destinations, in_pool, block_of, shared, holds, sig_alice, sig_bob, secret_alice, secret_bob, lock_a}
use Rattle.position.specs.declared.Position.{Position}
use Rattle.position.proofs.Rules.{success, refund1, revoke, refund2, spend_a, spend_b}
use Rattle.step_laws.proofs.Provenance.{Stands}
use Rattle.claim_careful.proofs.Table.{BothSign}
use Rattle.claim_known.specs.Heights.{refund1_height, revoke_height}
use Rattle.claim_careful.proofs.Places.{Anywhere}

-- signature i of t is shared for the contract
abbrev pub Shows : Position → ℕ → ℕ → Type 0
Shows p t i = bit (shared p t contract) i ≡ true

-- success has a shared signature
abbrev pub SuccessShared : Position → Type 0
SuccessShared p = (i : ℕ) × Shows p success i

-- an entry of t for this destination, or a signature shared for it
abbrev pub Touched : Position → ℕ → ℕ → Type 0
Touched p t e = Stands p t e ⊎ ((i : ℕ) × (bit (shared p t e) i ≡ true))

-- confirmed, or in the pool before this height
abbrev pub Due : Position → ℕ → ℕ → Type 0
Due p t height = (0 < block_of p t) ⊎ ((in_pool p t ≡ true) × (p.mined < height))

-- Alice may have secret_bob; secret_alice is shared
abbrev pub SecretBobOut : Position → Type 0
SecretBobOut p = (holds p alice secret_bob ≡ true) ⊎ Shows p success secret_bob

abbrev pub SecretAliceOut : Position → Type 0
SecretAliceOut p = Shows p refund1 secret_alice ⊎ Shows p refund2 secret_alice

pub record Invariant (u : List ℕ) (p : Position) : Type 0 where
  -- no party gets these keys
  pub sig_bob_kept : holds p alice sig_bob ≡ true → ⊥
  pub secret_alice_kept : holds p bob secret_alice ≡ true → ⊥
  -- secret_bob is given against a share of success, sig_alice against secret_bob
  pub secret_bob_given : holds p alice secret_bob ≡ true → SuccessShared p
  pub sig_alice_given : holds p bob sig_alice ≡ true → holds p alice secret_bob ≡ true
  -- lock_A comes first
  pub lock_a_first : (t : ℕ) → Anywhere p t → (t ≡ lock_a) ⊎ (0 < block_of p lock_a)
  -- what pays with sig_alice and sig_bob never pays Alice, and pays Bob only with the key sig_alice
  pub alice_unpaid : (t : ℕ) → BothSign t → Touched p t alice → ⊥
  pub bob_keyed : (t : ℕ) → BothSign t → Touched p t bob → holds p bob sig_alice ≡ true
  -- refund_1 excludes a shared success, refund_2 that Alice holds secret_bob
  pub refund1_alone : Anywhere p refund1 → SuccessShared p → ⊥
  pub refund2_alone : Anywhere p refund2 → holds p alice secret_bob ≡ true → ⊥
  -- where the secrets are shared
  pub secret_alice_at : (t e : ℕ) → e < destinations → bit (shared p t e) secret_alice ≡ true
      → (e ≡ contract) × ((t ≡ refund1) ⊎ (t ≡ refund2))
  pub secret_bob_at : (t e : ℕ) → e < destinations → bit (shared p t e) secret_bob ≡ true → (e ≡ contract) × (t ≡ success)
  -- a transaction that has exposed its secret is confirmed, or waits in the pool before its deadline; success may have lost to spend_A
  pub success_due : Shows p success secret_bob → (0 < block_of p spend_a) ⊎ Due p success (refund1_height (per_day u))
  pub refund1_due : Shows p refund1 secret_alice → Due p refund1 (revoke_height (per_day u))
  pub refund2_due : Shows p refund2 secret_alice → Due p refund2 (block_of p revoke + 2 * per_day u)
  -- success anywhere is shared
  pub success_shared : Anywhere p success → SuccessShared p
  -- spend_B needs the other's secret
  pub spend_b_alice : Stands p spend_b alice → SecretBobOut p
  pub spend_b_bob : Stands p spend_b bob → SecretAliceOut p
