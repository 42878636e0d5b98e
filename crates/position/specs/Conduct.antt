-- Conduct: document 01's section of that name, with document 02's Slip 6. "Open: rules above. Loose and careful follow 001."
-- What a position supplies to the rules of the specs of steps.
-- Assumes nothing.
use Rattle.std.specs.Prelude.{ℕ, Bool, true, false, not, ◌&&◌, ◌||◌, List, eqb, leb}
use Rattle.laws.specs.Booleans.{pick}
use Rattle.laws.specs.Below.{any_below}
use Rattle.sheet.specs.Field.{count}
use Rattle.sheet.specs.Setup.{conduct}
use Rattle.slots.specs.declared.Step.{Step}
use Rattle.slots.specs.declared.Step.TheVariants.{Share, Give, SendToPool, HandToMiner, Include, Mine, Bump}
use Rattle.slots.specs.Destination.{alice, bob, contract, is_payee, is_contract}
use Rattle.position.specs.declared.Position.{Position}
use Rattle.position.specs.Position.{is_confirmed, sent, holds, shared, sender_has, deadline_in}
use Rattle.steps.specs.Names.{secret_bob, lock_a, lock_b, success, refund1}
use Rattle.steps.specs.Conduct.{alice_shares_rule, may_share_rule, alice_gives_rule, bob_gives_rule, may_give_rule, secret_safe_rule, safe_to_send_rule, send_allowed_rule}
use Rattle.steps.specs.Tests.{passes_rule}
use Rattle.position.specs.FirstShares.{first_shares_made}
use Rattle.position.specs.Tests.{pool_tests, miner_tests}

-- "conduct (0 open ..": "Open: rules above."
unfoldable pub is_open : List ℕ → Bool
is_open u = eqb (conduct u) 0

-- ".. 2 careful)": "Careful only"
unfoldable pub is_careful : List ℕ → Bool
is_careful u = eqb (conduct u) 2

-- "Phase 3: lock_B confirmed; else 2: lock_A confirmed; else 1: both first shares made; else 0."
unfoldable pub phase : Position → ℕ
phase p =
    pick (is_confirmed p lock_b) 3
    (pick (is_confirmed p lock_a) 2
    (pick (first_shares_made p alice && first_shares_made p bob) 1
    0))

-- "Late: blocks mined ≥ deadline of success."
unfoldable pub late : List ℕ → List ℕ → Position → Bool
late s u p = leb (deadline_in s u p success) p.mined

-- Alice's share of success
unfoldable pub alice_shares : List ℕ → List ℕ → Position → ℕ → Bool
unfolding alice_shares_rule
alice_shares s u p t = alice_shares_rule (phase p) (sent p refund1) (late s u p) t

-- a share of t, or of the first shares
unfoldable pub may_share : List ℕ → List ℕ → Position → ℕ → ℕ → Bool
unfolding may_share_rule
may_share s u p party t = may_share_rule (phase p) (alice_shares s u p t) party t

-- Alice's gift of sig_alice
unfoldable pub alice_gives : List ℕ → List ℕ → Position → ℕ → Bool
unfolding alice_gives_rule
alice_gives s u p i = alice_gives_rule (phase p) (holds p alice secret_bob) (late s u p) i

-- Bob's gift of secret_bob
unfoldable pub bob_gives : List ℕ → List ℕ → Position → ℕ → Bool
unfolding bob_gives_rule
bob_gives s u p i = bob_gives_rule (phase p) (sender_has s p bob success contract) (late s u p) i

-- a gift of signature i
unfoldable pub may_give : List ℕ → List ℕ → Position → ℕ → ℕ → Bool
unfolding may_give_rule
may_give s u p party i = may_give_rule (alice_gives s u p i) (bob_gives s u p i) party

-- "success has no shared entry (by a share, a pool send or a mined block)"
unfoldable pub success_unshared : Position → Bool
success_unshared p = eqb (shared p success contract) 0

-- t needs no secret_alice that Alice keeps
unfoldable pub secret_safe : List ℕ → Position → ℕ → Bool
unfolding secret_safe_rule
secret_safe s p t = secret_safe_rule s (holds p alice secret_bob) t

-- a careful party sends t
unfoldable pub safe_to_send : List ℕ → Position → ℕ → ℕ → Bool
unfolding safe_to_send_rule
safe_to_send s p party t = safe_to_send_rule (success_unshared p) (secret_safe s p t) party t

-- a send of t, but for paying first
unfoldable pub send_allowed : List ℕ → List ℕ → Position → ℕ → ℕ → Bool
unfolding send_allowed_rule
send_allowed s u p party t = send_allowed_rule (is_open u) (is_careful u) (phase p) (safe_to_send s p party t) party t

-- "whose send of some paying transaction would pass all these rules": of this one, to the party itself
unfoldable pub paying_passes : List ℕ → List ℕ → Position → ℕ → ℕ → Bool
unfolding passes_rule
paying_passes s u p party t =
    passes_rule (pool_tests (send_allowed s u p party t) s u p party t party) (miner_tests (send_allowed s u p party t) s u p party t party)

-- the same of some transaction that has the party for a payee
unfoldable pub can_pay : List ℕ → List ℕ → Position → ℕ → Bool
can_pay s u p party =
    any_below (count s) (λ t. elim (is_payee s t party) [ true ↦ paying_passes s u p party t | false ↦ false ])

-- "A party whose send of some paying transaction would pass all these rules sends no contract one."
unfoldable pub paying_first : List ℕ → List ℕ → Position → ℕ → ℕ → Bool
paying_first s u p party t = elim (is_careful u && is_contract s t) [ true ↦ not (can_pay s u p party) | false ↦ true ]

-- 13 "conduct": "a step of Alice or Bob not named below gets 13"; the miner has none
unfoldable pub conduct_allows : List ℕ → List ℕ → Position → Step → Bool
conduct_allows s u p (Share party t to) = is_open u || may_share s u p party t
conduct_allows s u p (Give party i to) = is_open u || may_give s u p party i
conduct_allows s u p (SendToPool party t to) = send_allowed s u p party t && paying_first s u p party t
conduct_allows s u p (HandToMiner party t to) = send_allowed s u p party t && paying_first s u p party t
conduct_allows s u p (Include party t to) = true
conduct_allows s u p (Mine party t to) = true
conduct_allows s u p (Bump party t to) = true
