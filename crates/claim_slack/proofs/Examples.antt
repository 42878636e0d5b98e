-- The words of specs/ by example: on a swap by hash and time locks, on a ring of three and on the SASwap sheet.
-- Assumes nothing.
use Rattle.laws.proofs.Prelude.{ℕ, ◌+◌, ◌≤◌, ◌≡◌, refl, Bool, true, false, false≢true, List, [], ◌∷◌, ◌++◌, eqb, leb, eqb-true, eqb-false, leb-true, leb-false, arith}
use Rattle.laws.proofs.Prelude.{split, clash, all_below, any_below, joined, set_below}
use Rattle.position.proofs.Rules.{sheet_refusal, never, saswap, setup_refusal, alice, bob, carol, is_party, journal_steps, play}
use Rattle.position.specs.declared.Position.{Position}
use Rattle.laws.specs.Greatest.{greatest_to}
use Rattle.position.proofs.Opened.{opened}
use Rattle.soonest.specs.Soonest.{greater, lock_at, soonest_over, soonest_block, soonest_parent, since_locked}
use Rattle.claim_ledger.specs.Claim.{position_of}
use Rattle.claim_attainable.specs.Words.{step_of, without}
use Rattle.attainable.specs.Attainable.{gone, secrets_of, other_keys, others_keys, shown_by, known_from, overdue, forgone, never_sent, waits_for, signable, comes, grown, rounds, attainable, attainable_elsewhere}
use Rattle.slack.specs.Beaten.{destination_of, above, can_come, can_come_elsewhere, fixed, runs, lock_beside, pooled, signs, locked_later, late, any_late, stands, waits_before, sooner, comes_beside, beats, last}
use Rattle.slack.specs.Kept.{known_at, unbeaten, free, comes_for_party, good_child, elsewhere_free, answered, good_by, good_rounds, good, paid, reached, kept_to, kept, longest}
use Rattle.slack.specs.Settled.{throws_out, settles, settled}
use Rattle.slack.specs.Slack.{kept_settled, lasts, slack}
use Rattle.claim_slack.specs.Claim.{AtLeast, Falling, Stays, Lasting}
use Rattle.claim_slack.proofs.Theorems.{slack_lasts}

unfoldable judged : Unit {0}
unfolding opened joined set_below all_below any_below greater lock_at soonest_over soonest_block soonest_parent since_locked
    gone secrets_of other_keys others_keys shown_by known_from overdue forgone never_sent waits_for signable comes grown rounds attainable attainable_elsewhere
    destination_of above can_come can_come_elsewhere fixed runs lock_beside pooled signs locked_later late any_late stands waits_before sooner comes_beside beats last
    known_at unbeaten free comes_for_party good_child elsewhere_free answered good_by good_rounds good paid reached kept_to kept throws_out settles settled kept_settled lasts greatest_to slack step_of without
judged = tt

-- a swap by hash and time locks: 0 locks coin A by Alice's signature, 1 coin B by Bob's; 2 pays Bob coin A by his and the secret, 3 Alice
-- by hers after two days; 4 pays Alice coin B by hers and the secret, which she holds, 5 Bob by his after one day
abbrev htlc : List ℕ
htlc =
    6 ∷ 3 ∷ 4 ∷ 5 ∷ 2
    ∷ 255 ∷ 0 ∷ 1 ∷ 0
    ∷ 255 ∷ 0 ∷ 2 ∷ 0
    ∷ 0 ∷ 2 ∷ 6 ∷ 0
    ∷ 0 ∷ 1 ∷ 1 ∷ 0
    ∷ 1 ∷ 1 ∷ 5 ∷ 0
    ∷ 1 ∷ 2 ∷ 2 ∷ 0
    ∷ 0 ∷ 0 ∷ 0 ∷ 0 ∷ 0 ∷ 0 ∷ 2 ∷ 2 ∷ 0 ∷ 0 ∷ 2 ∷ 1
    ∷ []

-- so many blocks per day, open conduct, no stealth
abbrev open_at : ℕ → List ℕ
open_at per_day = per_day ∷ 0 ∷ 0 ∷ 0 ∷ []

-- a block with nothing more; a party's send to the pool for a destination, included and mined
abbrev mine : List ℕ
mine = 6 ∷ 2 ∷ 255 ∷ 2 ∷ []

abbrev confirmed : ℕ → ℕ → ℕ → List ℕ
confirmed party t to = 3 ∷ party ∷ t ∷ to ∷ 5 ∷ 2 ∷ t ∷ 2 ∷ mine

-- lock_A in block 1, lock_B in block 2: Alice's refund is locked up to 7, Bob's up to 5, at 3 blocks per day
abbrev locked : List ℕ
locked = confirmed 0 0 2 ++ confirmed 1 1 2

-- Alice's claim of coin B, which shows the secret, in the next block; her gift of the secret to Bob
abbrev claimed : List ℕ
claimed = confirmed 0 4 0

abbrev gift : List ℕ
gift = 2 ∷ 0 ∷ 2 ∷ 1 ∷ []

abbrev after : ℕ → List ℕ → Position
after per_day journal = position_of htlc (open_at per_day) (journal_steps journal)

abbrev keeps : ℕ → List ℕ → ℕ → ℕ → Bool
keeps per_day journal x k = lasts htlc (open_at per_day) (after per_day journal) x k

-- ---- kept

-- after the locks nobody but Alice has the secret, so nothing comes before her refund, ever
pub alice_locked : (keeps 3 locked alice 10000 ≡ true) × (keeps 3 locked alice 10001 ≡ true)
unfolding judged
alice_locked = (refl, refl)

-- Bob counts on his refund; Alice's claim may come before it, which shows him the secret: he takes coin A while her refund is locked
pub bob_locked : (keeps 3 locked bob 4 ≡ true) × (keeps 3 locked bob 5 ≡ false)
unfolding judged
bob_locked = (refl, refl)

-- where a day is one block her refund is no longer locked by then: he has none from the start
pub bob_short : keeps 1 locked bob 0 ≡ false
unfolding judged
bob_short = refl

-- after her claim he counts on coin A, one block less; she is paid
pub bob_claims : (keeps 3 (locked ++ claimed) bob 3 ≡ true) × (keeps 3 (locked ++ claimed) bob 4 ≡ false)
unfolding judged
bob_claims = (refl, refl)

pub alice_paid : (paid htlc (after 3 (locked ++ claimed)) alice ≡ true)
    × (paid htlc (after 3 (locked ++ claimed)) bob ≡ false)
    × (paid htlc (after 3 locked) alice ≡ false)
    × (keeps 3 (locked ++ claimed) alice 10000 ≡ true)
unfolding judged
alice_paid = (refl, refl, refl, refl)

-- with her gift Bob can sign for coin A at once, and she counts on her claim, while his refund is locked
pub alice_gives_lem : (keeps 3 (locked ++ gift) alice 2 ≡ true) × (keeps 3 (locked ++ gift) alice 3 ≡ false)
unfolding judged
alice_gives_lem = (refl, refl)

-- ---- the slack

-- what is kept for k blocks and not for one more
module _ (s u : List ℕ) (p : Position) (x : ℕ) (f : Falling s u p x) where
  slack_is : (k : ℕ) → k ≤ longest → lasts s u p x k ≡ true → lasts s u p x (k + 1) ≡ false → slack s u p x ≡ k
  slack_is k l y n =
      let a = f.greatest k l y in
      let w = f.written a.0 in
      split (leb (slack s u p x) k)
      (λ z. let most = leb-true (slack s u p x) k z in let least = a.1 in omega (arith, most, least))
      (λ z. let more = leb-false (slack s u p x) k z in clash (f.fewer (slack s u p x) (k + 1) (omega (arith, more)) w.1) n)

  slack_never : lasts s u p x 0 ≡ false → slack s u p x ≡ never
  slack_never n =
      split (eqb (slack s u p x) never)
      (eqb-true (slack s u p x) never)
      (λ z. clash (f.fewer (slack s u p x) 0 (omega arith) (f.written (eqb-false (slack s u p x) never z)).1) n)

htlc_passes : (sheet_refusal htlc ≡ 0) × (setup_refusal htlc (open_at 3) ≡ 0) × (setup_refusal htlc (open_at 1) ≡ 0)
unfolding judged
htlc_passes = (refl, refl, refl)

htlc_bob : is_party htlc bob ≡ true
unfolding judged
htlc_bob = refl

lasts_bob : Lasting htlc (open_at 3) (journal_steps locked) bob
lasts_bob = slack_lasts htlc (open_at 3) htlc_passes.0 htlc_passes.1 (journal_steps locked) bob htlc_bob

pub alice_slack : slack htlc (open_at 3) (after 3 locked) alice ≡ 10000
unfolding judged
alice_slack = refl

pub bob_slack : slack htlc (open_at 3) (after 3 locked) bob ≡ 4
bob_slack = slack_is htlc (open_at 3) (after 3 locked) bob lasts_bob.falling 4 (omega arith) bob_locked.0 bob_locked.1

pub bob_none : slack htlc (open_at 1) (after 1 locked) bob ≡ never
bob_none =
    slack_never htlc (open_at 1) (after 1 locked) bob
    (slack_lasts htlc (open_at 1) htlc_passes.0 htlc_passes.2 (journal_steps locked) bob htlc_bob).falling bob_short

-- ---- the claim

-- her claim is a list without Bob that mines one block: 4 before, 3 after it
abbrev then : List ℕ → Position
then journal = play htlc (open_at 3) (journal_steps journal) (after 3 locked)

claim_words : (without bob (journal_steps claimed) ≡ true) × ((then claimed).mined ≡ (after 3 locked).mined + 1)
unfolding judged
claim_words = (refl, refl)

pub bob_keeps : lasts htlc (open_at 3) (then claimed) bob 3 ≡ true
bob_keeps = (lasts_bob.stays (journal_steps claimed) claim_words.0).keeps 4 1 (omega arith) claim_words.1 (omega arith) bob_locked.0

pub bob_remains : AtLeast htlc (open_at 3) (then claimed) bob 3
bob_remains =
    (lasts_bob.stays (journal_steps claimed) claim_words.0).remains 4 1 claim_words.1 (omega arith)
    (lasts_bob.falling.greatest 4 (omega arith) bob_locked.0)

-- it does not keep 4 blocks, and her gift, a step of hers, keeps her no 3
pub bob_not_more : lasts htlc (open_at 3) (then claimed) bob 4 ≡ false
unfolding judged
bob_not_more = refl

pub gift_loses : Stays htlc (open_at 3) (after 3 locked) (then gift) alice → ⊥
unfolding judged
gift_loses f = false≢true (f.keeps 3 0 (omega arith) refl (omega arith) refl)

pub gift_words : (without alice (journal_steps gift) ≡ false) × (without bob (journal_steps gift) ≡ true)
unfolding judged
gift_words = (refl, refl)

-- ---- a ring of three: 0, 1 and 2 open the coins, each by one party's signature; 3 pays Alice or Bob by Alice's, 4 Bob or Carol by Bob's,
-- 5 Carol by Bob's and her own

abbrev ring : List ℕ
ring =
    134 ∷ 3 ∷ 0 ∷ 1 ∷ 2 ∷ 4
    ∷ 255 ∷ 0 ∷ 1 ∷ 0
    ∷ 255 ∷ 0 ∷ 2 ∷ 0
    ∷ 255 ∷ 0 ∷ 4 ∷ 0
    ∷ 0 ∷ 3 ∷ 1 ∷ 0
    ∷ 1 ∷ 6 ∷ 2 ∷ 0
    ∷ 2 ∷ 4 ∷ 6 ∷ 0
    ∷ 0 ∷ 0 ∷ 0 ∷ 0 ∷ 0 ∷ 0 ∷ 1 ∷ 2 ∷ 0 ∷ 0 ∷ 2 ∷ 1
    ∷ []

abbrev ringed : List ℕ → Position
ringed journal = position_of ring (open_at 3) (journal_steps journal)

-- Alice and Bob sign for their coins alone; Carol has nothing to count on before Bob has shared his signature for hers
pub ring_kept : (lasts ring (open_at 3) (ringed []) alice 10000 ≡ true)
    × (lasts ring (open_at 3) (ringed []) bob 10000 ≡ true)
    × (lasts ring (open_at 3) (ringed []) carol 0 ≡ false)
    × (lasts ring (open_at 3) (ringed (1 ∷ 1 ∷ 5 ∷ 3 ∷ [])) carol 10000 ≡ true)
unfolding judged
ring_kept = (refl, refl, refl, refl)

-- ---- the SASwap sheet, careful, at 1 block per day: both first shares, the locks in blocks 1 and 2, Bob's revoke in block 5

abbrev careful : List ℕ
careful = 1 ∷ 0 ∷ 2 ∷ 0 ∷ []

abbrev revoked : Position
revoked =
    position_of (saswap 1) careful
    (journal_steps ((1 ∷ 0 ∷ 255 ∷ 2 ∷ 1 ∷ 1 ∷ 255 ∷ 2 ∷ []) ++ locked ++ mine ++ mine ++ confirmed 1 4 2))

-- Alice counts on refund_2 up to the block before timeout's; Bob keeps his for good, since refund_2 shows him her secret
pub saswap_kept : (lasts (saswap 1) careful revoked alice 1 ≡ true)
    × (lasts (saswap 1) careful revoked alice 2 ≡ false)
    × (lasts (saswap 1) careful revoked bob 10000 ≡ true)
unfolding judged
saswap_kept = (refl, refl, refl)
