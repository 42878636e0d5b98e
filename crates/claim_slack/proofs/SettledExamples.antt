-- The block being filled counts as confirmed where nothing can throw its entries out: by example.
-- Assumes nothing.
use Rattle.laws.proofs.Prelude.{ℕ, ◌≡◌, refl, true, false, List, [], ◌∷◌, all_below, any_below, joined, set_below}
use Rattle.position.proofs.Rules.{alice, bob, journal_steps, play}
use Rattle.position.specs.declared.Position.{Position}
use Rattle.laws.specs.Greatest.{greatest_to}
use Rattle.position.proofs.Opened.{opened}
use Rattle.soonest.specs.Soonest.{greater, lock_at, soonest_over, soonest_block, soonest_parent, since_locked}
use Rattle.claim_ledger.specs.Claim.{position_of}
use Rattle.attainable.specs.Attainable.{gone, secrets_of, other_keys, others_keys, shown_by, known_from, overdue, forgone, never_sent, waits_for, signable, comes, grown, rounds, attainable, attainable_elsewhere}
use Rattle.slack.specs.Beaten.{destination_of, above, can_come, can_come_elsewhere, fixed, runs, lock_beside, pooled, signs, locked_later, late, any_late, stands, waits_before, sooner, comes_beside, beats, last}
use Rattle.slack.specs.Kept.{known_at, unbeaten, free, comes_for_party, good_child, elsewhere_free, answered, good_by, good_rounds, good, paid, reached, kept_to, kept}
use Rattle.slack.specs.Settled.{throws_out, settles, settled}
use Rattle.slack.specs.Slack.{kept_settled, lasts}

unfoldable judged : Unit {0}
unfolding opened joined set_below all_below any_below greater lock_at soonest_over soonest_block soonest_parent since_locked
    gone secrets_of other_keys others_keys shown_by known_from overdue forgone never_sent waits_for signable comes grown rounds attainable attainable_elsewhere
    destination_of above can_come can_come_elsewhere fixed runs lock_beside pooled signs locked_later late any_late stands waits_before sooner comes_beside beats last
    known_at unbeaten free comes_for_party good_child elsewhere_free answered good_by good_rounds good paid reached kept_to kept throws_out settles settled kept_settled lasts
judged = tt

-- 0 opens a coin by Alice's signature; 1 pays Bob by his, 2 Alice by hers, 3 Alice by hers after one day
abbrev duel : List ℕ
duel =
    4 ∷ 2 ∷ 0 ∷ 1 ∷ 2
    ∷ 255 ∷ 0 ∷ 1 ∷ 0
    ∷ 0 ∷ 2 ∷ 2 ∷ 0
    ∷ 0 ∷ 1 ∷ 1 ∷ 0
    ∷ 0 ∷ 1 ∷ 1 ∷ 0
    ∷ 0 ∷ 0 ∷ 0 ∷ 0 ∷ 0 ∷ 0 ∷ 1 ∷ 1
    ∷ []

-- so many blocks per day, open conduct, stealth
abbrev stealthy : ℕ → List ℕ
stealthy per_day = per_day ∷ 0 ∷ 0 ∷ 1 ∷ []

-- 0 in block 1; then Alice hands 2 to the miner
abbrev handed : ℕ → Position
handed per_day =
    position_of duel (stealthy per_day)
    (journal_steps (3 ∷ 0 ∷ 0 ∷ 2 ∷ 5 ∷ 2 ∷ 0 ∷ 2 ∷ 6 ∷ 2 ∷ 255 ∷ 2 ∷ 4 ∷ 0 ∷ 2 ∷ 0 ∷ []))

-- a bump of 1, which Bob can send, throws 2 out only where the next block is its deadline
pub entry_settles : (settles duel (stealthy 3) (handed 3) alice 2 ≡ true)
    × (settles duel (stealthy 2) (handed 2) alice 2 ≡ false)
    × (throws_out duel (stealthy 2) (handed 2) alice 2 1 ≡ true)
    × (throws_out duel (stealthy 2) (handed 2) alice 2 3 ≡ false)
unfolding judged
entry_settles = (refl, refl, refl, refl)

-- as the position stands 1 may come first; the settled one pays Alice already
pub alice_settled : (kept duel (stealthy 3) (handed 3) alice 0 ≡ false)
    × (lasts duel (stealthy 3) (handed 3) alice 10000 ≡ true)
    × (lasts duel (stealthy 2) (handed 2) alice 0 ≡ false)
    × (lasts duel (stealthy 3) (handed 3) bob 0 ≡ false)
unfolding judged
alice_settled = (refl, refl, refl, refl)
