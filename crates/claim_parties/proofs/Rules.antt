-- The rules of a step are the same on two sheets with the same transactions, under open conduct.
-- Assumes nothing.
use Rattle.laws.proofs.Prelude.{ℕ, ◌≡◌, refl, fun_ext, true, List, [], ◌∷◌}
use Rattle.position.proofs.Rules.{conduct, Step, Share, Give, SendToPool, HandToMiner, Include, Mine, Bump, contract, confirm_entry, lock_height_in, deadline_in}
use Rattle.position.proofs.Rules.{sender_has, owed, any_owed, enters, share_met, share_tests, send_tests, pool_tests, miner_tests, include_tests, mine_tests, bump_tests}
use Rattle.position.proofs.Rules.{is_open, is_careful, send_allowed, paying_first, conduct_allows, step_refusal, first_shares, change_slots, share_one, share_each, after_share}
use Rattle.position.proofs.Rules.{after_send, leaves_pool, mine_slot, after_mine, leaves_block, bump_slot, after_bump, effect}
use Rattle.position.specs.Tests.{block_met}
use Rattle.position.specs.StepRefusal.{tests}
use Rattle.position.specs.declared.Position.{Position}
use Rattle.claim_parties.specs.Renaming.{SameTransactions}
use Rattle.claim_parties.proofs.Leaves.{no_conflict_lem, line_same, meets_conflict_lem, meets_other_lem, has_parent_lem, lock_height_lem, deadline_same, shared_secrets_lem, signed_same, share_mask_lem, exposed_mask_lem}

-- "Open: rules above."
pub conduct_open : (u : List ℕ) → conduct u ≡ 0 → (s : List ℕ) (p : Position) (x : Step) → conduct_allows s u p x ≡ true
unfolding conduct_allows is_open send_allowed paying_first is_careful
conduct_open u o s p (Share party t to) = rw o
conduct_open u o s p (Give party i to) = rw o
conduct_open u o s p (SendToPool party t to) = rw (o, paying_first)
conduct_open u o s p (HandToMiner party t to) = rw (o, paying_first)
conduct_open u o s p (Include party t to) = refl
conduct_open u o s p (Mine party t to) = refl
conduct_open u o s p (Bump party t to) = refl

module _ (s w : List ℕ) (a : SameTransactions s w) where
  pub lock_in : lock_height_in w ≡ lock_height_in s
  unfolding lock_height_in
  lock_in = fun_ext (λ u. fun_ext (λ p. fun_ext (λ t. rw (lock_height_lem s w a))))

  pub deadline_in_lem : deadline_in w ≡ deadline_in s
  unfolding deadline_in
  deadline_in_lem = fun_ext (λ u. fun_ext (λ p. fun_ext (λ t. rw (deadline_same s w a))))

  sender_has_lem : sender_has w ≡ sender_has s
  unfolding sender_has
  sender_has_lem = fun_ext (λ p. fun_ext (λ party. fun_ext (λ t. fun_ext (λ d. rw (shared_secrets_lem s w a)))))

  owed_same : owed w ≡ owed s
  unfolding owed
  owed_same = fun_ext (λ u. fun_ext (λ p. fun_ext (λ t. rw deadline_in_lem)))

  any_owed_lem : any_owed w ≡ any_owed s
  unfolding any_owed
  any_owed_lem = fun_ext (λ u. fun_ext (λ p. rw (a.counts, owed_same)))

  enters_same : enters w ≡ enters s
  unfolding enters
  enters_same = fun_ext (λ p. fun_ext (λ t. fun_ext (λ k. rw (line_same s w a))))

  share_met_lem : share_met w ≡ share_met s
  unfolding share_met
  share_met_lem = fun_ext (λ p. fun_ext (λ party. fun_ext (λ t. fun_ext (λ d. rw (share_mask_lem s w a)))))

  send_tests_lem : send_tests true w ≡ send_tests true s
  unfolding send_tests
  send_tests_lem =
      fun_ext (λ u. fun_ext (λ p. fun_ext (λ there. fun_ext (λ party. fun_ext (λ t. fun_ext (λ d.
      rw (no_conflict_lem s w a, has_parent_lem s w a, lock_in, sender_has_lem, signed_same s w a)))))))

  pool_tests_lem : pool_tests true w ≡ pool_tests true s
  unfolding pool_tests
  pool_tests_lem = fun_ext (λ u. fun_ext (λ p. fun_ext (λ party. fun_ext (λ t. fun_ext (λ d. rw (send_tests_lem, deadline_in_lem))))))

  miner_tests_lem : miner_tests true w ≡ miner_tests true s
  unfolding miner_tests
  miner_tests_lem = fun_ext (λ u. fun_ext (λ p. fun_ext (λ party. fun_ext (λ t. fun_ext (λ d. rw send_tests_lem)))))

  -- the same tests with the same outcomes
  pub tests_same : (u : List ℕ) → conduct u ≡ 0 → (p : Position) (x : Step) → tests w u p x ≡ tests s u p x
  unfolding tests share_tests include_tests mine_tests block_met bump_tests
  tests_same u o p (Share party t to) = rw (conduct_open u o w p (Share party t to), conduct_open u o s p (Share party t to), share_met_lem)
  tests_same u o p (Give party i to) = rw (conduct_open u o w p (Give party i to), conduct_open u o s p (Give party i to))
  tests_same u o p (SendToPool party t to) =
      rw (conduct_open u o w p (SendToPool party t to), conduct_open u o s p (SendToPool party t to), pool_tests_lem)
  tests_same u o p (HandToMiner party t to) =
      rw (conduct_open u o w p (HandToMiner party t to), conduct_open u o s p (HandToMiner party t to), miner_tests_lem)
  tests_same u o p (Include party t to) = rw (no_conflict_lem s w a, has_parent_lem s w a, any_owed_lem)
  tests_same u o p (Mine party t to) = rw (any_owed_lem, a.counts)
  tests_same u o p (Bump party t to) = rw owed_same

  pub refusal_same : (u : List ℕ) → conduct u ≡ 0 → (p : Position) (x : Step) → step_refusal w u p x ≡ step_refusal s u p x
  unfolding step_refusal
  refusal_same u o p x = rw (tests_same u o p x)

  share_one_lem : share_one w ≡ share_one s
  unfolding share_one
  share_one_lem = fun_ext (λ party. fun_ext (λ t. fun_ext (λ d. fun_ext (λ p. rw (share_mask_lem s w a)))))

  share_each_lem : (party : ℕ) (l : List ℕ) (p : Position) → share_each w party l p ≡ share_each s party l p
  unfolding share_each
  share_each_lem party [] p = refl
  share_each_lem party (t ∷ l) p = rw share_one_lem (share_each_lem party l (share_one s party t contract p))

  leaves_pool_lem : leaves_pool w ≡ leaves_pool s
  unfolding leaves_pool
  leaves_pool_lem = fun_ext (λ m. fun_ext (λ t. rw (meets_other_lem s w a)))

  mine_slot_lem : mine_slot w ≡ mine_slot s
  unfolding mine_slot confirm_entry
  mine_slot_lem = fun_ext (λ p. fun_ext (λ t. fun_ext (λ x. rw (leaves_pool_lem, exposed_mask_lem s w a))))

  bump_slot_lem : bump_slot w ≡ bump_slot s
  unfolding bump_slot leaves_block
  bump_slot_lem = fun_ext (λ p. fun_ext (λ b. fun_ext (λ k. fun_ext (λ x. rw (enters_same, meets_conflict_lem s w a)))))

  pub effect_same : (p : Position) (x : Step) → effect w p x ≡ effect s p x
  unfolding effect after_share after_send after_mine after_bump change_slots
  effect_same p (Share party t to) = rw (share_each_lem party (first_shares party) p, share_one_lem)
  effect_same p (Give party i to) = refl
  effect_same p (SendToPool party t to) = rw (exposed_mask_lem s w a)
  effect_same p (HandToMiner party t to) = refl
  effect_same p (Include party t to) = refl
  effect_same p (Mine party t to) = rw (mine_slot_lem, a.counts)
  effect_same p (Bump party t to) = rw (bump_slot_lem, a.counts)
