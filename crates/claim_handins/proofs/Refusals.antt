-- The refusals of kinds 1, 2 and 3 are those on the position whose block is emptied.
-- Assumes nothing.
use Rattle.laws.proofs.Prelude.{ℕ, ◌≡◌, refl, ap, fun_ext, Bool, true, false, not, ◌&&◌, List, eqb, get_or, ne_eqb, arith, either, clash, any_below, first_failing}
use Rattle.position.proofs.Rules.{count, conduct, stealth, Step, Share, Give, SendToPool, HandToMiner, Include, Mine, Bump, is_payee, is_contract, step_bytes}
use Rattle.position.specs.declared.Position.{Position}
use Rattle.position.proofs.Rules.{holds, share_met, share_tests, give_met, give_tests, send_tests, pool_tests, miner_tests, is_careful, phase, late, alice_shares, may_share}
use Rattle.position.proofs.Rules.{alice_gives, bob_gives, may_give, success_unshared, secret_safe, safe_to_send, send_allowed, paying_passes, can_pay, paying_first, conduct_allows}
use Rattle.position.proofs.Rules.{step_refusal}
use Rattle.position.specs.StepRefusal.{tests}
use Rattle.claim_handins.specs.Early.{early_kind}
use Rattle.claim_handins.specs.Claim.{emptied, Unwatched}
use Rattle.claim_handins.proofs.Emptied.{mined_same, keys_same, confirmed_same, sent_same, shared_same, has_same, marked_same, made_same, lock_same, deadline_same}

-- a step's kind is 1, 2 or 3
unfoldable pub early_step : Step → Bool
early_step x = early_kind (get_or (step_bytes x) 0 0)

module _ (s u : List ℕ) (p : Position) where
  phase_same : phase (emptied p) ≡ phase p
  unfolding phase
  phase_same = rw (confirmed_same p, made_same p)

  holds_same : holds (emptied p) ≡ holds p
  unfolding holds
  holds_same = fun_ext (λ party. fun_ext (λ i. rw (keys_same p)))

  late_same : late s u (emptied p) ≡ late s u p
  unfolding late
  late_same = rw (deadline_same p s u, mined_same p)

  may_share_lem : may_share s u (emptied p) ≡ may_share s u p
  unfolding may_share alice_shares
  may_share_lem = fun_ext (λ party. fun_ext (λ t. rw (phase_same, sent_same p, late_same)))

  may_give_lem : may_give s u (emptied p) ≡ may_give s u p
  unfolding may_give alice_gives bob_gives
  may_give_lem = fun_ext (λ party. fun_ext (λ i. rw (phase_same, holds_same, late_same, has_same p s)))

  send_allowed_lem : send_allowed s u (emptied p) ≡ send_allowed s u p
  unfolding send_allowed safe_to_send success_unshared secret_safe
  send_allowed_lem = fun_ext (λ party. fun_ext (λ t. rw (phase_same, shared_same p, holds_same)))

  pool_tests_lem : (allowed : Bool) (party t d : ℕ) → pool_tests allowed s u (emptied p) party t d ≡ pool_tests allowed s u p party t d
  unfolding pool_tests send_tests
  pool_tests_lem allowed party t d = rw (sent_same p, has_same p s, lock_same p s u, deadline_same p s u, mined_same p)

  -- with stealth 0 no hand-in passes, whatever is in the block
  miner_tests_lem : stealth u ≡ 0 → (allowed : Bool) (party t d : ℕ) → first_failing (miner_tests allowed s u (emptied p) party t d) ≡ first_failing (miner_tests allowed s u p party t d)
  unfolding miner_tests first_failing
  miner_tests_lem z allowed party t d = rw z

  passes_same : stealth u ≡ 0 → paying_passes s u (emptied p) ≡ paying_passes s u p
  unfolding paying_passes
  passes_same z = fun_ext (λ party. fun_ext (λ t. rw (send_allowed_lem, pool_tests_lem (send_allowed s u p party t) party t party, miner_tests_lem z (send_allowed s u p party t) party t party)))

  can_pay_lem : stealth u ≡ 0 → can_pay s u (emptied p) ≡ can_pay s u p
  unfolding can_pay
  can_pay_lem z =
      fun_ext
      (λ party.
      ap (λ (f : ℕ → ℕ → Bool). any_below (count s) (λ t. elim (is_payee s t party) [ true ↦ f party t | false ↦ false ]))
      (passes_same z))

  -- paying first asks nothing but under careful conduct
  paying_loose : eqb (conduct u) 2 ≡ false → (q : Position) (party t : ℕ) → paying_first s u q party t ≡ true
  unfolding paying_first is_careful
  paying_loose n q party t = rw (n, paying_first)

  paying_overt : stealth u ≡ 0 → (party t : ℕ) → paying_first s u (emptied p) party t ≡ paying_first s u p party t
  unfolding paying_first
  paying_overt z party t =
      ap (λ (f : ℕ → Bool). elim (is_careful u && is_contract s t) [ true ↦ not (f party) | false ↦ true ]) (can_pay_lem z)

  paying_same : Unwatched u → (party t : ℕ) → paying_first s u (emptied p) party t ≡ paying_first s u p party t
  paying_same w party t =
      either w
      (λ h. let n = ne_eqb (conduct u) 2 (λ e. omega arith) in rw (paying_loose n (emptied p) party t, paying_loose n p party t))
      (λ z. paying_overt z party t)

  pub refusal_emptied : Unwatched u → (x : Step) → early_step x ≡ true → step_refusal s u (emptied p) x ≡ step_refusal s u p x
  unfolding step_refusal tests conduct_allows share_tests share_met give_tests give_met early_step early_kind step_bytes
  refusal_emptied w (Share party t to) e = rw (may_share_lem, marked_same p, keys_same p, made_same p)
  refusal_emptied w (Give party i to) e = rw (may_give_lem, holds_same)
  refusal_emptied w (SendToPool party t to) e = rw (send_allowed_lem, paying_same w party t, pool_tests_lem)
  refusal_emptied w (HandToMiner party t to) e = clash e refl
  refusal_emptied w (Include party t to) e = clash e refl
  refusal_emptied w (Mine party t to) e = clash e refl
  refusal_emptied w (Bump party t to) e = clash e refl
