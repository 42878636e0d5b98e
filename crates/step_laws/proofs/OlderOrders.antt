-- Slip 3: by the older order of a send's tests conduct says the same, and the answers differ exactly where 16 and 17 are both met.
-- Assumes nothing.
use Rattle.laws.proofs.Prelude.{ℕ, ◌≡◌, refl, ap, fun_ext, Bool, true, false, ◌&&◌, List, [], ◌∷◌, eqb, ltb, leb, split, clash, any_below, first_failing, every}
use Rattle.position.proofs.Rules.{step_conduct, step_conflict, step_parent, step_signatures, step_lock, count, stealth, Destination, Step, Share, Give, SendToPool}
use Rattle.position.proofs.Rules.{HandToMiner, Include, Mine, Bump, destination_number, is_payee, is_contract, no_conflict, has_parent, signed, sent, placed}
use Rattle.position.specs.declared.Position.{Position}
use Rattle.position.proofs.Rules.{sender_has, lock_height_in, deadline_in, share_tests, give_tests, send_tests, pool_tests, miner_tests, include_tests, mine_tests, bump_tests}
use Rattle.position.proofs.Rules.{is_careful, send_allowed, paying_passes, can_pay, paying_first, conduct_allows, step_refusal}
use Rattle.sheet.specs.Refusal.{step_stealth, step_deadline}
use Rattle.position.specs.StepRefusal.{tests}
use Rattle.step_laws.specs.OlderOrder.{older_send_tests, older_pool_tests, older_miner_tests, older_paying_passes, older_can_pay, older_paying_first, older_allows, older_refusal, meets, passes_below, meets_both, is_send, SameButBoth}
use Rattle.step_laws.proofs.TurnedTests.{Turned, unturned, accepts_same, turned}

-- the tests of kinds 3 and 4
module _ (allowed : Bool) (s u : List ℕ) (p : Position) (party t destination : ℕ) where
  pool_turned : Turned (first_failing (older_pool_tests allowed s u p party t destination))
      (first_failing (pool_tests allowed s u p party t destination)) (meets_both (pool_tests allowed s u p party t destination))
  unfolding older_pool_tests older_send_tests pool_tests send_tests passes_below every
  pool_turned =
      turned (signed s (sender_has s p party t destination) t) (leb (lock_height_in s u p t) p.mined)
      ((step_deadline, ltb p.mined (deadline_in s u p t)) ∷ []) refl
      ((step_conduct, allowed) ∷ (step_conflict, no_conflict s (sent p) t) ∷ (step_parent, has_parent s (sent p) t) ∷ []) refl

  miner_turned : Turned (first_failing (older_miner_tests allowed s u p party t destination))
      (first_failing (miner_tests allowed s u p party t destination)) (meets_both (miner_tests allowed s u p party t destination))
  unfolding older_miner_tests older_send_tests miner_tests send_tests passes_below every
  miner_turned =
      turned (signed s (sender_has s p party t destination) t) (leb (lock_height_in s u p t) p.mined) [] refl
      ((step_stealth, eqb (stealth u) 1) ∷ (step_conduct, allowed)
      ∷ (step_conflict, no_conflict s (placed p) t) ∷ (step_parent, has_parent s (placed p) t) ∷ []) refl

-- where one of the two is not met, both are not
not_16 : (l : List (ℕ × Bool)) → meets step_signatures l ≡ false → meets_both l ≡ false
unfolding meets_both
not_16 l h = rw h

not_17 : (l : List (ℕ × Bool)) → meets step_lock l ≡ false → meets_both l ≡ false
unfolding meets_both
not_17 l h = split (meets step_signatures l) (λ e. rw (e, h)) (λ e. rw e)

module _ (s u : List ℕ) (p : Position) where
  -- ---- paying first, and with it conduct
  paying_passes_lem : (party t : ℕ) → older_paying_passes s u p party t ≡ paying_passes s u p party t
  unfolding older_paying_passes paying_passes
  paying_passes_lem party t =
      let w = send_allowed s u p party t in
      rw (accepts_same _ (pool_turned w s u p party t party), accepts_same _ (miner_turned w s u p party t party))

  can_pay_lem : (party : ℕ) → older_can_pay s u p party ≡ can_pay s u p party
  unfolding older_can_pay can_pay
  can_pay_lem party =
      ap (any_below (count s))
      (fun_ext (λ t. split (is_payee s t party) (λ e. rw (e, paying_passes_lem party t)) (λ e. rw e)))

  pub paying_first_lem : (party t : ℕ) → older_paying_first s u p party t ≡ paying_first s u p party t
  unfolding older_paying_first paying_first
  paying_first_lem party t =
      split (is_careful u && is_contract s t)
      (λ e. rw (e, older_paying_first, paying_first, can_pay_lem party))
      (λ e. rw (e, older_paying_first, paying_first))

  allows_pool : (party t : ℕ) (to : Destination) → older_allows s u p party t ≡ conduct_allows s u p (SendToPool party t to)
  unfolding older_allows conduct_allows
  allows_pool party t to = rw (paying_first_lem party t)

  allows_miner : (party t : ℕ) (to : Destination) → older_allows s u p party t ≡ conduct_allows s u p (HandToMiner party t to)
  unfolding older_allows conduct_allows
  allows_miner party t to = rw (paying_first_lem party t)

  -- ---- the answers
  step_turned : (x : Step) → Turned (older_refusal s u p x) (step_refusal s u p x) (meets_both (tests s u p x))
  unfolding older_refusal step_refusal tests share_tests give_tests include_tests mine_tests bump_tests meets_both meets
  step_turned (Share party t to) = unturned (step_refusal s u p (Share party t to))
  step_turned (Give party i to) = unturned (step_refusal s u p (Give party i to))
  step_turned (SendToPool party t to) =
      rw (allows_pool party t to) (pool_turned (conduct_allows s u p (SendToPool party t to)) s u p party t (destination_number to))
  step_turned (HandToMiner party t to) =
      rw (allows_miner party t to) (miner_turned (conduct_allows s u p (HandToMiner party t to)) s u p party t (destination_number to))
  step_turned (Include party t to) = unturned (step_refusal s u p (Include party t to))
  step_turned (Mine party t to) = unturned (step_refusal s u p (Mine party t to))
  step_turned (Bump party t to) = unturned (step_refusal s u p (Bump party t to))

  sends : (x : Step) → meets_both (tests s u p x) ≡ true → is_send x ≡ true
  unfolding tests share_tests give_tests include_tests mine_tests bump_tests meets_both meets is_send
  sends (Share party t to) h = h
  sends (Give party i to) h = h
  sends (SendToPool party t to) h = refl
  sends (HandToMiner party t to) h = refl
  sends (Include party t to) h = h
  sends (Mine party t to) h = h
  sends (Bump party t to) h = h

  pub same_but_both : (x : Step) → SameButBoth s u p x
  same_but_both x =
      let w = step_turned x in
      record {
        accepts = accepts_same _ w;
        both = λ h. record { send = sends x h; got = (w.changed h).0; gets = (w.changed h).1 };
        others = w.same;
        without_16 = λ h. w.same (not_16 (tests s u p x) h);
        without_17 = λ h. w.same (not_17 (tests s u p x) h);
        below_16 = λ h.
            split (meets_both (tests s u p x))
            (λ e. clash {b = ltb (older_refusal s u p x) step_signatures} h (rw (w.changed e).0))
            (λ e. w.same e);
      }
