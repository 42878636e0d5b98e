-- Kind 3: the tests that it shares with kind 4, and the deadline behind them.
-- Assumes nothing.
use Rattle.laws.proofs.Prelude.{ℕ, ◌≡◌, refl, sym, ◌∙◌, Bool, List, [], ◌∷◌, ltb, first_failing, failed_append, passed_append}
use Rattle.sheet.specs.Refusal.{step_deadline}
use Rattle.sheet.specs.Setup.{per_day}
use Rattle.slots.specs.declared.Slot.{Slot}
use Rattle.slots.specs.Forms.Expiring.{deadline_by}
use Rattle.steps.specs.declared.View.{View}
use Rattle.steps.specs.Forms.View.{sent_set, sender_in}
use Rattle.steps.specs.Forms.Sending.{send_tests_in, pool_tests_in}

module _ (allowed : Bool) (s u : List ℕ) (v : View) (x : Slot) (since party t destination d members have r : ℕ)
    (per-day : d ≡ per_day u) (sent : members ≡ sent_set v) (sender : have ≡ sender_in s v x party destination)
    (first : r ≡ first_failing (send_tests_in allowed s d members have since v.mined t)) where
  pub pool_failed : (r ≡ 0 → ⊥) → r ≡ first_failing (pool_tests_in allowed s u v x since party t destination)
  unfolding pool_tests_in
  pool_failed h =
      rw (← per-day, ← sent, ← sender)
      (first ∙ sym (failed_append (send_tests_in allowed s d members have since v.mined t) ((step_deadline, ltb v.mined (deadline_by s d v.expiring since t)) ∷ []) (λ z. h (first ∙ z))))

  pub pool_passed : (b : ℕ) → r ≡ 0 → b ≡ first_failing ((step_deadline, ltb v.mined (deadline_by s d v.expiring since t)) ∷ []) → b ≡ first_failing (pool_tests_in allowed s u v x since party t destination)
  unfolding pool_tests_in send_tests_in
  pool_passed b z h =
      rw (← per-day, ← sent, ← sender)
      (h ∙ sym (passed_append (send_tests_in allowed s d members have since v.mined t) ((step_deadline, ltb v.mined (deadline_by s d v.expiring since t)) ∷ []) refl (sym first ∙ z)))
