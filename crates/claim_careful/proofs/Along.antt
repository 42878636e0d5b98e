-- Every row of four-byte groups keeps the invariant.
-- Assumes nothing.
use Rattle.laws.proofs.Prelude.{ℕ, ◌≤◌, ◌<◌, ◌≡◌, true, List, [], ◌∷◌}
use Rattle.position.proofs.Rules.{Checked, SetupChecked, per_day, conduct, setup_refusal, Step, start, fields_right, step_refusal, effect, FourBytes, step, play}
use Rattle.position.specs.declared.Position.{Position}
use Rattle.sheet.proofs.Theorems.{saswap_passes, sheet_checked, setup_checked}
use Rattle.position.proofs.StepCases.{StepCase, taken, turned_down, step_case}
use Rattle.step_laws.proofs.Provenance.{Moved}
use Rattle.step_laws.proofs.Moved.{moved}
use Rattle.claim_ledger.proofs.Sound.{Sound}
use Rattle.claim_ledger.proofs.SoundSteps.{sound_start, sound_effect}
use Rattle.claim_careful.proofs.Fate.{Lasts, lasts}
use Rattle.claim_careful.proofs.Setting.{sheet}
use Rattle.claim_careful.proofs.Start.{invariant_start}
use Rattle.claim_careful.proofs.Invariant.{Invariant}
use Rattle.claim_careful.proofs.NextSecrets.{next_sig_bob, next_secret_alice, next_secret_bob, next_sig_alice, next_lock_a, next_success, next_refund1, next_refund2, next_secret_alice_at, next_secret_bob_at}
use Rattle.claim_careful.proofs.NextPool.{next_success_due, next_refund1_due, next_refund2_due}
use Rattle.claim_careful.proofs.NextPayees.{next_alice_unpaid, next_bob_keyed, next_spend_b_alice, next_spend_b_bob}

-- one accepted step
module _ (u : List ℕ) (c : conduct u ≡ 2) (one : 0 < per_day u) (top : per_day u ≤ 1000) (p : Position) (g : Sound (sheet u) u p)
    (j : Invariant u p) (q : Position) (m : Moved (sheet u) u p q) (ls : Lasts (sheet u) u p q) where
  invariant_next : Invariant u q
  invariant_next =
      record {
        sig_bob_kept = next_sig_bob u c one top p g j q m ls;
        secret_alice_kept = next_secret_alice u c one top p g j q m ls;
        secret_bob_given = next_secret_bob u c one top p g j q m ls;
        sig_alice_given = next_sig_alice u c one top p g j q m ls;
        lock_a_first = next_lock_a u c one top p g j q m ls;
        alice_unpaid = next_alice_unpaid u c p j q m;
        bob_keyed = next_bob_keyed u c p j q m;
        refund1_alone = next_refund1 u c one top p g j q m ls;
        refund2_alone = next_refund2 u c one top p g j q m ls;
        secret_alice_at = next_secret_alice_at u c one top p g j q m ls;
        secret_bob_at = next_secret_bob_at u c one top p g j q m ls;
        success_due = next_success_due u c one top p g j q m ls;
        refund1_due = next_refund1_due u c one top p g j q m ls;
        refund2_due = next_refund2_due u c one top p g j q m ls;
        success_shared = next_success u c one top p g j q m ls;
        spend_b_alice = next_spend_b_alice u c p j q m;
        spend_b_bob = next_spend_b_bob u c p j q m;
      }

-- a sound position with the invariant
pub record Guarded (u : List ℕ) (p : Position) : Type 0 where
  pub sound : Sound (sheet u) u p
  pub invariant : Invariant u p

module _ (u : List ℕ) (r : setup_refusal (sheet u) u ≡ 0) (c : conduct u ≡ 2) where
  ok : Checked (sheet u)
  ok = sheet_checked (sheet u) (saswap_passes (per_day u))

  su : SetupChecked (sheet u) u
  su = setup_checked (sheet u) u r

  pub guarded_effect : (p : Position) (x : Step) → Guarded u p → fields_right (sheet u) u x ≡ true → step_refusal (sheet u) u p x ≡ 0
      → Guarded u (effect (sheet u) p x)
  guarded_effect p x w f h =
      let next = invariant_next u c su.blocks_some su.blocks_few p w.sound w.invariant in
      record {
        sound = sound_effect (sheet u) u ok su p x w.sound f h;
        invariant = next (effect (sheet u) p x) (moved (sheet u) u p x f h) (lasts (sheet u) u ok p w.sound x f h);
      }

  -- a refused step, or four bytes that are none, leave the position as it is
  guarded_case : (p : Position) (b : FourBytes) → Guarded u p → StepCase (sheet u) u p b → Guarded u (step (sheet u) u p b).position
  guarded_case p b w (taken x e f h is) = rw is (guarded_effect p x w f h)
  guarded_case p b w (turned_down n e is) = rw is w

  guarded_play : (bs : List FourBytes) (p : Position) → Guarded u p → Guarded u (play (sheet u) u bs p)
  unfolding play
  guarded_play [] p w = w
  guarded_play (b ∷ bs) p w = guarded_play bs (step (sheet u) u p b).position (guarded_case p b w (step_case (sheet u) u p b))

  pub guarded : (bs : List FourBytes) → Guarded u (play (sheet u) u bs (start (sheet u)))
  guarded bs =
      guarded_play bs (start (sheet u))
      (record { sound = sound_start (sheet u) u; invariant = invariant_start u })
