-- The invariant holds at the start.
-- Assumes nothing.
use Rattle.laws.proofs.Prelude.{ℕ, ◌≡◌, refl, true, false, List, eqb, split, either, clash, bit, no_bit}
use Rattle.position.proofs.Rules.{saswap, per_day, alice, bob, empty_slot, shared_for, start, shared, holds, sig_alice, sig_bob, secret_alice, secret_bob}
use Rattle.position.proofs.Opened.{opened}
use Rattle.step_laws.proofs.Provenance.{Stands}
use Rattle.position.proofs.Starts.{start_slot}
use Rattle.claim_careful.proofs.Places.{nothing_entered}
use Rattle.claim_careful.proofs.Setting.{sheet}
use Rattle.claim_careful.proofs.Invariant.{Touched, Invariant}

-- the start: nothing stands, nothing is shared, and these keys are not held
none_stands : (s : List ℕ) (t e : ℕ) → Stands (start s) t e → ⊥
none_stands s t e h = nothing_entered e (rw (start_slot s t) at h)

empty_shared : (e : ℕ) → shared_for empty_slot e ≡ 0
unfolding opened
empty_shared e = split (eqb e 0) (λ y. rw y) (λ y. split (eqb e 1) (λ z. rw (y, z)) (λ z. split (eqb e 2) (λ w. rw (y, z, w)) (λ w. rw (y, z, w))))

pub none_shared : {X : Type 0} (s : List ℕ) (t e i : ℕ) → bit (shared (start s) t e) i ≡ true → X
unfolding shared
none_shared s t e i h = clash (rw (start_slot s t, empty_shared e) at h) (no_bit i)

start_keys_lem : (d : ℕ)
    → (holds (start (saswap d)) alice sig_bob ≡ false)
    × (holds (start (saswap d)) bob secret_alice ≡ false)
    × (holds (start (saswap d)) alice secret_bob ≡ false)
    × (holds (start (saswap d)) bob sig_alice ≡ false)
unfolding opened
start_keys_lem d = (refl, refl, refl, refl)

pub invariant_start : (u : List ℕ) → Invariant u (start (sheet u))
invariant_start u =
    let s = sheet u in
    let k = start_keys_lem (per_day u) in
    record {
      sig_bob_kept = λ h. clash h k.0;
      secret_alice_kept = λ h. clash h k.1;
      secret_bob_given = λ h. clash h k.2;
      sig_alice_given = λ h. clash h k.3;
      lock_a_first = λ t w. absurd (none_stands s t w.0 w.1);
      alice_unpaid = λ t b w. untouched t alice w;
      bob_keyed = λ t b w. absurd (untouched t bob w);
      refund1_alone = λ w x. none_stands s _ w.0 w.1;
      refund2_alone = λ w x. none_stands s _ w.0 w.1;
      secret_alice_at = λ t e l h. none_shared s t e secret_alice h;
      secret_bob_at = λ t e l h. none_shared s t e secret_bob h;
      success_due = λ h. none_shared s _ _ secret_bob h;
      refund1_due = λ h. none_shared s _ _ secret_alice h;
      refund2_due = λ h. none_shared s _ _ secret_alice h;
      success_shared = λ w. absurd (none_stands s _ w.0 w.1);
      spend_b_alice = λ w. absurd (none_stands s _ alice w);
      spend_b_bob = λ w. absurd (none_stands s _ bob w);
    }
  where
    untouched : (t e : ℕ) → Touched (start (sheet u)) t e → ⊥
    untouched t e w = either w (none_stands (sheet u) t e) (λ h. none_shared (sheet u) t e h.0 h.1)
