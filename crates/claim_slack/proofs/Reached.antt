-- What every list from the empty journal's position keeps; and up to a height, what a list without X keeps of what X can count on.
-- Assumes nothing.
use Rattle.laws.proofs.Prelude.{ℕ, ◌≤◌, ◌≡◌, true, false, not, List, [], ◌∷◌, not-true, arith, and_parts, every}
use Rattle.position.proofs.Rules.{sheet_refusal, setup_refusal, is_party, start, FourBytes, step, play}
use Rattle.position.specs.declared.Position.{Position}
use Rattle.sheet.proofs.Theorems.{fit}
use Rattle.claim_ledger.proofs.Sound.{Sound}
use Rattle.claim_ledger.proofs.SoundSteps.{sound_start, sound_play}
use Rattle.claim_outage.proofs.Play.{later_step, later_play}
use Rattle.claim_outage.proofs.Pool.{Early, early_start, early_play}
use Rattle.claim_attainable.specs.Words.{step_of, without}
use Rattle.slack.specs.Kept.{kept_to}
use Rattle.slack.proofs.Keeping.{keeping}
use Rattle.claim_outage.proofs.Pools.{Pooled, pooled_start, pooled_play}
use Rattle.claim_slack.proofs.Onwards.{onward}

pub record Reached (s u : List ℕ) (p : Position) : Type 0 where
  pub sound : Sound s u p
  pub early : Early s u p
  pub pooled : Pooled s u p

pub reached_start : (s u : List ℕ) → Reached s u (start s)
reached_start s u = record { sound = sound_start s u; early = early_start s u; pooled = pooled_start s u }

module _ (s u : List ℕ) (h : sheet_refusal s ≡ 0) (k : setup_refusal s u ≡ 0) where
  pub reached_play : (bs : List FourBytes) (p : Position) → Reached s u p → Reached s u (play s u bs p)
  reached_play bs p w =
      record {
        sound = sound_play s u h k bs p w.sound;
        early = early_play s u h k bs p w.sound w.early;
        pooled = pooled_play s u h k bs p w.sound w.pooled;
      }

  pub reached_step : (b : FourBytes) (p : Position) → Reached s u p → Reached s u (step s u p b).position
  unfolding play
  reached_step b p w = reached_play (b ∷ []) p w

  module _ (x : ℕ) where
    -- what one step without X keeps, up to a height, a list does: the height stays, and no step mines beyond it
    pub by_steps : (Holds : Position → ℕ → Type 0)
        → ((p : Position) → Reached s u p → (b : FourBytes) → step_of x b ≡ false → (off : ℕ) → (step s u p b).position.mined ≤ off → off ≤ 20000
        → Holds p off → Holds (step s u p b).position off)
        → (bs : List FourBytes) (p : Position) → Reached s u p → without x bs ≡ true → (off : ℕ) → (play s u bs p).mined ≤ off → off ≤ 20000
        → Holds p off → Holds (play s u bs p) off
    unfolding play without every
    by_steps Holds one [] p w i off l m y = y
    by_steps Holds one (b ∷ bs) p w i off l m y =
        let q = (step s u p b).position in
        let z = and_parts (not (step_of x b)) (every (λ c. not (step_of x c)) bs) i in
        let next = reached_step b p w in
        let time = (later_play s u h k bs q next.sound).time in
        by_steps Holds one bs q next z.1 off l m (one p w b (not-true (step_of x b) z.0) off (omega (arith, time, l)) m y)

    pub kept_step : is_party s x ≡ true → (p : Position) → Reached s u p → (b : FourBytes) → step_of x b ≡ false → (off : ℕ)
        → (step s u p b).position.mined ≤ off → off ≤ 20000 → kept_to s u p x off ≡ true → kept_to s u (step s u p b).position x off ≡ true
    kept_step who p w b i off l m y =
        let q = (step s u p b).position in
        let on = onward s u h k p w.sound w.early w.pooled x who b i in
        let late = (later_step s u h k p b w.sound).time in
        keeping s u (fit s u h k) p q x on off (omega (arith, late, l)) m y

    pub kept_play : is_party s x ≡ true → (bs : List FourBytes) (p : Position) → Reached s u p → without x bs ≡ true → (off : ℕ)
        → (play s u bs p).mined ≤ off → off ≤ 20000 → kept_to s u p x off ≡ true → kept_to s u (play s u bs p) x off ≡ true
    kept_play who = by_steps (λ p off. kept_to s u p x off ≡ true) (kept_step who)
