-- What X keeps up to a height, it keeps up to each lower one.
-- Assumes nothing.
use Rattle.laws.proofs.Prelude.{ℕ, suc, ◌+◌, ◌≤◌, ◌≡◌, true, List, arith, split, either}
use Rattle.position.proofs.Rules.{count, never, Checked}
use Rattle.position.specs.declared.Position.{Position}
use Rattle.slack.specs.Kept.{known_at, good, paid, kept_to, kept}
use Rattle.slack.proofs.SamePosition.{steady_same}
use Rattle.slack.proofs.Parts.{stands_live, kept_parts, kept_paid, kept_good}
use Rattle.slack.proofs.Rounds.{round_stood}
use Rattle.slack.proofs.Living.{alive_same}
use Rattle.slack.proofs.Carried.{round_carried}

module _ (s u : List ℕ) (ok : Checked s) (p : Position) (limit : p.mined ≤ never) (x : ℕ) where
  pub falling : (off more : ℕ) → off ≤ more → p.mined ≤ more → kept_to s u p x more ≡ true → kept_to s u p x off ≡ true
  unfolding good
  falling off more less late h =
      split (paid s p x)
      (kept_paid s u p x off)
      (λ n.
      either (kept_parts s u p x more h)
      (kept_paid s u p x off)
      (λ k.
      let t = k.0 in
      let lives = stands_live s u p x (known_at s p x t) more t (round_stood s u ok p x more (count s) t k.1 k.3) in
      kept_good s u p x off t k.1 k.2
      (round_carried s u ok p p x more (steady_same s u ok p x more) (alive_same s u p x) n off more less (omega arith) late limit (count s) t k.1 lives k.3)))

  pub kept_falls : (k : ℕ) → kept s u p x (suc k) ≡ true → kept s u p x k ≡ true
  unfolding kept
  kept_falls k h = falling (p.mined + k) (p.mined + suc k) (omega arith) (omega arith) h
