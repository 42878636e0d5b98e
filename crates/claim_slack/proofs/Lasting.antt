-- What lasts for k blocks lasts for fewer, and after a list without X that mines j ≤ k blocks it lasts for k − j.
-- Assumes nothing.
use Rattle.laws.proofs.Prelude.{ℕ, ◌+◌, ◌-◌, ◌≤◌, ◌<◌, ◌≡◌, true, false, List, ◌⊎◌, inl, inr, arith, either, or_parts, or_right}
use Rattle.position.proofs.Rules.{sheet_refusal, setup_refusal, Checked, is_party, FourBytes, step, play}
use Rattle.position.specs.declared.Position.{Position}
use Rattle.sheet.proofs.Theorems.{sheet_checked}
use Rattle.soonest.specs.Soonest.{greater}
use Rattle.soonest.proofs.Bounds.{greater_left, greater_right, greater_le, greater_mono}
use Rattle.claim_outage.proofs.Play.{later_step}
use Rattle.claim_attainable.specs.Words.{step_of, without}
use Rattle.slack.specs.Kept.{kept_to, kept, longest}
use Rattle.slack.specs.Settled.{settled}
use Rattle.slack.specs.Slack.{kept_settled, lasts}
use Rattle.slack.proofs.Falling as fall
use Rattle.claim_slack.proofs.SettledSlots.{settled_mined, settled_none}
use Rattle.claim_slack.proofs.SettledStays.{Course, quiet, mined, course}
use Rattle.claim_slack.proofs.SettledAhead.{none_settles, settled_keeps}
use Rattle.claim_slack.proofs.Reached.{Reached, reached_play, by_steps, kept_step}

module _ (s u : List ℕ) (h : sheet_refusal s ≡ 0) (k : setup_refusal s u ≡ 0) (x : ℕ) (who : is_party s x ≡ true) where
  abbrev ok : Checked s
  ok = sheet_checked s h

  -- a lower height, as it stands and settled
  module _ (p : Position) (w : Reached s u p) (off more : ℕ) (less : off ≤ more) (late : p.mined ≤ more) where
    kept_lower : kept_to s u p x more ≡ true → kept_to s u p x off ≡ true
    kept_lower = fall.falling s u ok p (omega (arith, w.sound.settled.limit)) x off more less late

    settled_lower : kept_to s u (settled s u p x) x more ≡ true → kept_to s u (settled s u p x) x off ≡ true
    settled_lower =
        let m = settled_mined s u p x in
        fall.falling s u ok (settled s u p x) (omega (arith, m, w.sound.settled.limit)) x off more less (omega (arith, m, late))

  pub lasts_fewer : (p : Position) → Reached s u p → (n less : ℕ) → less ≤ n → lasts s u p x n ≡ true → lasts s u p x less ≡ true
  unfolding lasts kept kept_settled
  lasts_fewer p w n less l y =
      let mono = greater_mono less 1 n 1 l (omega arith) in
      either (or_parts (kept s u p x n) (kept_settled s u p x n) y)
      (λ z. rw (kept_lower p w (p.mined + less) (p.mined + n) (omega (arith, l)) (omega arith) z))
      (λ z.
      or_right (kept s u p x less) (kept_settled s u p x less)
      (settled_lower p w (p.mined + greater less 1) (p.mined + greater n 1) (omega (arith, mono)) (omega arith) z))

  -- up to a height: kept as it stands, or settled with the next block below it
  abbrev Held : Position → ℕ → Type 0
  Held p off = (kept_to s u p x off ≡ true) ⊎ ((p.mined < off) × (kept_to s u (settled s u p x) x off ≡ true))

  -- after a mined block nothing is settled but what is confirmed
  held_by : (p : Position) → Reached s u p → (b : FourBytes) → step_of x b ≡ false → (off : ℕ) → p.mined < off
      → kept_to s u (settled s u (step s u p b).position x) x off ≡ true → Course s u p x (step s u p b).position → Held (step s u p b).position off
  held_by p w b i off l y (quiet z c) = inr (omega (arith, z.mined, l), y)
  held_by p w b i off l y (mined e) =
      let q = (step s u p b).position in
      inl (rw (settled_none s u q x (none_settles s u h k x who p w.sound w.early w.pooled b i e)) at y)

  held_step : (p : Position) → Reached s u p → (b : FourBytes) → step_of x b ≡ false → (off : ℕ) → (step s u p b).position.mined ≤ off → off ≤ 20000
      → Held p off → Held (step s u p b).position off
  held_step p w b i off l m (inl y) = inl (kept_step s u h k x who p w b i off l m y)
  held_step p w b i off l m (inr y) =
      let late = (later_step s u h k p b w.sound).time in
      held_by p w b i off y.0 (settled_keeps s u h k x who p w.sound w.early w.pooled b i off (omega (arith, late, l)) m y.1)
      (course s u h k p w.sound x who b)

  held_play : (bs : List FourBytes) (p : Position) → Reached s u p → without x bs ≡ true → (off : ℕ) → (play s u bs p).mined ≤ off → off ≤ 20000
      → Held p off → Held (play s u bs p) off
  held_play = by_steps s u h k x Held held_step

  module _ (p : Position) (w : Reached s u p) (bs : List FourBytes) (i : without x bs ≡ true) where
    abbrev q : Position
    q = play s u bs p

    held_lasts : (n off : ℕ) → q.mined + n ≤ off → Held q off → lasts s u q x n ≡ true
    unfolding lasts kept kept_settled
    held_lasts n off l (inl y) = rw (kept_lower q (reached_play s u h k bs p w) (q.mined + n) off l (omega (arith, l)) y)
    held_lasts n off l (inr y) =
        let top = greater_le n 1 (off - q.mined) (omega (arith, l)) (omega (arith, y.0)) in
        or_right (kept s u q x n) (kept_settled s u q x n)
        (settled_lower q (reached_play s u h k bs p w) (q.mined + greater n 1) off (omega (arith, top, y.0)) (omega (arith, l)) y.1)

    lasts_held : (n : ℕ) → lasts s u p x n ≡ true → Held p (p.mined + n) ⊎ Held p (p.mined + greater n 1)
    unfolding lasts kept kept_settled
    lasts_held n y =
        let some = greater_right n 1 in
        either (or_parts (kept s u p x n) (kept_settled s u p x n) y)
        (λ z. inl (inl z))
        (λ z. inr (inr (omega (arith, some), z)))

    pub lasts_keeps : (n j : ℕ) → n ≤ longest → q.mined ≡ p.mined + j → j ≤ n → lasts s u p x n ≡ true → lasts s u q x (n - j) ≡ true
    lasts_keeps n j l e m y =
        let limit = w.sound.settled.limit in
        let some = greater_left n 1 in
        let top = greater_le n 1 10000 l (omega arith) in
        either (lasts_held n y)
        (λ z. held_lasts (n - j) (p.mined + n) (omega (arith, e, m)) (held_play bs p w i (p.mined + n) (omega (arith, e, m)) (omega (arith, limit, l)) z))
        (λ z.
        held_lasts (n - j) (p.mined + greater n 1) (omega (arith, e, m, some))
        (held_play bs p w i (p.mined + greater n 1) (omega (arith, e, m, some)) (omega (arith, limit, top)) z))
