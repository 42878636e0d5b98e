-- A list of steps in which X takes none, or none but sends of some transactions, leads to bounded positions.
-- Assumes nothing.
use Rattle.laws.proofs.Prelude.{ℕ, ◌≡◌, Bool, true, false, not, ◌||◌, false≢true, List, [], ◌∷◌, inl, inr, eqb, eqb-true, not-true, split, either, and_parts, or_parts}
use Rattle.laws.proofs.Prelude.{fails_by, every}
use Rattle.position.proofs.Rules.{sheet_refusal, setup_refusal, Checked, Step, Share, Give, SendToPool, HandToMiner, Include, Mine, Bump, is_party, FourBytes}
use Rattle.position.specs.declared.Position.{Position}
use Rattle.position.proofs.Rules.{decode_bytes, step, play, Some, step_bytes}
use Rattle.sheet.proofs.Theorems.{sheet_checked}
use Rattle.position.proofs.StepCases.{StepCase, taken, turned_down, step_case}
use Rattle.position.proofs.Decoding.{decodes}
use Rattle.step_laws.proofs.Moved.{moved}
use Rattle.step_laws.proofs.Rises.{four_of}
use Rattle.claim_ledger.proofs.Sound.{Sound}
use Rattle.claim_ledger.proofs.EachKind.{wide}
use Rattle.claim_ledger.proofs.SoundSteps.{sound_step}
use Rattle.claim_outage.proofs.Play.{later_step, later_then}
use Rattle.attainable.specs.Attainable.{Closed}
use Rattle.claim_attainable.specs.Words.{step_of, send_of, sends_only}
use Rattle.claim_attainable.proofs.Actors.{Apart, Idle, MovedBy}
use Rattle.claim_attainable.proofs.Moves.{moved_by}
use Rattle.claim_attainable.proofs.Bounded.{Bounded, next}

-- the four bytes of a step that is read are its own
bytes_of : (s u : List ℕ) (b : FourBytes) (y : Step) → decode_bytes s u b ≡ Some y → b ≡ four_of y
unfolding decode_bytes four_of
bytes_of s u b y e = rw (decodes s u b.kind b.party b.transaction b.destination y e).bytes

-- a step of which X's part is a send of these: X is idle in it
module _ (x : ℕ) (also : ℕ → Bool) where
  keeps : FourBytes → Bool
  keeps b = not (step_of x b) || send_of also b

  apart_by : (party t : ℕ) → (not (eqb party x) || also t) ≡ true → Apart x also party t
  apart_by party t h =
      split (eqb party x)
      (λ e. inr (eqb-true party x e, rw e at h))
      inl

  alone_by : (party : ℕ) → (not (eqb party x) || false) ≡ true → eqb party x ≡ false
  alone_by party h = either (or_parts (not (eqb party x)) false h) (not-true (eqb party x)) (λ y. fails_by (eqb party x) (λ z. false≢true y))

  idle_by : (y : Step) → keeps (four_of y) ≡ true → Idle x also y
  unfolding keeps four_of step_of send_of step_bytes Idle
  idle_by (Share party t to) h = alone_by party h
  idle_by (Give party j to) h = alone_by party h
  idle_by (SendToPool party t to) h = apart_by party t h
  idle_by (HandToMiner party t to) h = apart_by party t h
  idle_by (Include party t to) h = tt
  idle_by (Mine party t to) h = tt
  idle_by (Bump party t to) h = tt

-- a step of four bytes, taken or refused, in which X is idle
module _ (s u : List ℕ) (ok : Checked s) (p : Position) (g : Sound s u p) (x : ℕ) (also : ℕ → Bool) where
  moved_case : (b : FourBytes) → keeps x also b ≡ true → StepCase s u p b → MovedBy s u p x also (step s u p b).position
  moved_case b i (taken y d f r e) =
      rw e (moved_by s u p x also (wide s u ok p g) g.beyond y ok.signatures_few f r (idle_by x also y (rw (bytes_of s u b y d) at i)))
  moved_case b i (turned_down n m e) = rw e (record { entries = λ t d y. inl y; shares = λ t d j l y. inl y; gifts = λ holder j l y. inl y })

  pub moved_step : (b : FourBytes) → step_of x b ≡ false → MovedBy s u p x also (step s u p b).position
  unfolding keeps
  moved_step b i = moved_case b (rw i) (step_case s u p b)

module _ (s u : List ℕ) (h : sheet_refusal s ≡ 0) (k : setup_refusal s u ≡ 0) (p : Position) (x : ℕ) (who : is_party s x ≡ true) (also : ℕ → Bool)
    (members : ℕ) (closed : Closed s u p x also members) where
  abbrev ok : Checked s
  ok = sheet_checked s h

  abbrev Held : Position → Type 0
  Held q = Bounded s u ok p x who also members closed q

  held_case : (q : Position) (b : FourBytes) → Held q → keeps x also b ≡ true → StepCase s u q b → Held (step s u q b).position
  held_case q b w i (taken y d f r e) =
      let g = sound_step s u h k q b w.sound in
      let on = later_then s p q (step s u q b).position w.later (later_step s u h k q b w.sound) in
      next s u ok p x who also members closed q w (step s u q b).position g on (rw e (moved s u q y f r)) (moved_case s u ok q w.sound x also b i (taken y d f r e))
  held_case q b w i (turned_down n m e) = rw e w

  pub held_play : (bs : List FourBytes) (q : Position) → Held q → sends_only x also bs ≡ true → Held (play s u bs q)
  unfolding play sends_only every keeps
  held_play [] q w i = w
  held_play (b ∷ bs) q w i =
      let z = and_parts (keeps x also b) (every (keeps x also) bs) i in
      held_play bs (step s u q b).position (held_case q b w z.0 (step_case s u q b)) z.1
