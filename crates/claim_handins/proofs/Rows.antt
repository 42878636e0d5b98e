-- A step of kind 1, 2 or 3, and a row of them, on a position and on that whose block is emptied.
-- Assumes nothing.
use Rattle.laws.proofs.Prelude.{ℕ, ◌≡◌, refl, sym, ap, ◌∙◌, true, List, [], ◌∷◌, eqb, eqb-true, eqb-false, split, and_parts, every}
use Rattle.position.proofs.Rules.{accepted, Step, Option, Some, None, decode, step_refusal, effect, FourBytes, decode_bytes, take_step, take_decoded}
use Rattle.position.specs.declared.Position.{Position}
use Rattle.position.specs.declared.Stepped.{Stepped}
use Rattle.position.proofs.Rules.{step, accepted_of}
use Rattle.position.proofs.Decoding.{decodes}
use Rattle.position.proofs.StepCases.{accepts, refuses}
use Rattle.claim_handins.specs.Early.{early_kind, early}
use Rattle.claim_handins.specs.Claim.{emptied, Unwatched}
use Rattle.claim_handins.proofs.Refusals.{early_step, refusal_emptied}
use Rattle.claim_handins.proofs.Effects.{effect_emptied}

-- what is read from bytes of kind 1, 2 or 3 is a step of that kind
pub read_early : (s u : List ℕ) (k a t d : ℕ) → early_kind k ≡ true → (x : Step) → decode s u k a t d ≡ Some x → early_step x ≡ true
unfolding early_step
read_early s u k a t d h x e = rw (decodes s u k a t d x e).bytes h

-- a step's answer with the block of its position emptied
abbrev answer_emptied : Stepped → Stepped
answer_emptied r = record { refusal = r.refusal; position = emptied r.position }

module _ (s u : List ℕ) (w : Unwatched u) where
  take_emptied : (x : Step) → early_step x ≡ true → (p : Position) → take_step s u (emptied p) x ≡ answer_emptied (take_step s u p x)
  take_emptied x e p =
      let same = refusal_emptied s u p w x e in
      split (eqb (step_refusal s u p x) accepted)
      (λ y.
      let z = eqb-true (step_refusal s u p x) accepted y in
      rw (← (accepts s u p x 0 (effect s p x) (sym z) refl refl), effect_emptied s x e p)
      (sym (accepts s u (emptied p) x 0 (effect s (emptied p) x) (sym (same ∙ z)) refl refl)))
      (λ y.
      let n = eqb-false (step_refusal s u p x) accepted y in
      rw (← (refuses s u p x (step_refusal s u p x) refl n))
      (sym (refuses s u (emptied p) x (step_refusal s u p x) (sym same) n)))

  decoded_emptied : (y : Option Step) → ((x : Step) → y ≡ Some x → early_step x ≡ true) → (p : Position)
      → take_decoded s u (emptied p) y ≡ answer_emptied (take_decoded s u p y)
  unfolding take_decoded
  decoded_emptied (Some x) e p = take_emptied x (e x refl) p
  decoded_emptied None e p = refl

  pub step_emptied : (b : FourBytes) → early b ≡ true → (p : Position) → step s u (emptied p) b ≡ answer_emptied (step s u p b)
  unfolding step decode_bytes early
  step_emptied b e p =
      decoded_emptied (decode s u b.kind b.party b.transaction b.destination)
      (read_early s u b.kind b.party b.transaction b.destination e) p

  pub refused_emptied : (b : FourBytes) → early b ≡ true → (p : Position) → (step s u p b).refusal ≡ (step s u (emptied p) b).refusal
  refused_emptied b e p = sym (ap (λ (r : Stepped). r.refusal) (step_emptied b e p))

  pub position_emptied : (b : FourBytes) → early b ≡ true → (p : Position) → (step s u (emptied p) b).position ≡ emptied (step s u p b).position
  position_emptied b e p = ap (λ (r : Stepped). r.position) (step_emptied b e p)

  pub accepted_emptied : (bs : List FourBytes) → every early bs ≡ true → (p : Position) → accepted_of s u bs p ≡ accepted_of s u bs (emptied p)
  unfolding accepted_of every
  accepted_emptied [] e p = refl
  accepted_emptied (b ∷ bs) e p =
      let h = and_parts (early b) (every early bs) e in
      rw (← (refused_emptied b h.0 p), position_emptied b h.0 p, accepted_emptied bs h.1 (step s u p b).position)
