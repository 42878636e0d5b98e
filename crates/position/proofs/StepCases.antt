-- The two outcomes of a step of four bytes: taken, with its fields right and its tests passed, or refused.
-- Assumes nothing.
use Rattle.std.specs.Prelude.{Option, Some, None}
use Rattle.laws.proofs.Prelude.{ℕ, ◌≡◌, refl, sym, ap, ◌∙◌, true, false, List, ◌⊎◌, inl, inr, eqb, eqb-true, eq-eqb, ne_eqb, split, either, clash}
use Rattle.sheet.specs.Refusal.{accepted, step_field}
use Rattle.slots.specs.declared.Step.{Step}
use Rattle.position.specs.declared.Position.{Position}
use Rattle.position.specs.declared.Stepped.{Stepped}
use Rattle.steps.specs.Decode.{fields_right, range_checked, decode, spelled}
use Rattle.position.specs.StepRefusal.{step_refusal}
use Rattle.position.specs.Effect.{effect}
use Rattle.position.specs.Play.{FourBytes, decode_bytes, take_step, take_decoded, step}

-- what is read has right fields
ranged : (s u : List ℕ) (y : Option Step) → (range_checked s u y ≡ None) ⊎ ((x : Step) × (range_checked s u y ≡ Some x) × (fields_right s u x ≡ true))
unfolding range_checked
ranged s u (Some x) = split (fields_right s u x) (λ h. inr (x, rw h, h)) (λ h. inl (rw h))
ranged s u None = inl refl

decoded : (s u : List ℕ) (b : FourBytes) → (decode_bytes s u b ≡ None) ⊎ ((x : Step) × (decode_bytes s u b ≡ Some x) × (fields_right s u x ≡ true))
unfolding decode_bytes decode
decoded s u b = ranged s u (spelled b.kind b.party b.transaction b.destination)

pub data StepCase (s u : List ℕ) (p : Position) (b : FourBytes) : Type 0 where
  taken : (x : Step) → decode_bytes s u b ≡ Some x → fields_right s u x ≡ true → step_refusal s u p x ≡ accepted → step s u p b ≡ record { refusal = accepted; position = effect s p x } → StepCase s u p b
  turned_down : (n : ℕ) → eqb n accepted ≡ false → step s u p b ≡ record { refusal = n; position = p } → StepCase s u p b

module _ (s u : List ℕ) (p : Position) where
  took : (x : Step) → eqb (step_refusal s u p x) accepted ≡ true → take_step s u p x ≡ record { refusal = accepted; position = effect s p x }
  unfolding take_step
  took x e = rw (e, take_step)

  left : (x : Step) → eqb (step_refusal s u p x) accepted ≡ false → take_step s u p x ≡ record { refusal = step_refusal s u p x; position = p }
  unfolding take_step
  left x e = rw (e, take_step)

  -- a method's two returns, where r is the number that it found
  pub refuses : (x : Step) (r : ℕ) → r ≡ step_refusal s u p x → (r ≡ 0 → ⊥) → record { refusal = r; position = p } ≡ take_step s u p x
  refuses x r e h = rw e (sym (left x (ne_eqb (step_refusal s u p x) accepted (λ z. h (e ∙ z)))))

  pub accepts : (x : Step) (r : ℕ) (q : Position) → r ≡ step_refusal s u p x → r ≡ 0 → q ≡ effect s p x → record { refusal = 0; position = q } ≡ take_step s u p x
  accepts x r q e h k = rw k (sym (took x (eq-eqb (step_refusal s u p x) accepted (sym e ∙ h))))

  pub step_case : (b : FourBytes) → StepCase s u p b
  unfolding step take_decoded
  step_case b =
      either (decoded s u b)
      (λ e. turned_down step_field refl (rw e))
      (λ w.
      split (eqb (step_refusal s u p w.0) accepted)
      (λ e. taken w.0 w.1 w.2 (eqb-true (step_refusal s u p w.0) accepted e) (rw w.1 (took w.0 e)))
      (λ e. turned_down (step_refusal s u p w.0) e (rw w.1 (left w.0 e))))

  -- a refused step alters nothing
  pub refused_same : (b : FourBytes) → eqb (step s u p b).refusal accepted ≡ false → (step s u p b).position ≡ p
  refused_same b h = by (step_case b) h
    where
      by : StepCase s u p b → eqb (step s u p b).refusal accepted ≡ false → (step s u p b).position ≡ p
      by (taken x d f r e) k = clash {b = eqb (step s u p b).refusal accepted} (rw e) k
      by (turned_down n m e) k = ap (λ (r : Stepped). r.position) e
