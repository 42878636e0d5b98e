-- The entries that the accepted steps of a list confirm are those of the list.
-- Assumes nothing.
use Rattle.laws.proofs.Prelude.{ℕ, ◌≡◌, refl, sym, ap, ◌∙◌, true, false, List, [], ◌∷◌, ◌++◌, eqb, split}
use Rattle.position.proofs.Rules.{accepted, start, FourBytes, journal_steps, decode_bytes, step, accepted_of, confirms, confirmed_entries}
use Rattle.position.specs.declared.Position.{Position}
use Rattle.position.proofs.StepCases.{refused_same}
use Rattle.step_laws.proofs.Journals.{journal_steps_lem}
use Rattle.claim_ledger.specs.Claim.{entries_of}
use Rattle.claim_history.specs.Promise.{accepted_bytes}

module _ (s u : List ℕ) where
  -- the first step of a list is accepted, or passed over
  module _ (b : FourBytes) (bs : List FourBytes) (p : Position) where
    kept : eqb (step s u p b).refusal accepted ≡ true → accepted_of s u (b ∷ bs) p ≡ b ∷ accepted_of s u bs (step s u p b).position
    unfolding accepted_of
    kept h = rw h

    passed_over : eqb (step s u p b).refusal accepted ≡ false → accepted_of s u (b ∷ bs) p ≡ accepted_of s u bs (step s u p b).position
    unfolding accepted_of
    passed_over h = rw h

    confirming : eqb (step s u p b).refusal accepted ≡ true
        → confirmed_entries s u (b ∷ bs) p ≡ confirms s p (decode_bytes s u b) ++ confirmed_entries s u bs (step s u p b).position
    unfolding confirmed_entries
    confirming h = rw h

    confirming_none : eqb (step s u p b).refusal accepted ≡ false → confirmed_entries s u (b ∷ bs) p ≡ confirmed_entries s u bs (step s u p b).position
    unfolding confirmed_entries
    confirming_none h = rw h

  accepted_entries : (bs : List FourBytes) (p : Position) → confirmed_entries s u (accepted_of s u bs p) p ≡ confirmed_entries s u bs p
  unfolding accepted_of
  accepted_entries [] p = refl
  accepted_entries (b ∷ bs) p =
      let q = (step s u p b).position in
      split (eqb (step s u p b).refusal accepted)
      (λ h.
      ap (λ l. confirmed_entries s u l p) (kept b bs p h)
      ∙ confirming b (accepted_of s u bs q) p h
      ∙ ap (λ l. confirms s p (decode_bytes s u b) ++ l) (accepted_entries bs q)
      ∙ sym (confirming b bs p h))
      (λ h.
      ap (λ l. confirmed_entries s u l p) (passed_over b bs p h ∙ ap (accepted_of s u bs) (refused_same s u p b h))
      ∙ accepted_entries bs p
      ∙ ap (confirmed_entries s u bs) (sym (refused_same s u p b h))
      ∙ sym (confirming_none b bs p h))

  pub written_entries : (bs : List FourBytes) → entries_of s u (journal_steps (accepted_bytes s u bs)) ≡ entries_of s u bs
  written_entries bs = rw (journal_steps_lem (accepted_of s u bs (start s))) (accepted_entries bs (start s))
