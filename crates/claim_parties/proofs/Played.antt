-- Steps and runs on a sheet of two, and on that with Carol put in.
-- Assumes nothing.
use Rattle.laws.proofs.Prelude.{ℕ, ◌+◌, ◌<◌, ◌≡◌, refl, sym, ap, ◌∙◌, fun_ext, true, false, not, List, [], ◌∷◌, ◌++◌, eqb, eqb-true, eqb-false, not-true, ap₂, split}
use Rattle.laws.proofs.Prelude.{and_parts, or_neither, first_failing, passed_append, every}
use Rattle.position.proofs.Rules.{accepted, journal_length, byte, place, start_keys, array_tests, sheet_tests, sheet_refusal, conduct, parties_right, conduct_right, setup_tests}
use Rattle.position.proofs.Rules.{carol, Step, Option, Some, None, start_held, start, FourBytes, journal_steps, decode_bytes, take_step}
use Rattle.position.specs.declared.Position.{Position}
use Rattle.position.specs.declared.Stepped.{Stepped}
use Rattle.position.specs.declared.Ran.{Ran}
use Rattle.position.proofs.Rules.{take_decoded, step, run_from, journal_right, call_tests, run, step_refusal, effect}
use Rattle.sheet.specs.Field.{is_party}
use Rattle.position.proofs.StepCases.{accepts, refuses}
use Rattle.claim_parties.specs.Claim.{with_carol, names_carol}
use Rattle.claim_parties.proofs.Fields.{two_parties, three_parties, alike}
use Rattle.claim_parties.proofs.Decoded.{decode_same}
use Rattle.claim_parties.proofs.Rules.{refusal_same, effect_same}
use Rattle.claim_parties.proofs.Checks.{passes_with}

-- a run's answer, from the number of its tests
abbrev answer : ℕ → Ran → Position → Ran
answer n r q = elim (eqb n accepted) [ true ↦ r | false ↦ record { refusal = n; accepted = 0; position = q } ]

module _ (s u : List ℕ) (two : byte s 0 < 128) (o : conduct u ≡ 0) where
  take_same : (p : Position) (x : Step) → take_step (with_carol s) u p x ≡ take_step s u p x
  take_same p x =
      let w = with_carol s in
      let same = refusal_same s w (alike s two).transactions u o p x in
      split (eqb (step_refusal s u p x) accepted)
      (λ y.
      let z = eqb-true (step_refusal s u p x) accepted y in
      sym (accepts w u p x 0 (effect s p x) (sym (same ∙ z)) refl (sym (effect_same s w (alike s two).transactions p x)))
      ∙ accepts s u p x 0 (effect s p x) (sym z) refl refl)
      (λ y.
      let n = eqb-false (step_refusal s u p x) accepted y in
      sym (refuses w u p x (step_refusal s u p x) (sym same) n) ∙ refuses s u p x (step_refusal s u p x) refl n)

  decoded_same : (p : Position) (y : Option Step) → take_decoded (with_carol s) u p y ≡ take_decoded s u p y
  unfolding take_decoded
  decoded_same p (Some x) = take_same p x
  decoded_same p None = refl

  pub step_same : (p : Position) (b : FourBytes) → names_carol b ≡ false → step (with_carol s) u p b ≡ step s u p b
  unfolding step decode_bytes names_carol
  step_same p b n =
      let e = or_neither (eqb b.party carol) (eqb b.destination carol) n in
      rw (decode_same s (with_carol s) u (alike s two) b.kind b.party b.transaction b.destination e.0 e.1)
      (decoded_same p (decode_bytes s u b))

  from_same : (bs : List FourBytes) → every (λ b. not (names_carol b)) bs ≡ true → (c : ℕ) (p : Position)
      → run_from (with_carol s) u bs c p ≡ run_from s u bs c p
  unfolding run_from every
  from_same [] e c p = refl
  from_same (b ∷ bs) e c p =
      let h = and_parts (not (names_carol b)) (every (λ k. not (names_carol k)) bs) e in
      ap₂
      (λ (r : Stepped) (go : Position → Ran).
      elim (eqb r.refusal accepted) [
        | true ↦ go r.position
        | false ↦ record { refusal = r.refusal; accepted = c; position = p }
      ])
      (step_same p b (not-true (names_carol b) h.0))
      (fun_ext (λ q. from_same bs h.1 (c + 1) q))

  -- Carol starts with nothing
  start_same : start (with_carol s) ≡ start s
  unfolding start start_held start_keys is_party place with_carol
  start_same = rw (three_parties s two, two_parties s two)

  tests_same : setup_tests (with_carol s) u ≡ setup_tests s u
  unfolding setup_tests parties_right conduct_right
  tests_same = rw (o, three_parties s two, two_parties s two)

  module _ (h : sheet_refusal s ≡ accepted) where
    call_same : (j : List ℕ) → first_failing (call_tests (with_carol s) u j) ≡ first_failing (call_tests s u j)
    unfolding call_tests sheet_tests array_tests sheet_refusal
    call_same j =
        passed_append (sheet_tests (with_carol s)) (setup_tests (with_carol s) u ++ ((journal_length, journal_right j) ∷ [])) refl (passes_with s two h)
        ∙ rw tests_same (sym (passed_append (sheet_tests s) (setup_tests s u ++ ((journal_length, journal_right j) ∷ [])) refl h))

    pub run_same : (j : List ℕ) → every (λ b. not (names_carol b)) (journal_steps j) ≡ true → run (with_carol s) u j ≡ run s u j
    unfolding run
    run_same j e =
        let bs = journal_steps j in
        ap (λ (n : ℕ). answer n (run_from (with_carol s) u bs 0 (start (with_carol s))) (start (with_carol s))) (call_same j)
        ∙ ap₂ (answer (first_failing (call_tests s u j)))
        (ap (λ (q : Position). run_from (with_carol s) u bs 0 q) start_same ∙ from_same bs e 0 (start s))
        start_same
