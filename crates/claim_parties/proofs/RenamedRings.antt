-- Every journal of a sheet of three, under every setup, with the parties renamed.
-- Assumes nothing.
use Rattle.laws.proofs.Prelude.{ℕ, ◌≡◌, refl, ◌∙◌, Bool, true, false, ◌||◌, List, [], ◌∷◌, ◌++◌, eqb, leb, eqb-true, eqb-false, lt-leb, arith, pick, split, or_neither}
use Rattle.laws.proofs.Prelude.{first_failing, passed_append}
use Rattle.position.proofs.Rules.{accepted, setup_blocks, journal_length, parties, array_tests, sheet_tests, sheet_refusal, conduct, parties_right, conduct_right, setup_tests}
use Rattle.position.proofs.Rules.{start, journal_right, call_tests, run}
use Rattle.sheet.specs.Refusal.{setup_parties, setup_conduct}
use Rattle.sheet.specs.Setup.{blocks_right}
use Rattle.claim_parties.specs.Renaming.{Renaming, renamed_sheet, renamed_journal, RunRenamed}
use Rattle.claim_parties.proofs.RenamedSheets.{parties_kept, sheet_renamed}
use Rattle.claim_parties.proofs.RenamedChecks.{passes_renamed}
use Rattle.claim_parties.proofs.RenamedRuns.{fails_check, start_renamed, run_renamed}

-- the number of a setup that is not open, whatever the sheet of three: 9, 32 or 10
closed : (b c : Bool) → ℕ
closed b c = pick b (pick c setup_parties setup_conduct) setup_blocks

closed_refused : (b c : Bool) → eqb (closed b c) accepted ≡ false
unfolding closed
closed_refused true true = refl
closed_refused true false = refl
closed_refused false c = refl

module _ (u : List ℕ) (o : eqb (conduct u) 0 ≡ false) where
  above : (eqb (conduct u) 1 || eqb (conduct u) 2) ≡ false → leb (conduct u) 2 ≡ false
  above y =
      let z = or_neither (eqb (conduct u) 1) (eqb (conduct u) 2) y in
      lt-leb (conduct u) 2 (omega (arith, eqb-false (conduct u) 0 o, eqb-false (conduct u) 1 z.0, eqb-false (conduct u) 2 z.1))

  setup_number : (v : List ℕ) → parties v ≡ 3 → (x : Bool)
      → first_failing (setup_tests v u ++ ((journal_length, x) ∷ [])) ≡ closed (blocks_right u) (eqb (conduct u) 1 || eqb (conduct u) 2)
  unfolding setup_tests parties_right conduct_right first_failing closed
  setup_number v e x =
      rw e
      (split (blocks_right u)
      (λ b. rw b (split (eqb (conduct u) 1 || eqb (conduct u) 2) (λ y. rw y refl) (λ y. rw (y, above y) refl)))
      (λ b. rw b refl))

  call_number : (v : List ℕ) → parties v ≡ 3 → sheet_refusal v ≡ accepted → (j : List ℕ)
      → first_failing (call_tests v u j) ≡ closed (blocks_right u) (eqb (conduct u) 1 || eqb (conduct u) 2)
  unfolding call_tests sheet_tests array_tests sheet_refusal
  call_number v e f j =
      passed_append (sheet_tests v) (setup_tests v u ++ ((journal_length, journal_right j) ∷ [])) refl f ∙ setup_number v e (journal_right j)

  call_refused : (v : List ℕ) → parties v ≡ 3 → sheet_refusal v ≡ accepted → (j : List ℕ)
      → run v u j ≡ record { refusal = closed (blocks_right u) (eqb (conduct u) 1 || eqb (conduct u) 2); accepted = 0; position = start v }
  call_refused v e f j =
      fails_check v u j (rw (call_number v e f j) (closed_refused (blocks_right u) (eqb (conduct u) 1 || eqb (conduct u) 2)))
      ∙ rw (call_number v e f j) refl

module _ (ρ : Renaming) (s u : List ℕ) (three : parties s ≡ 3) (h : sheet_refusal s ≡ accepted) (j : List ℕ) where
  closed_renamed : eqb (conduct u) 0 ≡ false → RunRenamed ρ s (renamed_sheet ρ s) u j
  closed_renamed o =
      let w = renamed_sheet ρ s in
      let e = call_refused u o s three h j in
      let f = call_refused u o w (parties_kept ρ s three h) (passes_renamed ρ s three h) (renamed_journal ρ j) in
      record { refusal_same = rw (e, f) refl; accepted_same = rw (e, f) refl; after = rw (e, f) (start_renamed ρ s w u (sheet_renamed ρ s three h)) }

  pub ring_renamed : RunRenamed ρ s (renamed_sheet ρ s) u j
  ring_renamed =
      split (eqb (conduct u) 0)
      (λ o. run_renamed ρ s (renamed_sheet ρ s) u (sheet_renamed ρ s three h) (eqb-true (conduct u) 0 o) h (passes_renamed ρ s three h) j)
      closed_renamed
