-- Journals and reports with the parties renamed.
-- Assumes nothing.
use Rattle.laws.proofs.Prelude.{ℕ, zero, suc, ◌+◌, ◌<◌, ◌≡◌, refl, sym, ap, ◌∙◌, Bool, true, false, not, and-false, List, [], ◌∷◌, ◌++◌, eqb, length, arith, map, pick}
use Rattle.laws.proofs.Prelude.{split, first_failing, passed_append}
use Rattle.position.proofs.Rules.{accepted, journal_length, parties, start_keys, array_tests, sheet_tests, sheet_refusal, conduct, parties_right, conduct_right, setup_tests}
use Rattle.position.proofs.Rules.{destinations, invalidated, start_held, start, keys, block_of, is_confirmed, confirmed_to, FourBytes, journal_steps, step}
use Rattle.position.specs.declared.Position.{Position}
use Rattle.position.specs.declared.Ran.{Ran}
use Rattle.position.proofs.Rules.{run_from, journal_right, call_tests, run, status, payee, unconfirmed}
use Rattle.sheet.specs.Field.{is_party}
use Rattle.claim_parties.specs.Renaming.{Renaming, RenamedSheet, Renamed, renamed_step, renamed_journal, RunRenamed, RowRenamed}
use Rattle.claim_parties.proofs.Leaves.{meets_other_lem}
use Rattle.claim_parties.proofs.Rules.{lock_in, deadline_in_lem}
use Rattle.claim_parties.proofs.RenamedNumbers.{known}
use Rattle.claim_parties.proofs.RenamedSlots.{none_renamed}
use Rattle.claim_parties.proofs.RenamedPositions.{pool_same, block_same, heights_same, confirmed_same}
use Rattle.claim_parties.proofs.RenamedRules as moved
use Rattle.claim_parties.proofs.RenamedSteps.{step_renamed}
use Rattle.position.proofs.Starts.{start_slot}
use Rattle.position.proofs.RowSteps.{run_next, run_stops}

start_keys_lem : (s : List ℕ) (a : ℕ) → a < destinations → keys (start s) a ≡ start_keys s a
unfolding keys start start_held start_keys is_party
start_keys_lem s zero l = refl
start_keys_lem s (suc zero) l = refl
start_keys_lem s (suc (suc zero)) l = refl
start_keys_lem s (suc (suc (suc zero))) l = refl
start_keys_lem s (suc (suc (suc (suc a)))) l = absurd (omega arith)

module _ (ρ : Renaming) where
  length_same : (j : List ℕ) → length (renamed_journal ρ j) ≡ length j
  unfolding renamed_journal
  length_same [] = refl
  length_same (k ∷ []) = refl
  length_same (k ∷ a ∷ []) = refl
  length_same (k ∷ a ∷ t ∷ []) = refl
  length_same (k ∷ a ∷ t ∷ d ∷ rest) = ap (λ (n : ℕ). suc (suc (suc (suc n)))) (length_same rest)

  steps_same : (j : List ℕ) → journal_steps (renamed_journal ρ j) ≡ map (renamed_step ρ) (journal_steps j)
  unfolding renamed_journal journal_steps renamed_step
  steps_same [] = refl
  steps_same (k ∷ []) = refl
  steps_same (k ∷ a ∷ []) = refl
  steps_same (k ∷ a ∷ t ∷ []) = refl
  steps_same (k ∷ a ∷ t ∷ d ∷ rest) =
      ap (λ (bs : List FourBytes). record { kind = k; party = ρ.to a; transaction = t; destination = ρ.to d } ∷ bs) (steps_same rest)

  journal_right_lem : (j : List ℕ) → journal_right (renamed_journal ρ j) ≡ journal_right j
  unfolding journal_right
  journal_right_lem j = rw (length_same j)

-- open conduct takes every sheet
module _ (u : List ℕ) (o : conduct u ≡ 0) where
  parties_right_lem : (s : List ℕ) → parties_right s u ≡ true
  unfolding parties_right
  parties_right_lem s = rw o (ap not (and-false (eqb (parties s) 3)))

  conduct_right_lem : (s w : List ℕ) → conduct_right w u ≡ conduct_right s u
  unfolding conduct_right
  conduct_right_lem s w = rw o refl

  setup_same : (s w : List ℕ) → setup_tests w u ≡ setup_tests s u
  unfolding setup_tests
  setup_same s w = rw (parties_right_lem s, parties_right_lem w, conduct_right_lem s w)

-- a run starts, or a check fails
module _ (s u : List ℕ) where
  starts_run : (j : List ℕ) → eqb (first_failing (call_tests s u j)) accepted ≡ true → run s u j ≡ run_from s u (journal_steps j) 0 (start s)
  unfolding run
  starts_run j h = rw (h, run)

  pub fails_check : (j : List ℕ) → eqb (first_failing (call_tests s u j)) accepted ≡ false
      → run s u j ≡ record { refusal = first_failing (call_tests s u j); accepted = 0; position = start s }
  unfolding run
  fails_check j h = rw (h, run)

module _ (ρ : Renaming) (s w u : List ℕ) (c : RenamedSheet ρ s w) where
  none_mined : (start w).mined ≡ (start s).mined
  unfolding start
  none_mined = refl

  as_long : length (start w).slots ≡ length (start s).slots
  unfolding start
  as_long = refl

  six : (v : List ℕ) → length (start v).keys ≡ 6
  unfolding start start_held
  six v = refl

  pub start_renamed : Renamed ρ (start s) (start w)
  start_renamed =
      record {
        slots_same = λ t. rw (start_slot s t, start_slot w t) (none_renamed ρ);
        keys_same = λ a l. start_keys_lem w (ρ.to a) (known ρ a l) ∙ c.starts a ∙ sym (start_keys_lem s a l);
        mined_same = none_mined;
        places = as_long;
        keys_here = six s;
        keys_there = six w;
      }

  module _ (o : conduct u ≡ 0) where
    Both : Ran → Ran → Type 0
    Both x y = (y.refusal ≡ x.refusal) × (y.accepted ≡ x.accepted) × Renamed ρ x.position y.position

    from_none : (n : ℕ) (p q : Position) → Renamed ρ p q → Both (run_from s u [] n p) (run_from w u [] n q)
    unfolding run_from Both
    from_none n p q r = (refl, refl, r)

    from_renamed : (bs : List FourBytes) (n : ℕ) (p q : Position) → Renamed ρ p q → Both (run_from s u bs n p) (run_from w u (map (renamed_step ρ) bs) n q)
    unfolding Both
    from_renamed [] n p q r = from_none n p q r
    from_renamed (b ∷ bs) n p q r =
        let d = renamed_step ρ b in
        let ds = map (renamed_step ρ) bs in
        let x = step_renamed ρ s w u c o p q r b in
        let e = ap (λ (k : ℕ). eqb k accepted) x.refusal_same in
        split (eqb (step s u p b).refusal accepted)
        (λ h. rw (run_next s u b bs n p h, run_next w u d ds n q (e ∙ h)) (from_renamed bs (n + 1) (step s u p b).position (step w u q d).position x.after))
        (λ h. rw (run_stops s u b bs n p h, run_stops w u d ds n q (e ∙ h)) (x.refusal_same, refl, r))

    module _ (f : sheet_refusal s ≡ accepted) (g : sheet_refusal w ≡ accepted) (j : List ℕ) where
      call_same : first_failing (call_tests w u (renamed_journal ρ j)) ≡ first_failing (call_tests s u j)
      unfolding call_tests sheet_tests array_tests sheet_refusal
      call_same =
          passed_append (sheet_tests w) (setup_tests w u ++ ((journal_length, journal_right (renamed_journal ρ j)) ∷ [])) refl g
          ∙ rw (setup_same u o s w, journal_right_lem ρ j) (sym (passed_append (sheet_tests s) (setup_tests s u ++ ((journal_length, journal_right j) ∷ [])) refl f))

      run_both : Both (run s u j) (run w u (renamed_journal ρ j))
      unfolding Both
      run_both =
          let e = ap (λ (k : ℕ). eqb k accepted) call_same in
          split (eqb (first_failing (call_tests s u j)) accepted)
          (λ h.
          rw (starts_run s u j h, starts_run w u (renamed_journal ρ j) (e ∙ h), steps_same ρ j)
          (from_renamed (journal_steps j) 0 (start s) (start w) start_renamed))
          (λ h. rw (fails_check s u j h, fails_check w u (renamed_journal ρ j) (e ∙ h)) (call_same, refl, start_renamed))

      pub run_renamed : RunRenamed ρ s w u j
      unfolding Both
      run_renamed = record { refusal_same = run_both.0; accepted_same = run_both.1; after = run_both.2 }

  module _ (p q : Position) (r : Renamed ρ p q) (t : ℕ) where
    status_renamed : status w q t ≡ status s p t
    unfolding status invalidated
    status_renamed = rw (pool_same ρ p q r, block_same ρ p q r, confirmed_same ρ p q r, meets_other_lem s w c.transactions)

    to_renamed : is_confirmed p t ≡ true → confirmed_to q t ≡ ρ.to (confirmed_to p t)
    unfolding is_confirmed block_of confirmed_to
    to_renamed h = (r.slots_same t).confirmations h

    payee_both : payee q t ≡ pick (is_confirmed p t) (ρ.to (payee p t)) (payee p t)
    unfolding payee
    payee_both =
        ap (λ (f : ℕ → Bool). pick (f t) (confirmed_to q t) unconfirmed) (confirmed_same ρ p q r)
        ∙ split (is_confirmed p t) (λ h. rw h (to_renamed h)) (λ h. rw h refl)

    pub row_renamed : RowRenamed ρ s w u p q t
    row_renamed =
        record {
          status_same = status_renamed;
          payee_renamed = payee_both;
          block_same = ap (λ (f : ℕ → ℕ). f t) (heights_same ρ p q r);
          lock_same = rw (lock_in s w c.transactions, moved.lock_in ρ s u p q r);
          deadline_same = rw (deadline_in_lem s w c.transactions, moved.deadline_in_lem ρ s u p q r);
        }
