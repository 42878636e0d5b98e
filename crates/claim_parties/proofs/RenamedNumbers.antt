-- Renamed numbers: which are equal, the miner's, known ones, and those that entries name.
-- Assumes nothing.
use Rattle.laws.proofs.Prelude.{ℕ, zero, suc, ◌+◌, ◌-◌, ◌<◌, ◌≡◌, refl, sym, ap, ◌∙◌, true, false≢true, eqb, ltb, eqb-true, eqb-false, ltb-true, eq-eqb, ne_eqb, lt-ltb}
use Rattle.laws.proofs.Prelude.{arith, split}
use Rattle.position.proofs.Rules.{destinations, standing, entry_for, entry_to}
use Rattle.sheet.specs.Field.{miner}
use Rattle.claim_parties.specs.Renaming.{Renaming, renamed_entry}

module _ (ρ : Renaming) where
  pub number_same : (a b : ℕ) → eqb (ρ.to a) (ρ.to b) ≡ eqb a b
  number_same a b =
      split (eqb a b)
      (λ y. eq-eqb (ρ.to a) (ρ.to b) (ap ρ.to (eqb-true a b y)) ∙ sym y)
      (λ y. ne_eqb (ρ.to a) (ρ.to b) (λ e. eqb-false a b y (sym (ρ.there a) ∙ ap ρ.from e ∙ ρ.there b)) ∙ sym y)

  pub miner_number : (a : ℕ) → eqb (ρ.to a) miner ≡ eqb a miner
  miner_number a = ap (λ (k : ℕ). eqb (ρ.to a) k) (sym ρ.miner_stays) ∙ number_same a miner

  pub known : (a : ℕ) → a < destinations → ρ.to a < destinations
  known a l = ltb-true (ρ.to a) destinations (ρ.known_stays a ∙ lt-ltb a destinations l)

  pub known_back : (d : ℕ) → d < destinations → ρ.from d < destinations
  known_back d l =
      ltb-true (ρ.from d) destinations
      (sym (ρ.known_stays (ρ.from d)) ∙ ap (λ (k : ℕ). ltb k destinations) (ρ.back d) ∙ lt-ltb d destinations l)

  pub entry_standing : (e : ℕ) → standing (renamed_entry ρ e) ≡ standing e
  unfolding standing renamed_entry
  entry_standing zero = refl
  entry_standing (suc e) =
      rw (ne_eqb (suc e) 0 (λ z. omega (arith, z)), lt-ltb 0 (suc e) (omega arith)) (lt-ltb 0 (ρ.to (suc e - 1) + 1) (omega arith))

  pub entry_to_lem : (e : ℕ) → standing e ≡ true → entry_to (renamed_entry ρ e) ≡ ρ.to (entry_to e)
  unfolding standing entry_to renamed_entry
  entry_to_lem zero h = absurd (false≢true h)
  entry_to_lem (suc e) h = rw (ne_eqb (suc e) 0 (λ z. omega (arith, z))) (omega arith)

  pub entry_for_lem : (d : ℕ) → entry_for (ρ.to d) ≡ renamed_entry ρ (entry_for d)
  unfolding entry_for renamed_entry
  entry_for_lem d = let e : d + 1 - 1 ≡ d = omega arith in rw (ne_eqb (d + 1) 0 (λ z. omega (arith, z)), e)

  pub entry_none : 0 ≡ renamed_entry ρ 0
  unfolding renamed_entry
  entry_none = refl
