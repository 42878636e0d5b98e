-- P10's sheet with a Carol put in who has nothing: what the words of the claim mean, computed.
-- Assumes nothing.
use Rattle.laws.proofs.Prelude.{ℕ, ◌≡◌, refl, true, false, List, [], ◌∷◌}
use Rattle.position.proofs.Rules.{accepted, step_field, sheet_refusal, FourBytes, run}
use Rattle.position.proofs.Opened.{opened}
use Rattle.claim_parties.specs.Claim.{with_carol, names_carol}

abbrev two : List ℕ
two = 2 ∷ 2 ∷ 0 ∷ 1 ∷ 2 ∷ 255 ∷ 0 ∷ 1 ∷ 0 ∷ 0 ∷ 2 ∷ 2 ∷ 0 ∷ 0 ∷ 0 ∷ 1 ∷ 1 ∷ []

abbrev setup : List ℕ
setup = 1 ∷ 0 ∷ 0 ∷ 0 ∷ []

with_carol_lem : with_carol two ≡ 130 ∷ 2 ∷ 0 ∷ 1 ∷ 2 ∷ 0 ∷ 255 ∷ 0 ∷ 1 ∷ 0 ∷ 0 ∷ 2 ∷ 2 ∷ 0 ∷ 0 ∷ 0 ∷ 1 ∷ 1 ∷ []
unfolding with_carol
with_carol_lem = refl

passes : (sheet_refusal two ≡ accepted) × (sheet_refusal (with_carol two) ≡ accepted)
unfolding opened with_carol
passes = (refl, refl)

abbrev bytes : ℕ → ℕ → ℕ → ℕ → FourBytes
bytes k a t d = record { kind = k; party = a; transaction = t; destination = d }

-- a gift to Carol and her own send name her; a gift of signature 3 and a block do not
names : (names_carol (bytes 2 0 0 3) ≡ true) × (names_carol (bytes 3 3 0 2) ≡ true) × (names_carol (bytes 2 0 3 1) ≡ false) × (names_carol (bytes 6 2 255 2) ≡ false)
unfolding names_carol
names = (refl, refl, refl, refl)

-- Alice sends the opening: the same on both
same : ((run two setup (3 ∷ 0 ∷ 0 ∷ 2 ∷ [])).refusal ≡ accepted) × ((run (with_carol two) setup (3 ∷ 0 ∷ 0 ∷ 2 ∷ [])).refusal ≡ accepted)
unfolding opened with_carol
same = (refl, refl)

-- a gift to Carol: there is nobody to give to on a sheet of two
apart : ((run two setup (2 ∷ 0 ∷ 0 ∷ 3 ∷ [])).refusal ≡ step_field) × ((run (with_carol two) setup (2 ∷ 0 ∷ 0 ∷ 3 ∷ [])).refusal ≡ accepted)
unfolding opened with_carol
apart = (refl, refl)
