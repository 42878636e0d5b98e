-- Computed examples on a small sheet: the refusals and the list's bytes before and after a hand-in.
-- Assumes nothing.
use Rattle.laws.proofs.Prelude.{ℕ, ◌≡◌, refl, List, [], ◌∷◌, ◌++◌, replicate}
use Rattle.position.proofs.Rules.{accepted, step_parent, alice, bob, FourBytes, step, run, list_answer}
use Rattle.position.proofs.Opened.{opened}
use Rattle.claim_handins.specs.Early.{early_kind, early_bytes, written_bytes}
use Rattle.claim_handins.specs.Claim.{emptied, BlockApart}

-- an opening and its two children, rivals, one of which pays Alice and the other Bob; each party can sign all three
abbrev three : List ℕ
three = 3 ∷ 1 ∷ 0 ∷ 1 ∷ 1 ∷ 255 ∷ 0 ∷ 1 ∷ 0 ∷ 0 ∷ 1 ∷ 1 ∷ 0 ∷ 0 ∷ 2 ∷ 1 ∷ 0 ∷ 0 ∷ 0 ∷ 0 ∷ 0 ∷ 0 ∷ 0 ∷ []

-- 3 blocks per day, open, with stealth
abbrev open3 : List ℕ
open3 = 3 ∷ 0 ∷ 0 ∷ 1 ∷ []

-- the opening is handed in
abbrev handed : List ℕ
handed = 4 ∷ 0 ∷ 0 ∷ 2 ∷ []

-- the opening is in the pool too, and then Alice's child is handed in
abbrev both : List ℕ
both = 3 ∷ 0 ∷ 0 ∷ 2 ∷ handed

abbrev child : List ℕ
child = both ++ (4 ∷ 0 ∷ 1 ∷ 0 ∷ [])

-- two journals to positions that differ in the block alone, and the number that a step gets after both
pub record Unnoticed (j k : List ℕ) (b : FourBytes) (number : ℕ) : Type 0 where
  pub apart : BlockApart (run three open3 j).position (run three open3 k).position
  pub runs : (run three open3 k).refusal ≡ accepted
  pub first : (step three open3 (run three open3 j).position b).refusal ≡ number
  pub second : (step three open3 (run three open3 k).position b).refusal ≡ number

-- a rival in the block is none for kind 3: Bob sends his child to the pool
rival_unnoticed : Unnoticed both child (record { kind = 3; party = bob; transaction = 2; destination = bob }) accepted
unfolding opened emptied
rival_unnoticed = record { apart = refl; runs = refl; first = refl; second = refl }

-- what is in the block can be shared
share_unnoticed : Unnoticed [] handed (record { kind = 1; party = alice; transaction = 0; destination = 2 }) accepted
unfolding opened emptied
share_unnoticed = record { apart = refl; runs = refl; first = refl; second = refl }

-- a parent in the block is none for kind 3
parent_unnoticed : Unnoticed [] handed (record { kind = 3; party = alice; transaction = 1; destination = alice }) step_parent
unfolding opened emptied
parent_unnoticed = record { apart = refl; runs = refl; first = refl; second = refl }

-- what the list call writes, into more room than it takes
abbrev listed : List ℕ → List ℕ
listed j = written_bytes (list_answer three open3 j (replicate 50 9))

-- a party may share all three and send the opening to the pool
abbrev early_ones : ℕ → List ℕ
early_ones party = 1 ∷ party ∷ 0 ∷ 2 ∷ 1 ∷ party ∷ 1 ∷ 0 ∷ 1 ∷ party ∷ 2 ∷ 1 ∷ 3 ∷ party ∷ 0 ∷ 2 ∷ []

-- it is not the same before and after the opening is handed in
listed_before_lem : listed [] ≡ early_ones alice ++ ((4 ∷ 0 ∷ 0 ∷ 2 ∷ []) ++ (early_ones bob ++ (4 ∷ 1 ∷ 0 ∷ 2 ∷ [])))
unfolding opened written_bytes
listed_before_lem = refl

listed_after : listed handed ≡ early_ones alice ++ ((4 ∷ 0 ∷ 1 ∷ 0 ∷ []) ++ (early_ones bob ++ (4 ∷ 1 ∷ 2 ∷ 1 ∷ 6 ∷ 2 ∷ 255 ∷ 2 ∷ [])))
unfolding opened written_bytes
listed_after = refl

-- of kinds 1, 2 and 3 it is
early_before : early_bytes (listed []) ≡ early_ones alice ++ early_ones bob
unfolding early_bytes early_kind
early_before = rw listed_before_lem

early_after : early_bytes (listed handed) ≡ early_ones alice ++ early_ones bob
unfolding early_bytes early_kind
early_after = rw listed_after
