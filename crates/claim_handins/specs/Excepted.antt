-- The exception, by example: under careful conduct with stealth a step of kind 3 tells what is in the block being filled.
-- Assumes nothing.
use Rattle.std.specs.Prelude.{ℕ, ◌≡◌}
use mathlib.Core.List.{List, [], ◌∷◌, ◌++◌, flat_map}
use Rattle.sheet.specs.Refusal.{accepted, step_conduct}
use Rattle.sheet.specs.Saswap.{saswap}
use Rattle.slots.specs.Destination.{bob, contract}
use Rattle.steps.specs.Names.{success}
use Rattle.steps.specs.Decode.{step_bytes}
use Rattle.position.specs.Play.{FourBytes}
use Rattle.position.specs.Open.{open_of}
use Rattle.dated.specs.declared.Dated.{Dated}
use Rattle.dated.specs.Dated.{dated_step, dated_run}
use Rattle.claim_handins.specs.Claim.{DatedApart}

-- 3 blocks per day, careful, with stealth
abbrev pub careful3 : List ℕ
careful3 = 3 ∷ 0 ∷ 2 ∷ 1 ∷ []

-- both first shares; lock_A and lock_B, each handed in and mined; Alice shares success
abbrev pub waiting : List ℕ
waiting =
    1 ∷ 0 ∷ 255 ∷ 2
    ∷ 1 ∷ 1 ∷ 255 ∷ 2
    ∷ 4 ∷ 0 ∷ 0 ∷ 2
    ∷ 6 ∷ 2 ∷ 255 ∷ 2
    ∷ 4 ∷ 1 ∷ 1 ∷ 2
    ∷ 6 ∷ 2 ∷ 255 ∷ 2
    ∷ 1 ∷ 0 ∷ 2 ∷ 2
    ∷ []

-- the same, and Bob hands in success
abbrev pub handed_in : List ℕ
handed_in = waiting ++ (4 ∷ 1 ∷ 2 ∷ 2 ∷ [])

abbrev pub after : List ℕ → Dated
after j = (dated_run (saswap 3) careful3 j).dated

-- Bob sends success to the pool
abbrev pub send_success : FourBytes
send_success = record { kind = 3; party = bob; transaction = success; destination = contract }

-- "Careful conduct is excepted: paying first looks at hand-ins too.": behind the success handed in, Bob could hand in spend_success, which
-- pays him, so he sends no contract transaction
pub record Excepted : Type 0 where
  pub runs : (dated_run (saswap 3) careful3 handed_in).refusal ≡ accepted
  pub apart : DatedApart (after waiting) (after handed_in)
  pub open_first : flat_map step_bytes (open_of (saswap 3) careful3 (after waiting).position bob 3) ≡ 3 ∷ 1 ∷ 2 ∷ 2 ∷ []
  pub open_then : flat_map step_bytes (open_of (saswap 3) careful3 (after handed_in).position bob 3) ≡ []
  pub refused_then : (dated_step (saswap 3) careful3 (after handed_in) send_success).refusal ≡ step_conduct
