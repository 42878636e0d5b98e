-- Who leaves the pool at a mined block (document 02, Slip 1), said without the rule: who is mined and who is dead afterwards.
-- Assumes nothing.
use Rattle.std.specs.Prelude.{ℕ, ◌≡◌, true, not, ◌||◌, List}
use Rattle.sheet.specs.Refusal.{accepted}
use Rattle.sheet.specs.Check.{sheet_refusal}
use Rattle.sheet.specs.Setup.{setup_refusal}
use Rattle.slots.specs.Invalidated.{invalidated}
use Rattle.position.specs.declared.Stepped.{Stepped}
use Rattle.position.specs.Position.{in_pool, in_block, is_confirmed}
use Rattle.position.specs.Play.{FourBytes, step}
use Rattle.claim_ledger.specs.Claim.{position_of}

-- "Mine (transaction 255)"
abbrev pub mine : FourBytes
mine = record { kind = 6; party = 2; transaction = 255; destination = 2 }

-- that step after a list of steps
abbrev pub mined_after : List ℕ → List ℕ → List FourBytes → Stepped
mined_after s u bs = step s u (position_of s u bs) mine

-- for every sheet and setup whose checks give 0, every list of four-byte groups after which a block is mined, and every entry of the pool
abbrev pub LeavesPool : Type 0
LeavesPool =
    (s u : List ℕ) → sheet_refusal s ≡ accepted → setup_refusal s u ≡ accepted → (bs : List FourBytes) → (mined_after s u bs).refusal ≡ accepted
    → (t : ℕ) → in_pool (position_of s u bs) t ≡ true
    → not (in_pool (mined_after s u bs).position t) ≡ (in_block (position_of s u bs) t || invalidated s (is_confirmed (mined_after s u bs).position) t)
