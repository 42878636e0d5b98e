-- What is proved of sheets and setups, for all sizes together.
-- Assumes nothing.
use Rattle.laws.proofs.Prelude.{ℕ, ◌+◌, ◌*◌, ◌≤◌, ◌<◌, ◌≡◌, refl, List, lit<, length, answer_below}
use Rattle.sheet.specs.Field.{parties, count, signatures}
use Rattle.sheet.specs.Check.{array_tests, sheet_tests, sheet_refusal}
use Rattle.sheet.specs.Saswap.{offset, offset_by_difference, saswap}
use Rattle.sheet.specs.Setup.{per_day, conduct, stealth, setup_refusal}
use Rattle.sheet.specs.LockHeight.{lock_height}
use Rattle.sheet.specs.Checked.{Checked, SetupChecked, Fit}
use Rattle.sheet.proofs.Opened.{opened}
use Rattle.sheet.proofs.SaswapLength
use Rattle.sheet.proofs.Offset
use Rattle.sheet.proofs.SaswapFits
use Rattle.sheet.proofs.PassedSheet.{passed_sheet}
use Rattle.sheet.proofs.PassedSetup.{passed_setup}

-- The SASwap sheet has 95 bytes.
pub saswap_length : (d : ℕ) → length (saswap d) ≡ 95
saswap_length = SaswapLength.saswap_length

-- It passes the check, for every number of blocks per day.
pub saswap_passes : (d : ℕ) → sheet_refusal (saswap d) ≡ 0
saswap_passes = SaswapFits.saswap_passes

-- It has two parties.
pub parties_saswap : (d : ℕ) → parties (saswap d) ≡ 2
parties_saswap = SaswapFits.parties_saswap

-- It has 15 transactions and 4 signatures.
pub saswap_sizes : (d : ℕ) → (count (saswap d) ≡ 15) × (signatures (saswap d) ≡ 4)
saswap_sizes = SaswapFits.saswap_sizes

-- A setup of 1 to 1,000 blocks per day, any conduct and any stealth passes with its SASwap sheet.
pub saswap_fits : (u : List ℕ) → length u ≡ 4 → 1 ≤ per_day u → per_day u ≤ 1000 → conduct u ≤ 2 → stealth u ≤ 1 → setup_refusal (saswap (per_day u)) u ≡ 0
saswap_fits = SaswapFits.saswap_fits

-- The offset's three cases are document 01's difference for every number of blocks per day from 1 on, so for 1 to 1,000. At 0, which the
-- setup's check refuses, they differ.
pub offset_difference : (d : ℕ) → 1 ≤ d → offset d ≡ offset_by_difference d
offset_difference = Offset.offset_difference

pub offset_at_zero : (offset 0 ≡ 0) × (offset_by_difference 0 ≡ 3)
unfolding offset offset_by_difference
offset_at_zero = (refl, refl)

-- The lock heights of refund_1 and revoke, whatever is confirmed.
pub refund_lock_height : (d : ℕ) (block : ℕ → ℕ) → lock_height (saswap d) d block 3 ≡ (offset d + 1) * d
unfolding opened
refund_lock_height d block = refl

pub revoke_lock_height : (d : ℕ) (block : ℕ → ℕ) → lock_height (saswap d) d block 4 ≡ (offset d + 2) * d
unfolding opened
revoke_lock_height d block = refl

-- A sheet whose check gives 0 has everything that a checked sheet is said to have.
pub sheet_checked : (s : List ℕ) → sheet_refusal s ≡ 0 → Checked s
sheet_checked = passed_sheet

-- A setup whose check gives 0 has everything that a checked setup is said to have.
pub setup_checked : (s u : List ℕ) → setup_refusal s u ≡ 0 → SetupChecked s u
setup_checked = passed_setup

-- The two together.
pub fit : (s u : List ℕ) → sheet_refusal s ≡ 0 → setup_refusal s u ≡ 0 → Fit s u
fit s u h k = record { checked = sheet_checked s h; setup = setup_checked s u k }

-- The answer of the sheet check is one of its eight numbers, or 0.
pub sheet_refusal_below : (s : List ℕ) → sheet_refusal s < 9
unfolding sheet_refusal sheet_tests array_tests
sheet_refusal_below s = answer_below 9 (sheet_tests s) (lit< tt) refl
