-- The length of the SASwap sheets.
-- Assumes nothing.
use Rattle.laws.proofs.Prelude.{ℕ, ◌≡◌, refl, length}
use Rattle.sheet.specs.Saswap.{saswap_at, saswap}

-- P9: "the SASwap sheet is 95 bytes"
pub saswap_length : (d : ℕ) → length (saswap d) ≡ 95
unfolding saswap saswap_at
saswap_length d = refl
