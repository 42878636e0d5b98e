-- The setup: its fields, and the checks 9, 32 and 10.
-- Assumes nothing.
use Rattle.std.specs.Prelude.{ℕ, Bool, not, ◌&&◌, ◌||◌, List, [], ◌∷◌, eqb, leb, length}
use Rattle.laws.specs.Failing.{first_failing}
use Rattle.laws.specs.Little.{number_at}
use Rattle.laws.specs.Same.{same}
use Rattle.sheet.specs.Refusal.{setup_blocks, setup_parties, setup_conduct}
use Rattle.sheet.specs.Field.{byte, parties}
use Rattle.sheet.specs.Saswap.{saswap}

-- "blocks per day (2 bytes, 1 to 1,000)", "little-endian"
unfoldable pub per_day : List ℕ → ℕ
per_day u = number_at 2 u 0

-- "conduct (0 open, 1 loose, 2 careful)"
abbrev pub conduct : List ℕ → ℕ
conduct u = byte u 2

-- "stealth (0 or 1)"
abbrev pub stealth : List ℕ → ℕ
stealth u = byte u 3

-- 9 "setup not 4 bytes, or blocks per day"
unfoldable pub blocks_right : List ℕ → Bool
blocks_right u = eqb (length u) 4 && (leb 1 (per_day u) && leb (per_day u) 1000)

-- Document 02, Slip 10: "32 when a three-party sheet comes with conduct 1 or 2; tested before 10"
unfoldable pub parties_right : List ℕ → List ℕ → Bool
parties_right s u = not (eqb (parties s) 3 && (eqb (conduct u) 1 || eqb (conduct u) 2))

-- the sheet is the SASwap sheet for that number of blocks per day
unfoldable pub is_saswap : List ℕ → ℕ → Bool
is_saswap s d = same s (saswap d)

-- 10 "conduct or stealth, or sheet unfit for it": "Conduct 1 and 2 take only the SASwap sheet for that number of blocks."
unfoldable pub conduct_right : List ℕ → List ℕ → Bool
conduct_right s u = leb (conduct u) 2 && (leb (stealth u) 1 && (eqb (conduct u) 0 || is_saswap s (per_day u)))

unfoldable pub setup_tests : List ℕ → List ℕ → List (ℕ × Bool)
setup_tests s u = (setup_blocks, blocks_right u) ∷ (setup_parties, parties_right s u) ∷ (setup_conduct, conduct_right s u) ∷ []

-- the answer of the check of a setup for a sheet
unfoldable pub setup_refusal : List ℕ → List ℕ → ℕ
setup_refusal s u = first_failing (setup_tests s u)
