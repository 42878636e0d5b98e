-- What a sheet that passes the check is known to have, for the crates above.
-- Assumes nothing.
use Rattle.std.specs.Prelude.{ℕ, ◌≤◌, ◌<◌, ◌^◌, ◌≡◌, true, false, ◌⊎◌, List, length}
use Rattle.sheet.specs.Field.{parties, is_party, count, signatures, secrets, start_keys, parent, payees, required, veil, lock_type, days, opening, Sized}
use Rattle.sheet.specs.Saswap.{saswap}
use Rattle.sheet.specs.Setup.{per_day, conduct, stealth}

-- a lock pair in range: none; absolute; or since the parent, which there is
pub data LockPair (s : List ℕ) (t : ℕ) : Type 0 where
  none : lock_type s t ≡ 0 → days s t ≡ 0 → LockPair s t
  absolute : lock_type s t ≡ 1 → 1 ≤ days s t → days s t ≤ 255 → LockPair s t
  since : lock_type s t ≡ 2 → 1 ≤ days s t → days s t ≤ 255 → opening s t ≡ false → LockPair s t

-- a transaction of a checked sheet
pub record Entry (s : List ℕ) (t : ℕ) : Type 0 where
  pub parent_lower : (opening s t ≡ true) ⊎ (parent s t < t)
  pub payees_few : payees s t < 2 ^ parties s
  pub required_some : 1 ≤ required s t
  pub required_within : required s t < 2 ^ signatures s
  pub veil_flag : veil s t ≤ 1
  pub lock_pair_lem : LockPair s t
  pub contract_child : payees s t ≡ 0 → (k : ℕ) × (k < count s) × (parent s k ≡ t)
  pub paying_childless : 1 ≤ payees s t → (k : ℕ) → k < count s → parent s k ≡ t → ⊥

pub record Checked (s : List ℕ) : Type 0 where
  pub sized : Sized s
  pub some : 1 ≤ count s
  pub signatures_some : 1 ≤ signatures s
  pub signatures_few : signatures s ≤ 8
  pub secrets_within : secrets s < 2 ^ signatures s
  pub keys_within : (p : ℕ) → is_party s p ≡ true → start_keys s p < 2 ^ signatures s
  pub entries : (t : ℕ) → t < count s → Entry s t

-- a setup that passes the check for a sheet
pub record SetupChecked (s u : List ℕ) : Type 0 where
  pub size : length u ≡ 4
  pub blocks_some : 1 ≤ per_day u
  pub blocks_few : per_day u ≤ 1000
  pub conduct_known : conduct u ≤ 2
  pub stealth_flag : stealth u ≤ 1
  pub sheet_fits : 1 ≤ conduct u → s ≡ saswap (per_day u)

-- a checked sheet with a setup that passes the check for it: what the steps ask for
pub record Fit (s u : List ℕ) : Type 0 where
  pub checked : Checked s
  pub setup : SetupChecked s u
