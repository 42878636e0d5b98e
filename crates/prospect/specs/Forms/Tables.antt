-- The tables of heights over the marks alone.
-- Assumes nothing.
use Rattle.std.specs.Prelude.{ℕ, ◌-◌, ◌/◌, ◌%◌, ◌≤◌, ◌<◌, min, ◌≡◌, Bool, true, not, ◌&&◌, ◌||◌, List, eqb, length, get_or}
use Rattle.laws.specs.Booleans.{pick}
use Rattle.laws.specs.Mask.{bit}
use Rattle.laws.specs.Least.{least_below}
use Rattle.sheet.specs.LockHeight.{never}
use Rattle.kept.specs.Forms.Prospect.{none}
use Rattle.prospect.specs.declared.Marks.{Marks}
use Rattle.prospect.specs.Forms.Thresholds.{late_from, sooner_from, beat_from}

-- numbers small enough to compute with
pub record Sound (m : Marks) : Type 0 where
  pub few : m.count ≤ 32
  pub flag : m.stealth ≤ 1
  pub low : (t : ℕ) → t < m.count → get_or m.lock t 0 < none

-- for each place below n, that of t and k at 32 * t + k, the number in it is what is told of the two
pub record Cells (told : ℕ → ℕ → ℕ → Type 0) (n : ℕ) (table : List ℕ) : Type 0 where
  pub size : length table ≡ 1024
  pub each : (i : ℕ) → i < n → told (i / 32) (i % 32) (get_or table i 0)

-- the height from which r is late for t, and the least of them
unfoldable pub late_at : Marks → ℕ → ℕ → ℕ
late_at m t r = late_from (bit m.fixed t) (bit m.runs t) (bit m.since t) (bit m.since r) (get_or m.lock t 0) (get_or m.lock r 0)

unfoldable pub least_late : Marks → ℕ → ℕ
least_late m t = least_below m.count (bit (get_or m.rivals t 0)) (late_at m t) none

-- nothing beats t: "stealth 0 and pool"
unfoldable pub held : Marks → ℕ → Bool
held m t = eqb m.stealth 0 && bit m.pooled t

-- r waits before t
unfoldable pub waits_in : Marks → ℕ → ℕ → Bool
waits_in m t r = pick (eqb r t) (bit m.apart t) (bit m.waits r)

unfoldable pub sooner_at : Marks → ℕ → ℕ → ℕ
sooner_at m t r = sooner_from (bit m.pooled t) (bit m.fixed t) (bit m.runs t) (bit m.since r) (get_or m.lock t 0) (get_or m.lock r 0)

-- the height from which r beats t, where a set tells those that come, and the least of them
unfoldable pub beat_at : Marks → ℕ → ℕ → ℕ → ℕ
beat_at m come t r = beat_from (not (held m t) && bit come r) (waits_in m t r) (sooner_at m t r)

unfoldable pub least_beat : Marks → ℕ → ℕ → ℕ
least_beat m come t = least_below m.count (λ r. true) (beat_at m come t) none

-- the height from which t fails, whatever X knows
unfoldable pub open_until : Marks → ℕ → ℕ
open_until m t =
    pick (bit m.gone t) 0 (pick (bit m.payable t) (pick (not (eqb m.stealth 0) || bit m.pooled t) none (least_late m t)) 0)

-- from which t fails
unfoldable pub fails_at : Marks → ℕ → ℕ
fails_at m t = pick (bit m.signs t || bit m.pooled t) (open_until m t) 0

-- from which t, whatever X knows, fails or is beaten
unfoldable pub until_at : Marks → ℕ → ℕ → ℕ
until_at m come t = min (open_until m t) (least_beat m come t)

-- the height of t's last block but for stealth, where the outage is not later
unfoldable pub ends_at : Marks → ℕ → ℕ
ends_at m t = pick (bit m.fixed t && bit m.signs t) (get_or m.lock t 0) (never - m.stealth)
