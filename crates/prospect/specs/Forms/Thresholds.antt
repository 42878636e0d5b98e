-- The heights from which a rival is late, sooner, or beats a transaction, over what is read for the two; `none` where there is none.
-- Assumes nothing.
use Rattle.std.specs.Prelude.{ℕ, ◌+◌, Bool, not, ◌&&◌, ◌||◌, ltb, leb}
use Rattle.laws.specs.Booleans.{pick}
use Rattle.soonest.specs.Soonest.{greater}
use Rattle.slack.specs.Beaten.{locked_later}
use Rattle.kept.specs.Forms.Prospect.{none}

-- slack's `late`, over these
unfoldable pub late_in : Bool → Bool → Bool → Bool → ℕ → ℕ → ℕ → Bool
late_in fixed runs sinceOwn sinceHis own his off =
    pick fixed
    (locked_later own his off)
    (pick sinceHis
    (runs && pick sinceOwn (locked_later own his off) (leb (greater his (own + 1)) off))
    (ltb own his && (not sinceOwn || (runs && leb his off))))

-- slack's `sooner`, over these
unfoldable pub sooner_in : Bool → Bool → Bool → Bool → ℕ → ℕ → ℕ → Bool
sooner_in pooled fixed runs sinceHis own his off =
    pick pooled
    (leb his own)
    (pick fixed
    (leb his (greater off own))
    (not sinceHis || (leb his own || (runs && leb his off))))

-- the height where a test holds, else none
unfoldable pub height_if : Bool → ℕ → ℕ
height_if on height = pick on height none

-- from which it is late
unfoldable pub late_from : Bool → Bool → Bool → Bool → ℕ → ℕ → ℕ
late_from fixed runs sinceOwn sinceHis own his =
    pick fixed
    (height_if (ltb own his) his)
    (pick sinceHis
    (height_if runs (pick sinceOwn (height_if (ltb own his) his) (greater his (own + 1))))
    (height_if (ltb own his) (pick sinceOwn (height_if runs his) 0)))

-- from which it is sooner, where its lock is above the own one
unfoldable pub sooner_above : Bool → Bool → Bool → ℕ → ℕ
sooner_above fixed runs sinceHis his = pick fixed his (pick sinceHis (height_if runs his) 0)

-- from which it is sooner
unfoldable pub sooner_from : Bool → Bool → Bool → Bool → ℕ → ℕ → ℕ
sooner_from pooled fixed runs sinceHis own his = pick (leb his own) 0 (pick pooled none (sooner_above fixed runs sinceHis his))

-- from which it beats, where it can come: at once where it waits
unfoldable pub beat_from : Bool → Bool → ℕ → ℕ
beat_from comes waits height = height_if comes (pick waits 0 height)
