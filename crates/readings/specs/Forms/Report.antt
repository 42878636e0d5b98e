-- The row of a report over a view, the slot x of the transaction and `since`, its parent's block.
-- Assumes nothing.
use Rattle.std.specs.Prelude.{ℕ, ◌+◌, Bool, not, ◌&&◌, List, ltb}
use Rattle.laws.specs.Booleans.{pick}
use Rattle.laws.specs.Mask.{bit}
use Rattle.sheet.specs.LockHeight.{lock_height}
use Rattle.slots.specs.declared.Slot.{Slot}
use Rattle.slots.specs.Slot.{entry_to}
use Rattle.slots.specs.Ancestry.{in_ancestry}
use Rattle.slots.specs.Deadline.{deadline}
use Rattle.steps.specs.declared.View.{View}
use Rattle.readings.specs.declared.Row.{Row}

-- "Dead": where `conflicted` has those whose other rival is confirmed
unfoldable pub dead_in : List ℕ → ℕ → ℕ → ℕ → Bool
dead_in s confirmed conflicted t = not (bit confirmed t) && in_ancestry s (bit conflicted) t

-- "status (1 pool, 2 block, 4 confirmed, 8 dead, summed)"
unfoldable pub status_in : List ℕ → View → ℕ → ℕ → ℕ
status_in s v conflicted t =
    pick (bit v.pool t) 1 0 + pick (bit v.block t) 2 0 + pick (bit v.confirmed t) 4 0 + pick (dead_in s v.confirmed conflicted t) 8 0

-- "payee (destination, 255 unconfirmed)"
unfoldable pub payee_in : Slot → ℕ
payee_in x = pick (ltb 0 x.height) (entry_to x.confirmed) 255

-- the row of t
unfoldable pub row_in : List ℕ → ℕ → View → ℕ → Slot → ℕ → ℕ → Row
row_in s d v conflicted x since t =
    record {
      block = x.height;
      lock = lock_height s d (λ k. since) t;
      deadline = deadline s d (λ k. since) t;
      status = status_in s v conflicted t;
      payee = payee_in x;
    }
