-- How soon things can come, over a function that gives each transaction's block, 0 where it is unconfirmed, and the blocks mined. Over
-- an empty chain, no block and none mined, the soonest block is the earliest one.
-- Assumes nothing.
use Rattle.std.specs.Prelude.{ℕ, ◌+◌, Bool, not, ◌&&◌, List, eqb, ltb}
use Rattle.laws.specs.Booleans.{pick}
use Rattle.laws.specs.Least.{least_below}
use Rattle.laws.specs.Climb.{climb}
use Rattle.sheet.specs.Field.{count, parent, lock_type}
use Rattle.sheet.specs.LockHeight.{lock_height, never}
use Rattle.slots.specs.Conflict.{conflict}

-- the greater of two
unfoldable pub greater : ℕ → ℕ → ℕ
greater a b = pick (ltb a b) b a

-- the lock height of t with its parent in block e
unfoldable pub lock_at : List ℕ → ℕ → ℕ → ℕ → ℕ
lock_at s per_day e t = lock_height s per_day (λ k. e) t

-- t's block where it is confirmed; else the first block that is not mined yet, not before e, the parent's soonest, and above the lock
unfoldable pub soonest_over : List ℕ → ℕ → ℕ → ℕ → ℕ → ℕ → ℕ
soonest_over s per_day block mined t e =
    pick (ltb 0 block) block (greater (mined + 1) (greater e (lock_at s per_day e t + 1)))

-- the soonest block: recursion up the sheet, from 0 for an opening
unfoldable pub soonest_block : List ℕ → ℕ → (ℕ → ℕ) → ℕ → ℕ → ℕ
soonest_block s per_day block mined t = climb (parent s) (λ k e. soonest_over s per_day (block k) mined k e) 0 t

-- the parent's soonest block, 0 for an opening
unfoldable pub soonest_parent : List ℕ → ℕ → (ℕ → ℕ) → ℕ → ℕ → ℕ
soonest_parent s per_day block mined t = pick (ltb (parent s t) t) (soonest_block s per_day block mined (parent s t)) 0

-- "since the parent"
unfoldable pub since_locked : List ℕ → ℕ → Bool
since_locked s t = eqb (lock_type s t) 2

-- their parent is unconfirmed, so that it may come in a later block, which lifts k's lock height and not t's
unfoldable pub may_rise : List ℕ → (ℕ → ℕ) → ℕ → ℕ → Bool
may_rise s block t k = eqb (block (parent s t)) 0 && (not (since_locked s t) && since_locked s k)

-- what counts at k for t, with their parent in block e: k's lock height where it is above t's; else the least height above t's where it
-- may rise; else never
unfoldable pub counts_at : List ℕ → ℕ → (ℕ → ℕ) → ℕ → ℕ → ℕ → ℕ
counts_at s per_day block e t k =
    pick (ltb (lock_at s per_day e t) (lock_at s per_day e k)) (lock_at s per_day e k)
    (pick (may_rise s block t k) (lock_at s per_day e t + 1) never)

-- the soonest deadline: the least of what counts at the rivals, with the parent in its soonest block
unfoldable pub soonest_deadline : List ℕ → ℕ → (ℕ → ℕ) → ℕ → ℕ → ℕ
soonest_deadline s per_day block mined t =
    let e = soonest_parent s per_day block mined t in
    least_below (count s) (λ k. conflict s k t) (counts_at s per_day block e t) never
