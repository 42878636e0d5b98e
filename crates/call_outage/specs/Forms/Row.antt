-- A row over what is read once: a view, the set `conflicted` of those whose other rival is confirmed, a table of soonest blocks and one of
-- lines; and `since`, the block of t's parent.
-- Assumes nothing.
use Rattle.std.specs.Prelude.{ℕ, Bool, ◌&&◌, ◌||◌, List, ◌∷◌, ◌++◌, get_or}
use Rattle.laws.specs.Booleans.{pick}
use Rattle.laws.specs.Little.{bytes_of}
use Rattle.laws.specs.Mask.{bit, union_below}
use Rattle.sheet.specs.Field.{count, payees}
use Rattle.sheet.specs.LockHeight.{never}
use Rattle.sheet.specs.Setup.{per_day, stealth}
use Rattle.slots.specs.Ancestry.{has_parent}
use Rattle.steps.specs.declared.View.{View}
use Rattle.readings.specs.Forms.Report.{dead_in}
use Rattle.soonest.specs.Forms.Table.{table_above}
use Rattle.soonest.specs.Forms.Deadline.{deadline_over}
use Rattle.call_outage.specs.Verdict.{exposed}

-- 2: in the pool, and its parent confirmed or none
unfoldable pub safe_in : List ℕ → View → ℕ → Bool
safe_in s v t = bit v.pool t && has_parent s (bit v.confirmed) t

-- the verdict on t
unfoldable pub verdict_in : List ℕ → List ℕ → View → Bool → ℕ → ℕ → ℕ → ℕ
verdict_in s u v dead blocks t deadline =
    pick (bit v.confirmed t || dead) 1 (pick (safe_in s v t) 2 (exposed v.mined blocks (stealth u) deadline))

-- the payees of those whose line has t
unfoldable pub payees_in : List ℕ → List ℕ → ℕ → ℕ
payees_in s lines t = union_below (count s) (λ k. pick (bit (get_or lines k 0) t) (payees s k) 0)

-- verdict, payees, soonest block, soonest deadline
unfoldable pub row_in : List ℕ → List ℕ → View → ℕ → List ℕ → List ℕ → ℕ → ℕ → ℕ → List ℕ
row_in s u v conflicted soonest lines since blocks t =
    let dead = dead_in s v.confirmed conflicted t in
    let deadline = deadline_over s (per_day u) since (table_above s soonest t) t in
    verdict_in s u v dead blocks t deadline ∷ payees_in s lines t ∷ (bytes_of 4 (pick dead never (get_or soonest t 0)) ++ bytes_of 4 deadline)
