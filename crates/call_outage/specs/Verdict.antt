-- What an outage of so many blocks, the next ones after those mined, can cost: a row of 10 bytes for each transaction.
-- Assumes nothing.
use Rattle.std.specs.Prelude.{ℕ, ◌+◌, Bool, ◌&&◌, ◌||◌, List, ◌∷◌, ◌++◌, eqb, ltb, leb}
use Rattle.laws.specs.Booleans.{pick}
use Rattle.laws.specs.Mask.{union_below}
use Rattle.laws.specs.Gather.{gather}
use Rattle.laws.specs.Little.{bytes_of}
use Rattle.sheet.specs.Field.{count, payees}
use Rattle.sheet.specs.Setup.{per_day, stealth}
use Rattle.sheet.specs.LockHeight.{never}
use Rattle.slots.specs.Ancestry.{is_self_or_ancestor, has_parent}
use Rattle.slots.specs.Invalidated.{invalidated}
use Rattle.position.specs.declared.Position.{Position}
use Rattle.position.specs.Position.{in_pool, is_confirmed, block_of}
use Rattle.soonest.specs.Soonest.{soonest_block, soonest_deadline}

-- both from a position
unfoldable pub soonest_block_in : List ℕ → List ℕ → Position → ℕ → ℕ
soonest_block_in s u p t = soonest_block s (per_day u) (block_of p) p.mined t

unfoldable pub soonest_deadline_in : List ℕ → List ℕ → Position → ℕ → ℕ
soonest_deadline_in s u p t = soonest_deadline s (per_day u) (block_of p) p.mined t

-- 1: confirmed or dead, nothing is left to do
unfoldable pub is_settled : List ℕ → Position → ℕ → Bool
is_settled s p t = is_confirmed p t || invalidated s (is_confirmed p) t

-- 2: in the pool, and its parent confirmed or none
unfoldable pub is_safe : List ℕ → Position → ℕ → Bool
is_safe s p t = in_pool p t && has_parent s (is_confirmed p) t

-- 4: covered, the deadline is no later than the outage's last block; a deadline that is passed, only where a hand-in may still save t
unfoldable pub is_covered : ℕ → ℕ → ℕ → ℕ → Bool
is_covered mined blocks stealth deadline = leb deadline (mined + blocks) && (ltb mined deadline || eqb stealth 1)

-- 8: passed
unfoldable pub is_passed : ℕ → ℕ → Bool
is_passed mined deadline = leb deadline mined

-- of one that is neither settled nor safe
unfoldable pub exposed : ℕ → ℕ → ℕ → ℕ → ℕ
exposed mined blocks stealth deadline = pick (is_covered mined blocks stealth deadline) 4 0 + pick (is_passed mined deadline) 8 0

-- the verdict on t
unfoldable pub verdict : List ℕ → List ℕ → Position → ℕ → ℕ → ℕ
verdict s u p blocks t =
    pick (is_settled s p t) 1
    (pick (is_safe s p t) 2
    (exposed p.mined blocks (stealth u) (soonest_deadline_in s u p t)))

-- the payees of t and of every transaction below it, in one mask
unfoldable pub payees_below : List ℕ → ℕ → ℕ
payees_below s t = union_below (count s) (λ k. pick (is_self_or_ancestor s t k) (payees s k) 0)

-- the soonest block of t, never for a dead one
unfoldable pub block_from : List ℕ → List ℕ → Position → ℕ → ℕ
block_from s u p t = pick (invalidated s (is_confirmed p) t) never (soonest_block_in s u p t)

-- verdict, payees, then two 4-byte values: soonest block, soonest deadline
unfoldable pub outage_row : List ℕ → List ℕ → Position → ℕ → ℕ → List ℕ
outage_row s u p blocks t =
    verdict s u p blocks t ∷ payees_below s t ∷ (bytes_of 4 (block_from s u p t) ++ bytes_of 4 (soonest_deadline_in s u p t))

-- a row for each transaction
unfoldable pub outage_bytes : List ℕ → List ℕ → Position → ℕ → List ℕ
outage_bytes s u p blocks = gather (count s) (outage_row s u p blocks)
