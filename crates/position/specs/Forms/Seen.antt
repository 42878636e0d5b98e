-- The view of a position carried from step to step, over the slots that a step may have changed.
-- Assumes nothing.
use Rattle.std.specs.Prelude.{ℕ, zero, suc, ◌-◌, ◌^◌, Bool, List, eqb, ltb}
use Rattle.std.specs.Int.Bits.{bit_and, bit_or}
use Rattle.std.specs.Int.Count.{count_trailing_zeros}
use Rattle.laws.specs.Booleans.{pick}
use Rattle.steps.specs.declared.View.{View}
use Rattle.steps.specs.Forms.View.{view_with}
use Rattle.steps.specs.Forms.Blocks.{conflicted_in, affected_in}
use Rattle.position.specs.declared.Position.{Position}
use Rattle.position.specs.Position.{slot}
use Rattle.position.specs.Forms.FirstShares.{bob_first}

-- the slots that an accepted step of this kind and transaction byte may have changed: none by a gift and an empty block; by a block with
-- entries and a bump those of what was in the pool or in the block; by the first shares those of either party
unfoldable pub changed_set : View → ℕ → ℕ → ℕ
changed_set v kind t =
    pick (eqb kind 6) (pick (eqb v.block 0) 0 (bit_or v.pool v.block))
    (pick (eqb kind 7) (bit_or v.pool v.block)
    (pick (eqb kind 2) 0
    (pick (ltb t 32) (2 ^ t) bob_first)))

-- of these, those that a mined block may have changed, or all
unfoldable pub refined_set : List ℕ → View → ℕ → ℕ → ℕ
refined_set s v kind members = pick (eqb kind 6) (affected_in v (conflicted_in s v)) members

-- the least member of a set, 0 where it has none
unfoldable pub lowest : ℕ → ℕ
lowest m = pick (ltb (count_trailing_zeros 32 m) 32) (count_trailing_zeros 32 m) 0

-- what a view keeps over a step to q that moves entries of a set: the entries outside it, and the blocks mined and keys held then
unfoldable pub view_kept : View → ℕ → Position → View
view_kept v members q =
    record {
      pool = bit_and v.pool (4294967295 - members);
      block = bit_and v.block (4294967295 - members);
      confirmed = v.confirmed;
      expiring = v.expiring;
      mined = q.mined;
      shared = v.shared;
      keys = q.keys;
    }

-- with the members below n of a set, as they are in q
unfoldable pub view_joined : ℕ → (ℕ → Bool) → Position → View → View
view_joined zero member q v = v
view_joined (suc n) member q v = pick (member n) (view_with (view_joined n member q v) n (slot q n)) (view_joined n member q v)
