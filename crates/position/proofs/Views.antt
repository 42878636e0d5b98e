-- A view made one transaction after the other.
-- Assumes nothing.
use Rattle.laws.proofs.Prelude.{ℕ, ◌+◌, ◌≤◌, ◌≡◌, List, le_antisymm, union_below, set_below}
use native.Mathlib.Numerals.{add-one}
use Rattle.slots.specs.declared.Slot.{Slot}
use Rattle.slots.specs.Forms.Expiring.{expiring_set}
use Rattle.position.specs.declared.Position.{Position}
use Rattle.steps.specs.declared.View.{View}
use Rattle.position.specs.Position.{slot, in_pool, in_block, block_of, is_confirmed}
use Rattle.steps.specs.Forms.View.{view_with}
use Rattle.position.specs.Forms.View.{view_below}

pub view_start : (s : List ℕ) (p : Position) (m : ℕ) → m ≡ expiring_set s
    → record { pool = 0; block = 0; confirmed = 0; expiring = m; mined = p.mined; shared = 0; keys = p.keys } ≡ view_below s 0 p
unfolding view_below set_below union_below
view_start s p m e = rw e

pub view_more : (s : List ℕ) (n : ℕ) (p : Position) (v w : View) (x : Slot) → v ≡ view_below s n p → w ≡ view_with v n x → x ≡ slot p n → w ≡ view_below s (n + 1) p
unfolding view_below view_with set_below union_below in_pool in_block is_confirmed block_of
view_more s n p v w x e f g = rw (f, e, g, add-one)

pub view_done : (s : List ℕ) (k n : ℕ) (p : Position) (v : View) → k ≤ n → n ≤ k → v ≡ view_below s k p → v ≡ view_below s n p
view_done s k n p v l m e = rw (le_antisymm m l) e
