-- The lock height and the deadline of a transaction go by one block, its parent's.
-- Assumes nothing.
use Rattle.laws.proofs.Prelude.{ℕ, ◌≡◌, ap, ◌∙◌, ◌&&◌, List, ltb, split, least_same}
use Rattle.sheet.specs.Field.{count, parent}
use Rattle.sheet.specs.LockHeight.{never, lock_height}
use Rattle.slots.specs.Conflict.{conflict}
use Rattle.slots.specs.Deadline.{deadline}
use Rattle.slots.proofs.Conflicts.{conflict_parent}

-- a lock height over every block, and over the parent's alone
pub lock_height_since : (s : List ℕ) (d : ℕ) (block : ℕ → ℕ) (b t : ℕ) → block (parent s t) ≡ b → lock_height s d block t ≡ lock_height s d (λ k. b) t
unfolding lock_height
lock_height_since s d block b t e = rw e

pub deadline_since : (s : List ℕ) (d : ℕ) (block : ℕ → ℕ) (b t : ℕ) → block (parent s t) ≡ b → deadline s d block t ≡ deadline s d (λ k. b) t
unfolding deadline
deadline_since s d block b t e =
    least_same (count s)
    (λ k. conflict s k t && ltb (lock_height s d block t) (lock_height s d block k))
    (λ k. conflict s k t && ltb (lock_height s d (λ j. b) t) (lock_height s d (λ j. b) k))
    (lock_height s d block) (lock_height s d (λ j. b)) never
    (λ k l.
    split (conflict s k t)
    (λ y. rw (y, lock_height_since s d block b t e, lock_height_since s d block b k (ap block (conflict_parent s k t y) ∙ e)))
    (λ y. rw y))
