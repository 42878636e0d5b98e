-- What the tests 26 and 27 tell of one transaction.
-- Assumes nothing.
use Rattle.laws.proofs.Prelude.{ℕ, ◌+◌, ◌≤◌, ◌<◌, ◌≡◌, true, List, ltb-true, leb-true}
use Rattle.sheet.specs.Field.{lock_type}
use Rattle.sheet.specs.LockHeight.{lock_blocks}
use Rattle.call_timelocks.specs.Fields.{n_lock_time, n_sequence}
use Rattle.call_timelocks.specs.Limits.{relative_right, absolute_right}

module _ (s : List ℕ) (d : ℕ) where
  pub relative_within : (t : ℕ) → relative_right s d t ≡ true → lock_type s t ≡ 2 → lock_blocks s d t + 1 ≤ 65535
  unfolding relative_right n_sequence
  relative_within t h e = leb-true (lock_blocks s d t + 1) 65535 (rw e at h)

  pub absolute_within : (base t : ℕ) → absolute_right s d base t ≡ true → lock_type s t ≡ 1 → base + lock_blocks s d t < 500000000
  unfolding absolute_right n_lock_time
  absolute_within base t h e = ltb-true (base + lock_blocks s d t) 500000000 (rw e at h)
