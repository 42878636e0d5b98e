-- The two numbers as they stand in the buffer.
-- Assumes nothing.
use Rattle.laws.proofs.Prelude.{ℕ, ◌+◌, ◌*◌, ◌≤◌, ◌<◌, ◌≡◌, List, length, number_at, over}
use Rattle.laws.proofs.Little.{first_read, second_read}
use Rattle.sheet.specs.Field.{count}
use Rattle.call_timelocks.specs.Fields.{n_lock_time, n_sequence, field_bytes, timelock_bytes}

module _ (s : List ℕ) (d base : ℕ) (out : List ℕ) (room : 8 * count s ≤ length out) (t : ℕ) (low : t < count s) where
  pub lock_time_read : n_lock_time s d base t < 4294967296 → number_at 4 (over (timelock_bytes s d base) out) (8 * t) ≡ n_lock_time s d base t
  unfolding timelock_bytes field_bytes
  lock_time_read = first_read 4 (n_lock_time s d base) (n_sequence s d) (count s) out room t low

  pub sequence_read : n_sequence s d t < 4294967296 → number_at 4 (over (timelock_bytes s d base) out) (8 * t + 4) ≡ n_sequence s d t
  unfolding timelock_bytes field_bytes
  sequence_read = second_read 4 (n_lock_time s d base) (n_sequence s d) (count s) out room t low
