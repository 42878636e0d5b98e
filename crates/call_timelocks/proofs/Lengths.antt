-- The lengths of the two numbers' bytes, and of all of them.
-- Assumes nothing.
use Rattle.laws.proofs.Prelude.{ℕ, ◌*◌, ◌≤◌, ◌≡◌, List, length, gather, length_gather, length_pair}
use Rattle.sheet.specs.Field.{count}
use Rattle.call_timelocks.specs.Fields.{n_lock_time, n_sequence, field_bytes, timelock_bytes}

module _ (s : List ℕ) (d base : ℕ) where
  pub field_length : (t : ℕ) → length (field_bytes s d base t) ≡ 8
  unfolding field_bytes
  field_length t = length_pair 4 (n_lock_time s d base) (n_sequence s d) t

  pub bytes_length : length (timelock_bytes s d base) ≡ 8 * count s
  unfolding timelock_bytes
  bytes_length = length_gather (field_bytes s d base) 8 field_length (count s)

  -- they have room where eight bytes for each have
  pub fields_room : (m : ℕ) → 8 * count s ≤ m → length (gather (count s) (field_bytes s d base)) ≤ m
  fields_room m h = rw (length_gather (field_bytes s d base) 8 field_length (count s)) h
