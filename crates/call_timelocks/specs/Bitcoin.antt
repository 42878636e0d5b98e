-- Bitcoin's public rules on the blocks that a time-locked transaction may stand in: nLockTime, and nSequence by BIP 68. The transaction
-- has one input, which spends an output of its parent.
-- Assumes nothing.
use Rattle.std.specs.Prelude.{ℕ, ◌+◌, ◌*◌, ◌%◌, Bool, not, ◌&&◌, ◌||◌, eqb, ltb, leb}
use Rattle.laws.specs.Booleans.{pick}
use Rattle.laws.specs.Mask.{bit}

-- the fields that lock a transaction
pub record Transaction : Type 0 where
  pub version : ℕ
  pub lock_time : ℕ
  pub sequence : ℕ

-- what locks are measured by in a block: its height, and the median time past of the blocks before it, in seconds
pub record Block : Type 0 where
  pub height : ℕ
  pub time : ℕ

-- LOCKTIME_THRESHOLD: an nLockTime below it is a height, from it on a time
abbrev pub threshold : ℕ
threshold = 500000000

-- SEQUENCE_FINAL, FFFFFFFF in hexadecimal
abbrev pub final : ℕ
final = 4294967295

-- what nLockTime is held to
unfoldable pub clock : Transaction → Block → ℕ
clock x at = pick (ltb x.lock_time threshold) at.height at.time

-- IsFinalTx: nLockTime is 0, or it is passed, or every input's sequence is final
unfoldable pub is_final : Transaction → Block → Bool
is_final x at = eqb x.lock_time 0 || (ltb x.lock_time (clock x at) || eqb x.sequence final)

-- BIP 68 is in force: version 2 or more, and the disable flag (SEQUENCE_LOCKTIME_DISABLE_FLAG), bit 31 of nSequence, is not set
unfoldable pub relative : Transaction → Bool
relative x = leb 2 x.version && not (bit x.sequence 31)

-- its value: the low 16 bits of nSequence (SEQUENCE_LOCKTIME_MASK)
unfoldable pub value : Transaction → ℕ
value x = x.sequence % 65536

-- BIP 68: with the type flag (SEQUENCE_LOCKTIME_TYPE_FLAG), bit 22, the value counts units of 512 seconds, else blocks. A parent in a
-- block at height p: the child may stand in a block from height p + value on
unfoldable pub reached : Transaction → Block → Block → Bool
reached x from at =
    pick (bit x.sequence 22)
    (leb (from.time + 512 * value x) at.time)
    (leb (from.height + value x) at.height)

-- the transaction may stand in block `at`, its parent in block `from`
unfoldable pub admitted : Transaction → Block → Block → Bool
admitted x from at = is_final x at && (not (relative x) || reached x from at)
