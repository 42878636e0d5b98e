-- Locks in Bitcoin's own fields.
-- Assumes nothing.
use Rattle.laws.proofs.Prelude.{◌-◌, ◌≡◌, refl, true, false, [], ◌∷◌, leb, either, all_at}
use Rattle.sheet.specs.Field.{count}
use Rattle.sheet.specs.Setup.{per_day}
use Rattle.sheet.specs.LockHeight.{lock_height}
use Rattle.call_timelocks.specs.Bitcoin.{admitted}
use Rattle.call_timelocks.specs.Fields.{n_lock_time, n_sequence}
use Rattle.call_timelocks.specs.Timelocks.{field_refusal}
use Rattle.call_timelocks.specs.Limits.{relative_right, absolute_right}
use Rattle.call_timelocks.specs.Claim.{boxed, real, FieldsExact, WrittenExact, LimitsNeeded}
use Rattle.call_timelocks.proofs.Tight.{relative_tight, absolute_tight}
use Rattle.call_timelocks.proofs.Opened.{opened}
use Rattle.call_timelocks.proofs.Examples.{pair}
use Rattle.call_timelocks.proofs.Answers.{field_fit, all_relative, all_absolute, accepted_whole}
use Rattle.call_timelocks.proofs.SameLocks.{locks_same, fields_small}
use Rattle.call_timelocks.proofs.Read.{lock_time_read, sequence_read}

-- For every sheet, setup and base that get neither 26 nor 27, Bitcoin admits each transaction of version 2 with its two numbers to a
-- block exactly if the model's lock height is reached there.
pub fields_exact : FieldsExact
fields_exact s u base t h l =
    locks_same s (per_day u) base t
    ((field_fit s u base h).checked.entries t l).lock_pair_lem
    (all_at (count s) (relative_right s (per_day u)) (all_relative s u base h) t l)
    (all_at (count s) (absolute_right s (per_day u) base) (all_absolute s u base h) t l)

-- The same of the bytes that the call writes.
pub written_exact : WrittenExact
written_exact s u base out t h l =
    let w = accepted_whole s u base out h in
    let small =
    fields_small s (per_day u) base t
    ((field_fit s u base w.0).checked.entries t l).lock_pair_lem
    (all_at (count s) (relative_right s (per_day u)) (all_relative s u base w.0) t l)
    (all_at (count s) (absolute_right s (per_day u) base) (all_absolute s u base w.0) t l) in
    rw (w.2, lock_time_read s (per_day u) base out w.1 t l small.0, sequence_read s (per_day u) base out w.1 t l small.1)
    (fields_exact s u base t w.0 l)

-- Both limits are needed, whatever gets them.
pub limits_needed : LimitsNeeded
limits_needed s u base h = either h (relative_tight s u base) (absolute_tight s u base)

-- By example, 26: a value of 65,536 has 0 in its low 16 bits, and Bitcoin would admit the child to its parent's own block, at once.
pub relative_needed : (field_refusal (pair 2 255) (1 ∷ 1 ∷ 0 ∷ 0 ∷ []) 0 ≡ 26)
    × (admitted (boxed (n_lock_time (pair 2 255) 257 0 1) (n_sequence (pair 2 255) 257 1)) (real 0 1 0) (real 0 1 0) ≡ true)
    × (leb (lock_height (pair 2 255) 257 (λ k. 1) 1) (1 - 1) ≡ false)
unfolding opened pair
relative_needed = (refl, refl, refl)

-- By example, 27: from 500,000,000 on nLockTime is a time. It would be passed before the lock height, by today's time, and by an earlier
-- time not be passed after it.
pub absolute_needed : (field_refusal (pair 1 1) (1 ∷ 0 ∷ 0 ∷ 0 ∷ []) 499999999 ≡ 27)
    × (admitted (boxed (n_lock_time (pair 1 1) 1 499999999 1) (n_sequence (pair 1 1) 1 1)) (real 499999999 1 0) (real 499999999 1 1690000000) ≡ true)
    × (leb (lock_height (pair 1 1) 1 (λ k. 1) 1) (1 - 1) ≡ false)
    × (admitted (boxed (n_lock_time (pair 1 1) 1 499999999 1) (n_sequence (pair 1 1) 1 1)) (real 499999999 1 0) (real 499999999 2 0) ≡ false)
    × (leb (lock_height (pair 1 1) 1 (λ k. 1) 1) (2 - 1) ≡ true)
unfolding opened pair
absolute_needed = (refl, refl, refl, refl, refl)
