-- One name that opens every definition of this crate and the sheet's, for proofs by computation: `unfolding opened`.
-- Assumes nothing.
use Rattle.laws.proofs.Prelude.{gather, bytes_of, number_at, bit, over}
use Rattle.sheet.proofs.Opened as sheet
use Rattle.call_timelocks.specs.Bitcoin.{clock, is_final, relative, value, reached, admitted}
use Rattle.call_timelocks.specs.Fields.{n_lock_time, n_sequence, field_bytes, timelock_bytes}
use Rattle.call_timelocks.specs.Limits.{relative_right, absolute_right, limit_tests}
use Rattle.call_timelocks.specs.Timelocks.{field_tests, field_refusal, timelocks_tests, timelocks_answer}

unfoldable pub opened : Unit {0}
unfolding sheet.opened gather bytes_of number_at bit over clock is_final relative value reached admitted n_lock_time n_sequence field_bytes timelock_bytes relative_right absolute_right limit_tests field_tests field_refusal timelocks_tests timelocks_answer
opened = tt
