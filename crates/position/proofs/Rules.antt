-- What the proofs of calls and claims name of the rules: sheets, transactions, steps and positions.
-- Assumes nothing.
unfoldable pub use Rattle.ledger.specs.Coin.{coin_of}
pub use Rattle.ledger.specs.Coin.{nobody}
unfoldable pub use Rattle.ledger.specs.Entry.{before, in_order}
pub use Rattle.ledger.specs.Entry.{Entry}
unfoldable pub use Rattle.ledger.specs.Ledger.{enter, fits, keep, ledger, ledger_holder, lock_from, none_kept}
pub use Rattle.ledger.specs.Ledger.{Books, Kept}
unfoldable pub use Rattle.position.specs.Answers.{fitted, list_answer, pass_on}
pub use Rattle.position.specs.Answers.{Written}
unfoldable pub use Rattle.position.specs.Conduct.{alice_gives, alice_shares, bob_gives, can_pay, conduct_allows, is_careful, is_open, late, may_give, may_share, paying_first}
unfoldable pub use Rattle.position.specs.Conduct.{paying_passes, phase, safe_to_send, secret_safe, send_allowed, success_unshared}
unfoldable pub use Rattle.position.specs.Effect.{after_bump, after_give, after_hand_in, after_include, after_mine, after_send, after_share, bump_slot, change_slot}
unfoldable pub use Rattle.position.specs.Effect.{change_slots, effect, leaves_block, leaves_pool, mine_slot, share_each, share_one, with_key, with_mined, with_slots}
unfoldable pub use Rattle.position.specs.FirstShares.{first_shares, first_shares_made}
unfoldable pub use Rattle.position.specs.Forms.Journal.{step_at}
unfoldable pub use Rattle.position.specs.Forms.View.{since_in, view_below}
unfoldable pub use Rattle.position.specs.Holder.{holder_in}
unfoldable pub use Rattle.position.specs.Open.{actor_at, actor_steps, if_accepted, list_bytes, listed_before, open_at, open_of, open_steps}
pub use Rattle.position.specs.Open.{actors, kinds}
unfoldable pub use Rattle.position.specs.Owed.{any_owed, enters, owed, waiting}
unfoldable pub use Rattle.position.specs.Play.{accepted_of, block_entries, call_tests, confirmed_entries, confirms, decode_bytes, journal_bytes, journal_right}
unfoldable pub use Rattle.position.specs.Play.{journal_steps, play, run, run_from, step, take_decoded, take_step}
pub use Rattle.position.specs.Play.{FourBytes}
unfoldable pub use Rattle.position.specs.Position.{block_of, block_to, confirmed_to, deadline_in, holds, in_block, in_pool, is_confirmed, keys, lock_height_in, marked}
unfoldable pub use Rattle.position.specs.Position.{placed, pool_to, sender_has, sent, shared, slot, start, start_held}
pub use Rattle.position.specs.Position.{slot_count}
unfoldable pub use Rattle.position.specs.Printed.{printed_line}
unfoldable pub use Rattle.position.specs.Report.{full_row, payee, report_bytes, row, status}
pub use Rattle.position.specs.Report.{unconfirmed}
unfoldable pub use Rattle.position.specs.StepRefusal.{step_refusal}
unfoldable pub use Rattle.position.specs.Tests.{bump_tests, give_met, give_tests, include_tests, mine_tests, miner_tests, pool_tests, send_tests, share_met, share_tests}
pub use Rattle.position.specs.Tests.{block_limit}
unfoldable pub use Rattle.readings.specs.Forms.Context.{gives_in, may_stand, party_may, refusal_in, share_new_in}
unfoldable pub use Rattle.readings.specs.Forms.Report.{dead_in}
unfoldable pub use Rattle.readings.specs.Holder.{is_payout, is_payout_to}
unfoldable pub use Rattle.readings.specs.Reported.{reported_holder, reported_line, reported_payee, reported_status}
pub use Rattle.readings.specs.Reported.{row_width}
pub use Rattle.readings.specs.declared.Context.{Context}
unfoldable pub use Rattle.sheet.specs.Check.{array_tests, sheet_refusal, sheet_tests}
pub use Rattle.sheet.specs.Checked.{Checked, Fit, LockPair, SetupChecked, absolute, since}
unfoldable pub use Rattle.sheet.specs.Field.{arrays, count, entry, opening, parties, party_at, place, start_keys}
pub use Rattle.sheet.specs.Field.{byte, lock_type, parent, payees, required, secrets, signatures, start_mask, veil}
unfoldable pub use Rattle.sheet.specs.LockHeight.{lock_blocks, lock_height, since_parent}
pub use Rattle.sheet.specs.LockHeight.{never}
pub use Rattle.sheet.specs.Refusal.{accepted, buffer_short, journal_length, setup_blocks, step_conduct, step_conflict, step_field, step_lock, step_parent, step_signatures}
unfoldable pub use Rattle.sheet.specs.Saswap.{saswap, saswap_at}
unfoldable pub use Rattle.sheet.specs.Setup.{conduct_right, parties_right, per_day, setup_refusal, setup_tests}
pub use Rattle.sheet.specs.Setup.{conduct, stealth}
unfoldable pub use Rattle.slots.specs.Ancestry.{has_parent, is_self_or_ancestor, meets_conflict, meets_other}
unfoldable pub use Rattle.slots.specs.Conflict.{conflict, conflict_in, no_conflict}
unfoldable pub use Rattle.slots.specs.Deadline.{deadline}
unfoldable pub use Rattle.slots.specs.Destination.{destination_number, is_contract, is_payee}
pub use Rattle.slots.specs.Destination.{alice, bob, carol, contract, destinations, is_party, miner}
unfoldable pub use Rattle.slots.specs.Forms.Conflict.{found_in}
unfoldable pub use Rattle.slots.specs.Invalidated.{invalidated}
unfoldable pub use Rattle.slots.specs.Signatures.{exposed_mask, sender_mask, share_mask, shared_secrets, signed}
unfoldable pub use Rattle.slots.specs.Slot.{entry_for, entry_to, marked_for, marks_of, shared_any, shared_for, standing, with_block, with_confirmed, with_mark, with_pool}
unfoldable pub use Rattle.slots.specs.Slot.{with_shared}
pub use Rattle.slots.specs.Slot.{empty_slot}
pub use Rattle.slots.specs.declared.Destination.{Destination}
pub use Rattle.slots.specs.declared.Destination.TheVariants.{Alice, Bob, Carol, Contract}
pub use Rattle.slots.specs.declared.Slot.{Slot}
pub use Rattle.slots.specs.declared.Step.{Step}
pub use Rattle.slots.specs.declared.Step.TheVariants.{Bump, Give, HandToMiner, Include, Mine, SendToPool, Share}
unfoldable pub use Rattle.steps.specs.Conduct.{may_send}
unfoldable pub use Rattle.steps.specs.Decode.{decode, fields_right, first_share_fields, is_other, of_kind, range_checked, sends_to, shares_to, spelled, step_bytes}
pub use Rattle.steps.specs.Decode.{no_transaction}
unfoldable pub use Rattle.steps.specs.Forms.View.{keys_in}
unfoldable pub use Rattle.steps.specs.Mined.{confirm_entry}
pub use Rattle.steps.specs.Names.{lock_a, lock_b, refund1, refund2, revoke, secret_alice, secret_bob, sig_alice, sig_bob, spend_a, spend_b, spend_refund1_alice, spend_refund1_bob}
pub use Rattle.steps.specs.Names.{spend_refund2, spend_revoke, spend_success, spend_timeout, success, timeout}
pub use Rattle.std.specs.Prelude.{Option, Some, None}
pub use Rattle.steps.specs.declared.Guards.{Guards}
pub use Rattle.steps.specs.declared.View.{View}
