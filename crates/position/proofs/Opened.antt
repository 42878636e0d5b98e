-- One name that opens every definition of the rules, for proofs by computation: `unfolding opened`.
-- Assumes nothing.
use Rattle.sheet.proofs.Opened as sheet
use Rattle.laws.proofs.Prelude.{flat_map, climb_in, climb, rewrite_first, least_below, bit, subset, without, union_below, gather, every, bytes_of, number_at, over}
use Rattle.ledger.specs.Entry.{before, in_order}
use Rattle.ledger.specs.Coin.{coin_of}
use Rattle.ledger.specs.Ledger.{none_kept, lock_from, fits, keep, enter, ledger, entry_holder, ledger_holder}
use Rattle.slots.specs.Destination.{destination_number, is_payee, is_contract}
use Rattle.slots.specs.Slot.{standing, entry_for, entry_to, with_pool, with_block, with_confirmed, shared_for, with_shared, shared_any, marks_of, marked_for, with_mark}
use Rattle.slots.specs.Conflict.{conflict, conflict_in, other_conflict_in, no_conflict}
use Rattle.slots.specs.Ancestry.{in_ancestry, is_self_or_ancestor, meets_conflict, meets_other, has_parent}
use Rattle.slots.specs.Invalidated.{invalidated}
use Rattle.slots.specs.Deadline.{deadline}
use Rattle.slots.specs.Signatures.{shared_secrets, sender_mask, signed, share_mask, exposed_mask}
use Rattle.position.specs.Position.{start_held, start, slot, in_pool, pool_to, in_block, block_to, block_of, is_confirmed, confirmed_to, sent, placed, shared, keys, holds, marked, sender_has, lock_height_in, deadline_in}
use Rattle.steps.specs.Decode.{sends_to, shares_to, is_other, first_share_fields, fields_right, of_kind, spelled, range_checked, decode, step_bytes}
use Rattle.position.specs.FirstShares.{first_shares, first_shares_made}
use Rattle.position.specs.Owed.{waiting, owed, any_owed, enters}
use Rattle.position.specs.Tests.{share_met, share_tests, give_met, give_tests, send_tests, pool_tests, miner_tests, include_tests, block_met, mine_tests, bump_tests}
use Rattle.steps.specs.Conduct.{may_send}
use Rattle.position.specs.Conduct.{is_open, is_careful, phase, late, alice_shares, may_share, alice_gives, bob_gives, may_give, success_unshared, secret_safe, safe_to_send, send_allowed, paying_passes, can_pay, paying_first, conduct_allows}
use Rattle.position.specs.StepRefusal.{tests, step_refusal}
use Rattle.steps.specs.Mined.{confirm_entry}
use Rattle.position.specs.Effect.{with_slots, change_slot, change_slots, with_key, share_one, share_each, after_share, after_give, after_send}
use Rattle.position.specs.Effect.{after_hand_in, after_include, leaves_pool, mine_slot, with_mined, after_mine, leaves_block, bump_slot, after_bump, effect}
use Rattle.position.specs.Play.{journal_steps, journal_bytes, decode_bytes, take_step, take_decoded, step, run_from, journal_right, call_tests, run, play, accepted_of, block_entries, confirms, confirmed_entries}
use Rattle.position.specs.Open.{actor_at, if_accepted, open_at, open_of, actor_steps, open_steps, list_bytes}
use Rattle.readings.specs.Holder.{confirmed_child, ends_coin, payee_below, holder, is_payout, is_payout_to}
use Rattle.readings.specs.Reported.{reported_status, reported_payee, reported_confirmed, reported_line, row_line, reported_count, reported_holder}
use Rattle.position.specs.Report.{status, payee, row, full_row, report_bytes}
use Rattle.position.specs.Holder.{holder_in}
use Rattle.position.specs.Answers.{packed, run_part, fitted, pass_on, list_answer}
use Rattle.position.specs.Printed.{printed_line, printed_lines, printed}

unfoldable pub opened : Unit {0}
unfolding sheet.opened flat_map climb_in climb rewrite_first least_below bit subset without union_below gather every bytes_of number_at over before
    in_order coin_of none_kept lock_from fits keep enter ledger entry_holder ledger_holder destination_number is_payee is_contract standing entry_for
    entry_to with_pool with_block with_confirmed shared_for with_shared shared_any marks_of marked_for with_mark conflict conflict_in other_conflict_in
    no_conflict in_ancestry is_self_or_ancestor meets_conflict meets_other has_parent invalidated deadline shared_secrets sender_mask signed share_mask
    exposed_mask start_held start slot in_pool pool_to in_block block_to block_of is_confirmed confirmed_to sent placed shared keys holds marked
    sender_has lock_height_in deadline_in sends_to shares_to is_other first_share_fields fields_right of_kind spelled range_checked decode step_bytes
    first_shares first_shares_made waiting owed any_owed enters share_met share_tests give_met give_tests send_tests pool_tests miner_tests
    include_tests block_met mine_tests bump_tests is_open is_careful phase late alice_shares may_share alice_gives bob_gives may_give may_send
    success_unshared secret_safe safe_to_send send_allowed paying_passes can_pay paying_first conduct_allows tests step_refusal with_slots change_slot
    change_slots with_key share_one share_each after_share after_give after_send after_hand_in after_include leaves_pool confirm_entry mine_slot
    with_mined after_mine leaves_block bump_slot after_bump effect journal_steps journal_bytes decode_bytes take_step take_decoded step run_from
    journal_right call_tests run play accepted_of block_entries confirms confirmed_entries actor_at if_accepted open_at open_of actor_steps open_steps
    list_bytes status payee row full_row report_bytes reported_status reported_payee reported_confirmed reported_line row_line reported_count
    confirmed_child ends_coin payee_below holder holder_in reported_holder is_payout is_payout_to packed run_part fitted pass_on list_answer
    printed_line printed_lines printed
opened = tt
