-- 29, then 30, then 31.
use Rattle.std.proofs.lemmas.Result.{err_from_is_err_and}
use Rattle.call_blocks.specs.BlockList.{list_tests}
use Rattle.call_blocks.proofs.Tested.{ledger_by}
use Rattle.sheet.proofs.Refusing.{stops, goes, there, last}
use Rattle.call_blocks.proofs.block_list.list_refusal.Goals as goal

pub returns-in_err-require : goal.returns-in_err-require
unfolding list_tests
returns-in_err-require c =
    stops _ _ _ _ _ c.in_err-require.ensures c.fields_named.ensures (err_from_is_err_and _ c.from_residual.ensures.1)

pub returns-in_err-require-2 : goal.returns-in_err-require-2
unfolding list_tests
returns-in_err-require-2 c =
    goes _ _ _ _ c.in_ok-require.ensures c.fields_named.ensures
    (stops _ _ _ _ _ c.in_err-require-2.ensures c.entries_rise.ensures (err_from_is_err_and _ c.from_residual-in_err-require-2.ensures.1))

pub ledger_accepts-requires : goal.ledger_accepts-requires
ledger_accepts-requires c = record { checked = c.requires.checked; list_value = there _ _ _ c.in_ok-require.ensures c.fields_named.ensures }

pub returns : goal.returns
unfolding list_tests
returns c =
    goes _ _ _ _ c.in_ok-require.ensures c.fields_named.ensures
    (goes _ _ _ _ c.in_ok-require-2.ensures c.entries_rise.ensures
    (last _ _ _ _ c.require-3.ensures (ledger_by _ _ _ _ _ c.per_day.ensures c.ledger_accepts.ensures)))
