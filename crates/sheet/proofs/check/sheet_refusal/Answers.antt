-- The first of the checks 1 to 8 that fails.
use Rattle.std.proofs.lemmas.Result.{err_from_is_err_and}
use Rattle.sheet.specs.Check.{sheet_tests, sheet_refusal}
use Rattle.sheet.proofs.Passed.{head_there, arrays_there, count_few, signatures_few, sized}
use Rattle.sheet.proofs.Refusing.{stops, goes, there}
use Rattle.sheet.proofs.check.sheet_refusal.Goals as goal

pub returns-in_err-require : goal.returns-in_err-require
unfolding sheet_refusal sheet_tests
returns-in_err-require c =
    stops _ _ _ _ _ c.in_err-require.ensures c.head_right.ensures (err_from_is_err_and _ c.from_residual.ensures.1)

pub count_right-requires : goal.count_right-requires
count_right-requires c = head_there _ (there _ _ _ c.in_ok-require.ensures c.head_right.ensures)

pub returns-in_err-require-2 : goal.returns-in_err-require-2
unfolding sheet_refusal sheet_tests
returns-in_err-require-2 c =
    goes _ _ _ _ c.in_ok-require.ensures c.head_right.ensures
    (stops _ _ _ _ _ c.in_err-require-2.ensures c.count_right.ensures (err_from_is_err_and _ c.from_residual-in_err-require-2.ensures.1))

pub signatures_right-requires : goal.signatures_right-requires
signatures_right-requires c = let h = there _ _ _ c.in_ok-require.ensures c.head_right.ensures in record { in_bounds = head_there _ h; sheet_in_bounds = arrays_there _ h }

pub returns-in_err-require-3 : goal.returns-in_err-require-3
unfolding sheet_refusal sheet_tests
returns-in_err-require-3 c =
    goes _ _ _ _ c.in_ok-require.ensures c.head_right.ensures
    (goes _ _ _ _ c.in_ok-require-2.ensures c.count_right.ensures
    (stops _ _ _ _ _ c.in_err-require-3.ensures c.signatures_right.ensures (err_from_is_err_and _ c.from_residual-in_err-require-3.ensures.1)))

pub length_right-requires : goal.length_right-requires
length_right-requires c = record { in_bounds = head_there _ (there _ _ _ c.in_ok-require.ensures c.head_right.ensures); sheet_bound = count_few _ (there _ _ _ c.in_ok-require-2.ensures c.count_right.ensures) }

pub returns-in_err-require-4 : goal.returns-in_err-require-4
unfolding sheet_refusal sheet_tests
returns-in_err-require-4 c =
    goes _ _ _ _ c.in_ok-require.ensures c.head_right.ensures
    (goes _ _ _ _ c.in_ok-require-2.ensures c.count_right.ensures
    (goes _ _ _ _ c.in_ok-require-3.ensures c.signatures_right.ensures
    (stops _ _ _ _ _ c.in_err-require-4.ensures c.length_right.ensures (err_from_is_err_and _ c.from_residual-in_err-require-4.ensures.1))))

pub of-requires : goal.of-requires
of-requires c = sized _ (there _ _ _ c.in_ok-require-2.ensures c.count_right.ensures) (there _ _ _ c.in_ok-require-4.ensures c.length_right.ensures)

pub array_refusal-requires : goal.array_refusal-requires
array_refusal-requires c = record { sheet_bound = rw c.of.ensures (signatures_few _ (there _ _ _ c.in_ok-require-3.ensures c.signatures_right.ensures)) }

pub returns : goal.returns
unfolding sheet_refusal sheet_tests
returns c =
    goes _ _ _ _ c.in_ok-require.ensures c.head_right.ensures
    (goes _ _ _ _ c.in_ok-require-2.ensures c.count_right.ensures
    (goes _ _ _ _ c.in_ok-require-3.ensures c.signatures_right.ensures
    (goes _ _ _ _ c.in_ok-require-4.ensures c.length_right.ensures
    (rw (← c.of.ensures) c.array_refusal.ensures))))
