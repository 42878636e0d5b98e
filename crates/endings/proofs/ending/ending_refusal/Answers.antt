-- 33, then 34.
use Rattle.std.proofs.lemmas.Result.{err_from_is_err_and}
use Rattle.endings.specs.Ending.{ending_tests}
use Rattle.endings.proofs.Naming.{possible_by}
use Rattle.sheet.proofs.Refusing.{stops, goes, last}
use Rattle.endings.proofs.ending.ending_refusal.Goals as goal

pub returns-in_err-require : goal.returns-in_err-require
unfolding ending_tests
returns-in_err-require c =
    stops _ _ _ _ _ c.in_err-require.ensures c.ending_right.ensures (err_from_is_err_and _ c.from_residual.ensures.1)

pub returns : goal.returns
unfolding ending_tests
returns c =
    goes _ _ _ _ c.in_ok-require.ensures c.ending_right.ensures
    (last _ _ _ _ c.require-2.ensures (possible_by _ _ _ _ _ c.per_day.ensures c.is_possible.ensures))
