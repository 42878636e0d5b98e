-- None where the set is empty.
use Rattle.position.proofs.Due.{any_due_owed, none_owed}
use Rattle.laws.proofs.Prelude.{length_of_map, rules}
use Rattle.position.proofs.Position.any_owed.Goals as goal

pub returns-then-among-eq0 : goal.returns-then-among-eq0
returns-then-among-eq0 c = none_owed _ _ _ _ c.requires.fit.checked.sized.few (search (length_of_map, c.well_formed)) c.requires.view_value (search rules) (search rules) c.if-among-eq0.true

pub returns : goal.returns
returns c = any_due_owed _ _ _ _ c.requires.fit.checked.sized.few (search (length_of_map, c.well_formed)) c.requires.view_value (search rules) (search rules) _ _ c.per_day.ensures c.any_due.ensures
