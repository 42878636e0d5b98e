-- As it stands where none settles; else with those confirmed.
use Rattle.laws.proofs.Prelude.{◌∙◌}
use Rattle.settle.proofs.Answers.{none_settled, confirmed_settled}
use Rattle.settle.proofs.settled.Goals as goal

pub returns-then-members-eq0 : goal.returns-then-members-eq0
returns-then-members-eq0 c = none_settled _ _ _ _ c.requires.fit.checked _ c.settling-members.ensures c.if-members-eq0.true

pub returns : goal.returns
returns c = c.confirm.ensures ∙ confirmed_settled _ _ _ _ c.requires.fit.checked _ c.settling-members.ensures
