-- None in an empty block; else those that stay.
use Rattle.laws.proofs.Prelude.{◌∙◌}
use Rattle.settle.proofs.Answers.{none_settling, staying_settles}
use Rattle.settle.proofs.settling.Goals as goal

pub returns-then-entries-eq0 : goal.returns-then-entries-eq0
returns-then-entries-eq0 c = none_settling _ _ _ _ c.requires.checked _ c.entries-entries.ensures c.if-entries-eq0.true

pub returns : goal.returns
returns c =
    c.staying.ensures
    ∙ staying_settles _ _ _ _ c.requires.checked _ c.entries-entries.ensures _ _ (c.attainable-can.ensures.is _ _ _ c.read-others.ensures) c.due-due.ensures
