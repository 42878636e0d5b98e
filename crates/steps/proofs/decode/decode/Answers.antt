-- What is spelled, with its fields checked.
use Rattle.steps.specs.Decode.{range_checked, decode}
use Rattle.laws.proofs.Prelude.{ap, ◌∙◌}
use Rattle.steps.proofs.decode.decode.Goals as goal

pub returns : goal.returns
unfolding decode
returns c = c.range_checked.ensures ∙ ap (range_checked c.args.sheet.now.bytes c.args.setup.now) c.spelled.ensures
