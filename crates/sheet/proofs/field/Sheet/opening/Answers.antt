-- An opening's parent byte is 255.
use Rattle.sheet.specs.Field.{opening}
use Rattle.sheet.proofs.field.Sheet.opening.Goals as goal

pub returns : goal.returns
unfolding opening
returns c = rw c.entry.ensures
