-- The count is byte 0, without the mark of a third party.
use Rattle.sheet.specs.Field.{count}
use borrow.Author.Rules.{rules}
use Rattle.sheet.proofs.field.count.Goals as goal

pub returns : goal.returns
unfolding count
returns c = search rules
