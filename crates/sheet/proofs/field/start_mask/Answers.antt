-- A byte of the head.
use Rattle.sheet.specs.Field.{arrays}
use borrow.Author.Rules.{rules}
use Rattle.sheet.proofs.field.start_mask.Goals as goal

pub overflow_add-result : goal.overflow_add-result
unfolding arrays
overflow_add-result c = search rules

pub bounds-sheet-k : goal.bounds-sheet-k
unfolding arrays
bounds-sheet-k c = search rules
