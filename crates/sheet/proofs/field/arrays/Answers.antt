-- Behind the head: three bytes and the start masks.
use Rattle.sheet.specs.Field.{arrays}
use borrow.Author.Rules.{rules}
use Rattle.sheet.proofs.field.arrays.Goals as goal

pub returns : goal.returns
unfolding arrays
returns c = record { is = rw (← c.parties.ensures.is); head = search rules; small = search rules }
