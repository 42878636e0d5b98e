-- Every transaction is in the full set.
use Rattle.sheet.proofs.ParentSets.{all_members}
use borrow.Author.Rules.{rules}
use Rattle.sheet.proofs.parents.all_parents.Goals as goal

pub returns : goal.returns
returns c = all_members _ _ _ (search rules) c.parents_of.ensures
