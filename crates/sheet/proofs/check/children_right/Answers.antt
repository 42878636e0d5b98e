-- A contract transaction has a child, and a paying one has none: check 8.
use Rattle.sheet.proofs.ParentSets.{parent_child}
use Rattle.sheet.specs.Check.{children_right}
use borrow.Author.Rules.{rules}
use Rattle.sheet.proofs.check.children_right.Goals as goal

pub returns : goal.returns
unfolding children_right
returns c = rw (c.has.ensures, parent_child _ _ c.args.t (search rules) c.requires.parents, ← c.payees-contract.ensures)
