-- The number is written out.
use borrow.Author.Rules.{rules}
use Rattle.swap.specs.Version.{version, version_number}
use Rattle.swap.proofs.swap_version.Goals as goal

pub returns : goal.returns
unfolding version version_number
returns c = search rules
