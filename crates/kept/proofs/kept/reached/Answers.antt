-- The rounds over what each needs.
use Rattle.kept.proofs.Rounds.{reached_by}
use Rattle.kept.proofs.kept.reached.Goals as goal

pub returns : goal.returns
returns c = reached_by _ _ _ _ c.all_needs-needs.ensures c.good-found.ensures
