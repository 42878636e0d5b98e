-- Each example's number, by computation.
use Rattle.std.proofs.Common.{refl}
use Rattle.sheet.proofs.Opened.{opened}
use Rattle.refusals.proofs.setups.Goals as goal

pub setup_gives-requires : goal.setup_gives-requires
unfolding opened
setup_gives-requires c = refl

pub setup_gives-requires-2 : goal.setup_gives-requires-2
unfolding opened
setup_gives-requires-2 c = refl

pub setup_gives-requires-3 : goal.setup_gives-requires-3
unfolding opened
setup_gives-requires-3 c = refl

pub setup_gives-requires-4 : goal.setup_gives-requires-4
unfolding opened
setup_gives-requires-4 c = refl

pub setup_gives-requires-5 : goal.setup_gives-requires-5
unfolding opened
setup_gives-requires-5 c = refl

pub setup_gives-requires-6 : goal.setup_gives-requires-6
unfolding opened
setup_gives-requires-6 c = refl

pub setup_gives-requires-7 : goal.setup_gives-requires-7
unfolding opened
setup_gives-requires-7 c = refl
