-- Each example's number, by computation.
use Rattle.std.proofs.Common.{refl}
use Rattle.sheet.proofs.Opened.{opened}
use Rattle.refusals.proofs.sheets.Goals as goal

pub sheet_gives-requires : goal.sheet_gives-requires
unfolding opened
sheet_gives-requires c = refl

pub sheet_gives-requires-2 : goal.sheet_gives-requires-2
unfolding opened
sheet_gives-requires-2 c = refl

pub sheet_gives-requires-3 : goal.sheet_gives-requires-3
unfolding opened
sheet_gives-requires-3 c = refl

pub sheet_gives-requires-4 : goal.sheet_gives-requires-4
unfolding opened
sheet_gives-requires-4 c = refl

pub sheet_gives-requires-5 : goal.sheet_gives-requires-5
unfolding opened
sheet_gives-requires-5 c = refl

pub sheet_gives-requires-6 : goal.sheet_gives-requires-6
unfolding opened
sheet_gives-requires-6 c = refl

pub sheet_gives-requires-7 : goal.sheet_gives-requires-7
unfolding opened
sheet_gives-requires-7 c = refl

pub sheet_gives-requires-8 : goal.sheet_gives-requires-8
unfolding opened
sheet_gives-requires-8 c = refl

pub sheet_gives-requires-9 : goal.sheet_gives-requires-9
unfolding opened
sheet_gives-requires-9 c = refl
