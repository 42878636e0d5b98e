-- The heights in the places before i.
use Rattle.laws.proofs.Prelude.{refl, rules}
use Rattle.prospect.proofs.Cells.{cells_start, cells_more, cells_done}
use Rattle.prospect.proofs.until.until.Goals as goal

pub loop-i-init : goal.loop-i-init
loop-i-init c = (c.find-found.ensures.holds, cells_start _ _ refl)

pub next-found-requires : goal.next-found-requires
next-found-requires c = record { checked = c.requires.checked; holds = c.loop-i.invariant.0; sound = c.requires.sound; t_bound = search rules; k_bound = search rules }

pub loop-i-preserved : goal.loop-i-preserved
loop-i-preserved c = (c.next-found.ensures.holds_2, cells_more _ _ _ _ c.loop-i.invariant.1 (search rules) c.next-found.ensures.lasts)

pub returns : goal.returns
returns c = cells_done _ _ _ _ c.loop-i-test.false c.loop-i.invariant.1
