-- None for an opening; else the least of its rivals' that are above the own one.
use Rattle.slots.proofs.Deadlines.{deadline_opening}
use Rattle.laws.proofs.Prelude.{sym, ◌∙◌, rules}
use Rattle.slots.proofs.deadline.deadline.Goals as goal

pub returns-then-opening : goal.returns-then-opening
returns-then-opening c = record { is = deadline_opening _ _ _ _ (sym c.opening.ensures ∙ c.if-opening.true); small = search rules }

pub deadline_among-requires : goal.deadline_among-requires
deadline_among-requires c = let h = sym c.opening.ensures ∙ c.if-opening.false in search rules

pub returns : goal.returns
returns c = c.deadline_among.ensures
