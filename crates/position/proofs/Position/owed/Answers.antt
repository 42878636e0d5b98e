-- Over the view and the parent's block.
use Rattle.laws.proofs.Prelude.{◌∙◌, ◌≡◌, length, length_of_map}
use Rattle.position.proofs.MineTests.{owed_view}
use Rattle.position.proofs.SendTests.{since_parent_lem}
use borrow.Author.Rules.{rules}
use Rattle.position.proofs.Position.owed.Goals as goal

pub returns : goal.returns
returns c =
    let l : length c.args.self.slots ≡ 32 = search (length_of_map, c.well_formed) in
    rw (c.owed_at.ensures, c.per_day.ensures, c.since-since.ensures ∙ since_parent_lem _ _ l _, c.requires.view_value) (owed_view _ _ _ (search rules) _ (search rules))
