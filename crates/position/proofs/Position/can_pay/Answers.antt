-- Some transaction pays.
use Rattle.std.proofs.Common.{rules, tests}
use Rattle.std.proofs.lemmas.Iterator.{YieldsList-from_range}
use Rattle.laws.proofs.Prelude.{refl, arith, length_of_map, ◌∙◌, ◌≡◌, length}
use Rattle.laws.proofs.Ranges.{any_of_range}
use Rattle.position.specs.Position.{slot}
use Rattle.position.proofs.Guards.{all_paid, pays_at}
use Rattle.position.proofs.Position.can_pay.Goals as goal

pub returns : goal.returns
unfolding pays_at slot
returns c =
    let l : length c.args.self.slots ≡ 32 = search (length_of_map, c.well_formed) in
    any_of_range c.count.result (pays_at c.args.sheet.now.bytes c.args.setup.now c.args.self c.args.view c.send_guards-o.result c.args.party) _ _ _ c.any.ensures.ran
    (YieldsList-from_range 0 _ _ refl (omega arith))
    (λ x b q k. search (rules, tests))
    ∙ rw c.count.ensures.is (all_paid _ _ _ _ _ _ c.requires.fit l c.requires.view_value c.send_guards-o.ensures)
