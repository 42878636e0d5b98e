-- Over the parent's block alone.
use Rattle.position.specs.Position.{block_of, deadline_in}
use Rattle.position.specs.Forms.View.{since_in}
use Rattle.position.proofs.SendTests.{since_parent_lem}
use Rattle.slots.proofs.Since.{deadline_since}
use Rattle.laws.proofs.Prelude.{◌≡◌, sym, length, length_of_map}
use Rattle.position.proofs.Position.deadline_in.Goals as goal

pub returns : goal.returns
unfolding deadline_in
returns c =
    let l : length c.args.self.slots ≡ 32 = search (length_of_map, c.well_formed) in
    record {
      is = rw (
        ← c.per_day.ensures,
        deadline_since c.args.sheet.now.bytes c.per_day.result
            (block_of c.args.self) (since_in c.args.sheet.now.bytes c.args.self c.args.t) c.args.t
            (sym (since_parent_lem c.args.sheet.now.bytes c.args.self l c.args.t)),
      )
          c.deadline_with.ensures.is;
      small = c.deadline_with.ensures.small;
    }
