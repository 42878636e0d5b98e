-- What is lacking, by what is read.
use Rattle.std.proofs.Common.{rules, tests}
use Rattle.laws.proofs.Prelude.{refl}
use Rattle.laws.specs.Mask.{bit}
use Rattle.soonest.proofs.Tables.{filled_of}
use Rattle.sheet.specs.Field.{required}
use Rattle.position.specs.Position.{slot, shared}
use Rattle.slack.specs.Beaten.{destination_of, pooled}
use Rattle.prospect.proofs.Marked.{mark}
use Rattle.prospect.proofs.Rows.{lacks_tell}
use Rattle.prospect.proofs.pool.lacks.Goals as goal

pub returns : goal.returns
unfolding slot shared
returns c =
    filled_of _ _ _ _ (rw c.count.ensures.is at c.filled.ensures)
    (λ k v l e.
    lacks_tell c.args.sheet.now.bytes c.args.sheet.now.bytes c.args.position c.args.party c.requires.checked k l
    (bit c.args.held k) (required c.args.sheet.now.bytes k) (shared c.args.position k (destination_of c.args.sheet.now.bytes c.args.party k))
    (mark _ c.requires.checked _ (pooled c.args.sheet.now.bytes c.args.position c.args.party) c.requires.held_value k l)
    refl refl (search (rules, tests)) v (search (rules, tests)))
