-- A rival in the set without t.
use Rattle.slots.proofs.ConflictSets.{conflict_in_removed}
use Rattle.slots.specs.Conflict.{conflict_in}
use Rattle.laws.proofs.Prelude.{bit, ap, ◌∙◌, rules}
use Rattle.slots.proofs.conflict.other_conflict_in.Goals as goal

pub returns : goal.returns
returns c =
    c.conflict_in.ensures
    ∙ (ap (λ m. conflict_in c.args.sheet.now.bytes (bit m) c.args.t) c.remove.ensures
    ∙ conflict_in_removed _ _ _ (search rules) (search rules))
