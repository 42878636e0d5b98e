-- Four stores.
use Rattle.laws.specs.Over.{stores_over}
use Rattle.laws.proofs.Prelude.{[], ◌∷◌, length-set, arith}
use Rattle.call_slack.proofs.row.write_counted.Goals as goal

pub bounds-out-1 : goal.bounds-out-1
bounds-out-1 c = simp length-set (omega arith)

pub bounds-out-2 : goal.bounds-out-2
bounds-out-2 c = simp length-set (omega arith)

pub returns : goal.returns
returns c = stores_over (c.args.t ∷ c.args.to ∷ c.args.due ∷ 0 ∷ []) c.args.out.now
