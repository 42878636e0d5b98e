-- The lowest bit that is left.
use Rattle.laws.proofs.Prelude.{rules}
use Rattle.slots.proofs.Members.{least_taken, least_lower}
use Rattle.slots.proofs.next.RestIterator.next.Goals as goal

pub returns-clause-steps : goal.returns-clause-steps
returns-clause-steps c = rw c.remove-self.ensures (least_taken _ c.if-self-eq0.false (search rules))

pub returns-clause-goes : goal.returns-clause-goes
returns-clause-goes c =
    let l = least_lower _ _ _ (least_taken c.args.self.now.left c.if-self-eq0.false (search rules)) in
    record { on = λ f. (tt, tt, rw c.remove-self.ensures l); keeps = tt; rests = λ f. tt }
