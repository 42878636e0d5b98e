-- Made of its parts.
use Rattle.position.specs.Position.{slot}
use Rattle.position.proofs.Guards.{send_guards_made}
use Rattle.laws.proofs.Prelude.{ap, ◌∙◌, bit}
use Rattle.position.proofs.Position.send_guards.Goals as goal

pub returns : goal.returns
unfolding slot
returns c = send_guards_made _ _ _ _ _ c.conduct-way.ensures c.phase.ensures (c.has.ensures ∙ ap (λ m. bit m 3) c.keys.ensures)
