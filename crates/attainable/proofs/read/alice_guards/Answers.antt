-- Made of its parts.
use Rattle.laws.proofs.Prelude.{ap, ◌∙◌, bit}
use Rattle.position.proofs.Rules.{slot}
use Rattle.attainable.proofs.Forgoing.{guards_made}
use Rattle.attainable.proofs.read.alice_guards.Goals as goal

pub returns : goal.returns
unfolding slot
returns c = guards_made _ _ (c.has.ensures ∙ ap (λ m. bit m 3) c.keys.ensures)
