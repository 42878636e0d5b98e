-- By the guards of a careful Alice.
use Rattle.laws.proofs.Prelude.{tests}
use Rattle.position.proofs.Rules.{is_careful}
use Rattle.attainable.specs.Attainable.{forgone}
use Rattle.attainable.proofs.Forgoing.{guards_forgone}
use Rattle.attainable.proofs.read.forgone.Goals as goal

pub returns-then-conduct-ne-CAREFUL : goal.returns-then-conduct-ne-CAREFUL
unfolding forgone is_careful
returns-then-conduct-ne-CAREFUL c = simp (tests, ← c.conduct.ensures, c.if-conduct-ne-CAREFUL.true)

pub returns : goal.returns
returns c = guards_forgone _ _ _ _ _ _ _ c.conduct.ensures c.if-conduct-ne-CAREFUL.false c.alice_guards.ensures c.send_allowed.ensures
