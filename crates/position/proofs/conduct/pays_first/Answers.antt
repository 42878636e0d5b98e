-- Careful, and of a contract transaction.
use Rattle.position.specs.Conduct.{is_careful}
use Rattle.laws.proofs.Prelude.{sym, ◌∙◌, eq-eqb, ne_eqb}
use Rattle.position.proofs.conduct.pays_first.Goals as goal

pub returns-then-conduct-ne-CAREFUL : goal.returns-then-conduct-ne-CAREFUL
unfolding is_careful
returns-then-conduct-ne-CAREFUL c = rw (ne_eqb _ 2 (λ z. c.if-conduct-ne-CAREFUL.true (c.conduct.ensures ∙ z)))

pub returns : goal.returns
unfolding is_careful
returns c = rw (eq-eqb _ _ (sym c.conduct.ensures ∙ c.if-conduct-ne-CAREFUL.false)) c.is_contract.ensures
