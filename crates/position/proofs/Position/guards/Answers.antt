-- Open, or made of its parts.
use Rattle.position.specs.Position.{slot}
use Rattle.position.specs.Conduct.{is_open}
use Rattle.position.specs.Forms.Guards.{open_guards, guards}
use Rattle.position.proofs.Guards.{success_there, guards_made}
use Rattle.laws.proofs.Prelude.{sym, ap, ◌∙◌, eq-eqb, bit}
use Rattle.position.proofs.Position.guards.Goals as goal

pub returns-then-way-eq-OPEN : goal.returns-then-way-eq-OPEN
unfolding guards open_guards is_open
returns-then-way-eq-OPEN c = rw (eq-eqb _ _ (sym c.conduct-way.ensures ∙ c.if-way-eq-OPEN.true))

pub late-requires : goal.late-requires
late-requires c = record { fit = c.requires.fit; bound = success_there c.requires.fit _ c.conduct-way.ensures c.if-way-eq-OPEN.false }

pub returns : goal.returns
unfolding slot
returns c =
    guards_made _ _ _ _ _ _ _ _ _ _ c.conduct-way.ensures c.if-way-eq-OPEN.false c.phase.ensures c.late.ensures
    c.is_sent.ensures (c.has.ensures ∙ ap (λ m. bit m 3) c.keys.ensures) c.requires.view_value
    c.sender.ensures
