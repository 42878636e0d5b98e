-- A careful party that can pay.
use Rattle.queries.proofs.OpenSteps.{kept_no_party, kept_not_careful, kept_phase, kept_if_paid}
use Rattle.queries.proofs.open.is_paying.Goals as goal

pub returns-then-not-is_party : goal.returns-then-not-is_party
returns-then-not-is_party c = kept_no_party _ _ _ c.args.o _ _ c.is_party.ensures c.if-not-is_party.true-raw

pub returns-then-not-o : goal.returns-then-not-o
returns-then-not-o c = kept_not_careful _ _ _ _ _ c.requires.o_value c.if-not-o.true

pub returns-then-o-eq0 : goal.returns-then-o-eq0
returns-then-o-eq0 c = kept_phase _ _ _ _ _ c.requires.o_value c.if-not-o.false c.if-o-eq0.true

pub returns : goal.returns
returns c =
    kept_if_paid _ _ _ _ _ c.requires.o_value _ _
    c.is_party.ensures c.if-not-is_party.false-raw
    c.if-not-o.false c.can_pay.ensures
