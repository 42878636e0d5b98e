-- None can stand, or the signatures, or none is tested, or the transactions of the sheet.
use Rattle.queries.proofs.OpenReach.{set_none, set_sheet, set_given}
use Rattle.queries.proofs.OpenTurns.{none_open}
use Rattle.laws.proofs.Prelude.{refl, sym, ◌∙◌, not-false}
use Rattle.queries.proofs.open.open_set.Goals as goal

pub returns-then-not-may_stand : goal.returns-then-not-may_stand
returns-then-not-may_stand c = set_none _ _ _ _ _ _ _ c.may_stand.ensures c.if-not-may_stand.true-raw

pub returns-then-kind-eq2 : goal.returns-then-kind-eq2
returns-then-kind-eq2 c =
    set_given _ _ _ _ _ _ _ _ _ c.requires.fit
    c.requires.fit.checked.signatures_few
    c.requires.context_value c.may_stand.ensures
    c.if-not-may_stand.false-raw c.requires.destination_bound c.if-kind-eq2.true
    c.give_set.ensures

pub returns-then-c-eq0 : goal.returns-then-c-eq0
returns-then-c-eq0 c =
    set_sheet _ _ _ _ _ _ _ c.requires.fit.checked.sized.few c.if-kind-eq2.false
    (none_open _ _ _ _ _ _ c.requires.fit c.requires.destination_bound (sym c.may_stand.ensures ∙ not-false _
    c.if-not-may_stand.false-raw) c.if-kind-eq2.false _ _ _ _ c.requires.context_value c.requires.dests_value c.candidates-c.ensures refl
    c.if-c-eq0.true)

pub sheet_set-requires : goal.sheet_set-requires
sheet_set-requires c = record { fit = c.requires.fit; context_value = c.requires.context_value; dests_value = c.requires.dests_value; to_value = sym c.may_stand.ensures ∙ not-false _ c.if-not-may_stand.false-raw; fact = c.if-kind-eq2.false; to_bound = c.requires.destination_bound }

pub returns : goal.returns
returns c = set_sheet _ _ _ _ _ _ _ c.requires.fit.checked.sized.few c.if-kind-eq2.false c.sheet_set.ensures
