-- Case by case.
use Rattle.laws.proofs.Prelude.{sym, ◌∙◌, not-true, rules, or_lt, held, without}
use Rattle.attainable.proofs.Lacking.{lack_barred, lack_away, lack_own, lack_rest}
use Rattle.attainable.proofs.lack.lack_of.Goals as goal

pub returns-then-barred : goal.returns-then-barred
returns-then-barred c = lack_barred _ _ _ _ _ _ c.if-barred.true

pub returns-then-not-shares_to : goal.returns-then-not-shares_to
returns-then-not-shares_to c = lack_away _ _ _ _ _ _ c.if-barred.false (sym c.shares_to.ensures ∙ not-true c.shares_to.result c.if-not-shares_to.true-raw)

pub returns-then-destination-party : goal.returns-then-destination-party
returns-then-destination-party c = lack_own _ _ _ _ _ _ c.if-barred.false (held _ _ c.shares_to.ensures c.if-not-shares_to.false-raw) c.if-destination-party.true

pub returns : goal.returns
unfolding without
returns c =
    rw (c.from.ensures, c.required.ensures)
    (lack_rest _ _ _ _ _ _ c.if-barred.false (held _ _ c.shares_to.ensures c.if-not-shares_to.false-raw) c.if-destination-party.false
    c.requires.checked c.requires.t_bound (or_lt 8 c.args.held c.args.given (search rules) (search rules)))
