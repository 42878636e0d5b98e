-- The counts of the transactions before t are noted.
use Rattle.dated.specs.Dated.{noted}
use Rattle.dated.proofs.OpenViews.{first_open_view, may_open, count_stays}
use Rattle.laws.proofs.Prelude.{rewrite_start, rewrite_again, rewrite_done, length_of_map, ◌≡◌, refl, ◌∙◌, length, get_or, arith}
use Rattle.position.proofs.Rules.{never, slot}
use Rattle.laws.specs.Each.{rewrite_past}
use Rattle.dated.proofs.noted.Goals as goal

pub loop-t-init : goal.loop-t-init
unfolding noted
loop-t-init c = rewrite_start _ _

pub loop-t-preserved-then-stays : goal.loop-t-preserved-then-stays
loop-t-preserved-then-stays c =
    let l : length c.args.position.slots ≡ 32 = search (length_of_map, c.well_formed) in
    let e =
    count_stays c.args.sheet.now.bytes _ c.loop-t.t (get_or c.loop-t.counts c.loop-t.t 0) c.args.setup.now c.args.position _ c.requires.fit.checked (omega (arith, c.loop-t-test.true, c.count-n.ensures.is)) c.requires.view_value l
    c.stays.ensures c.if-stays.true in
    rewrite_past _ _ _ _ 0 c.loop-t.invariant e

pub first_open-requires : goal.first_open-requires
first_open-requires c =
    let w = may_open _ _ _ _ _ c.stays.ensures c.if-stays.false in
    record { checked = c.requires.fit.checked; t_bound = omega (arith, c.loop-t-test.true, c.count-n.ensures.is); t_value = w.1 }

pub loop-t-preserved : goal.loop-t-preserved
unfolding slot
loop-t-preserved c =
    let l : length c.args.position.slots ≡ 32 = search (length_of_map, c.well_formed) in
    let w = may_open _ _ _ _ _ c.stays.ensures c.if-stays.false in
    let e =
    first_open_view c.args.sheet.now.bytes c.args.setup.now c.args.position c.requires.fit.checked c.loop-t.t (omega (arith, c.loop-t-test.true, c.count-n.ensures.is)) _ _ _ c.since-since.result never l
    c.per_day-per_day.ensures c.requires.view_value refl c.since-since.ensures in
    rewrite_again _ _ _ _ 0 _ c.loop-t.invariant (rw w.0 (c.first_open.ensures ∙ e))

pub returns : goal.returns
unfolding noted
returns c = rw (← c.count-n.ensures.is) (rewrite_done _ _ _ _ _ c.loop-t.auto.t-end c.loop-t-test.false c.loop-t.invariant)
