-- The payee in the row of the transaction that ends the coin.
use Rattle.readings.proofs.Holders.{held_in, held_by, held_none}
use Rattle.readings.specs.Reported.{reported_payee, reported_confirmed, reported_holder}
use borrow.Author.Rules.{rules}
use Rattle.readings.proofs.reported.reported_holder.Goals as goal

pub bounds-report-t : goal.bounds-report-t
bounds-report-t c =
    search (
      rules,
      held_in c.args.sheet.now.bytes (reported_confirmed c.args.report.now) (reported_payee c.args.report.now)
          c.args.coin c.confirmed_set.result c.coin_end-t.result (search rules) c.confirmed_set.ensures
          c.coin_end-t.ensures c.if-t-lt32.true,
    )

pub returns-then-t-lt32 : goal.returns-then-t-lt32
unfolding reported_holder reported_payee
returns-then-t-lt32 c =
    held_by c.args.sheet.now.bytes (reported_confirmed c.args.report.now) (reported_payee c.args.report.now) c.args.coin
    c.confirmed_set.result c.coin_end-t.result (search rules) c.confirmed_set.ensures
    c.coin_end-t.ensures c.if-t-lt32.true

pub returns : goal.returns
unfolding reported_holder
returns c =
    held_none c.args.sheet.now.bytes (reported_confirmed c.args.report.now) (reported_payee c.args.report.now)
    c.args.coin c.confirmed_set.result c.coin_end-t.result (search rules)
    c.confirmed_set.ensures c.coin_end-t.ensures c.if-t-lt32.false
