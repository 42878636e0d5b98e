-- The payee of the transaction that ends the coin.
use Rattle.queries.proofs.ReportRows.{payee_right}
use Rattle.readings.proofs.Holders.{held_by, held_none}
use Rattle.laws.proofs.Prelude.{ap, ◌∙◌, rules}
use Rattle.position.proofs.Rules.{View, slot, is_confirmed, view_below, payee, holder_in}
use Rattle.queries.proofs.holder.holder_in.Goals as goal

pub returns-then-t-lt32 : goal.returns-then-t-lt32
unfolding holder_in view_below slot
returns-then-t-lt32 c =
    c.payee_of.ensures ∙ payee_right c.args.position
    c.coin_end-t.result ∙ held_by c.args.sheet.now.bytes
    (is_confirmed c.args.position)
    (payee c.args.position) c.args.coin
    c.view-view.result.confirmed c.coin_end-t.result (search rules)
    (ap (λ (v : View). v.confirmed) c.view-view.ensures) c.coin_end-t.ensures
    c.if-t-lt32.true

pub returns : goal.returns
unfolding holder_in view_below
returns c =
    held_none c.args.sheet.now.bytes (is_confirmed c.args.position)
    (payee c.args.position) c.args.coin
    c.view-view.result.confirmed c.coin_end-t.result (search rules)
    (ap (λ (v : View). v.confirmed) c.view-view.ensures) c.coin_end-t.ensures c.if-t-lt32.false
