-- Of the coin, confirmed, and without a confirmed child.
use Rattle.readings.specs.Holder.{ends_coin}
use Rattle.laws.proofs.Prelude.{tests, not-true, not-false}
use Rattle.readings.proofs.holder.ends_coin.Goals as goal

pub returns-then-coin_of-coin : goal.returns-then-coin_of-coin
unfolding ends_coin
returns-then-coin_of-coin c = simp (tests, ← c.coin_of.ensures, c.if-coin_of-coin.true)

pub returns-then-not-has : goal.returns-then-not-has
unfolding ends_coin
returns-then-not-has c = simp (tests, ← c.coin_of.ensures, c.if-coin_of-coin.false, ← c.has.ensures, not-true c.has.result c.if-not-has.true-raw)

pub returns : goal.returns
unfolding ends_coin
returns c = simp (tests, ← c.coin_of.ensures, c.if-coin_of-coin.false, ← c.has.ensures, not-false c.has.result c.if-not-has.false-raw, ← c.confirmed_child.ensures)
