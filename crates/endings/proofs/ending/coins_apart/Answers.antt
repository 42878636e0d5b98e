-- One is not in the mask, or their coins differ, or they are one.
use Rattle.endings.proofs.Naming.{apart_first, apart_second, apart_coins, apart_same}
use Rattle.endings.proofs.ending.coins_apart.Goals as goal

pub returns-then-not-has : goal.returns-then-not-has
returns-then-not-has c = apart_first _ _ _ _ _ c.has.ensures c.if-not-has.true-raw

pub returns-then-not-has-2 : goal.returns-then-not-has-2
returns-then-not-has-2 c = apart_second _ _ _ _ _ c.has.ensures _ c.has-2.ensures c.if-not-has.false-raw c.if-not-has-2.true-raw

pub returns-then-coin_of : goal.returns-then-coin_of
returns-then-coin_of c = apart_coins _ _ _ _ _ c.has.ensures _ c.has-2.ensures c.if-not-has.false-raw _ _ c.coin_of.ensures c.coin_of-2.ensures c.if-not-has-2.false-raw c.if-coin_of.true

pub returns : goal.returns
returns c = apart_same _ _ _ _ _ c.has.ensures _ c.has-2.ensures c.if-not-has.false-raw _ _ c.coin_of.ensures c.coin_of-2.ensures c.if-not-has-2.false-raw c.if-coin_of.false
