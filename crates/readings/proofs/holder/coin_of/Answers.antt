-- From t itself.
use Rattle.readings.specs.Forms.Holder.{coin_from}
use Rattle.ledger.specs.Coin.{coin_of}
use Rattle.readings.proofs.holder.coin_of.Goals as goal

pub returns : goal.returns
unfolding coin_of coin_from
returns c = c.coin_from.ensures
