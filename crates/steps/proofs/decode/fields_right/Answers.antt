-- By the kind.
use Rattle.steps.specs.Decode.{fields_right}
use Rattle.steps.proofs.decode.fields_right.Goals as goal

pub returns-in-Share : goal.returns-in-Share
unfolding fields_right
returns-in-Share c = rw (c.in-Share.is, ← c.from.ensures.0) c.share_fields.ensures

pub returns-in-Give : goal.returns-in-Give
unfolding fields_right
returns-in-Give c = rw (c.in-Give.is, ← c.from-in-Give.ensures.0) c.give_fields.ensures

pub returns-in-SendToPool : goal.returns-in-SendToPool
unfolding fields_right
returns-in-SendToPool c = rw (c.in-SendToPool.is, ← c.from-in-SendToPool.ensures.0) c.send_fields.ensures

pub returns-in-HandToMiner : goal.returns-in-HandToMiner
unfolding fields_right
returns-in-HandToMiner c = rw (c.in-HandToMiner.is, ← c.from-in-HandToMiner.ensures.0) c.send_fields-in-HandToMiner.ensures

pub returns-in-Include : goal.returns-in-Include
unfolding fields_right
returns-in-Include c = rw (c.in-Include.is, ← c.from-in-Include.ensures.0) c.miner_fields.ensures

pub returns-in-Mine : goal.returns-in-Mine
unfolding fields_right
returns-in-Mine c = rw (c.in-Mine.is, ← c.from-in-Mine.ensures.0) c.mine_fields.ensures

pub returns-in-Bump : goal.returns-in-Bump
unfolding fields_right
returns-in-Bump c = rw (c.in-Bump.is, ← c.from-in-Bump.ensures.0) c.miner_fields-in-Bump.ensures
