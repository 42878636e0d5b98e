-- Above the blocks mined, or not.
use Rattle.laws.proofs.Prelude.{refl, lt-ltb, le-ltb}
use Rattle.position.proofs.owed.ahead.Goals as goal

pub returns-then-from-height : goal.returns-then-from-height
returns-then-from-height c = rw (lt-ltb _ _ (rw c.from.ensures at c.if-from-height.true)) refl

pub returns : goal.returns
returns c = rw (le-ltb _ _ (rw c.from.ensures at c.if-from-height.false)) refl
