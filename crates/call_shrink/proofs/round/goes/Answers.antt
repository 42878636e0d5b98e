-- Not tried; no step follows; another number; or the place of the refusal.
use Rattle.call_shrink.specs.Forms.Round.{tried_at}
use Rattle.call_shrink.proofs.Trying.{goes_none, goes_other, goes_count}
use Rattle.call_shrink.proofs.round.goes.Goals as goal

pub returns-then-stay : goal.returns-then-stay
unfolding tried_at
returns-then-stay c = rw c.if-stay.true

pub returns-then-n-eq0 : goal.returns-then-n-eq0
unfolding tried_at
returns-then-n-eq0 c = rw c.if-stay.false (goes_none _ _ _ _ _ c.if-n-eq0.true)

pub returns-then-ran-number : goal.returns-then-ran-number
unfolding tried_at
returns-then-ran-number c = rw c.if-stay.false (goes_other _ _ _ _ _ _ c.run_from-ran.ensures c.if-ran-number.true)

pub returns : goal.returns
unfolding tried_at
returns c = rw c.if-stay.false (goes_count _ _ _ _ _ _ c.run_from-ran.ensures c.if-n-eq0.false c.if-ran-number.false)
