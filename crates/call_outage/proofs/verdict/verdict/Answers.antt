-- Confirmed, dead, safe, or by the deadline.
use Rattle.call_outage.specs.Forms.Row.{verdict_in}
use Rattle.call_outage.proofs.verdict.verdict.Goals as goal

pub returns-then-has : goal.returns-then-has
unfolding verdict_in
returns-then-has c = simp (← c.has.ensures, c.if-has.true)

pub returns-then-dead : goal.returns-then-dead
unfolding verdict_in
returns-then-dead c = simp (← c.has.ensures, c.if-has.false, c.if-dead.true)

pub returns-then-safe : goal.returns-then-safe
unfolding verdict_in
returns-then-safe c = simp (← c.has.ensures, c.if-has.false, c.if-dead.false, ← c.safe.ensures, c.if-safe.true)

pub returns : goal.returns
unfolding verdict_in
returns c =
    simp (
      ← c.has.ensures,
      c.if-has.false,
      c.if-dead.false,
      ←
          c.safe.ensures,
      c.if-safe.false,
      ← c.stealth-stealth.ensures,
      c.exposed.ensures,
    )
