-- The start masks, and 32 empty slots.
use Rattle.position.specs.Position.{start_held, start}
use Rattle.position.proofs.journal.start.Goals as goal

pub returns : goal.returns
unfolding start start_held
returns c = rw (c.start_keys-alice.ensures, c.start_keys-bob.ensures, c.start_keys-carol.ensures)
