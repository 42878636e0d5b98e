-- None if veiled, else the required ones.
use Rattle.slots.specs.Signatures.{exposed_mask}
use Rattle.laws.proofs.Prelude.{tests}
use Rattle.slots.proofs.signatures.exposed_mask.Goals as goal

pub returns-then-veil-eq1 : goal.returns-then-veil-eq1
unfolding exposed_mask
returns-then-veil-eq1 c = simp (← c.veil.ensures, c.if-veil-eq1.true)

pub returns : goal.returns
unfolding exposed_mask
returns c = simp (tests, ← c.veil.ensures, c.if-veil-eq1.false, ← c.required.ensures)
