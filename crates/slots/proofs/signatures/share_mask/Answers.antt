-- Held and required, without the secrets.
use Rattle.slots.specs.Signatures.{share_mask}
use Rattle.laws.proofs.Prelude.{without}
use Rattle.slots.proofs.signatures.share_mask.Goals as goal

pub returns : goal.returns
unfolding share_mask without
returns c = simp (← c.secrets.ensures, ← c.required.ensures)
