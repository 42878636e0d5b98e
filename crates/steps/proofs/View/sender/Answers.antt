-- Keys, shared secrets, and what is shared of the transaction.
use Rattle.steps.specs.Forms.View.{sender_in}
use Rattle.steps.proofs.View.sender.Goals as goal

pub returns : goal.returns
unfolding sender_in
returns c = rw (c.sender_mask.ensures, c.shared_for.ensures, c.keys.ensures, c.secrets.ensures)
