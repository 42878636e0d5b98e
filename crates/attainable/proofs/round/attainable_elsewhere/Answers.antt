-- Those of the set that can come so.
use Rattle.std.proofs.Common.{rules}
use Rattle.attainable.proofs.Answers.{attained_elsewhere}
use Rattle.attainable.proofs.round.attainable_elsewhere.Goals as goal

pub returns : goal.returns
returns c = attained_elsewhere _ _ _ c.requires.checked _ _ _ _ c.requires.attains c.shown.ensures c.from-secrets.ensures (search rules) c.signers.ensures
