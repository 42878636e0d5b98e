-- The first byte.
use Rattle.std.proofs.Common.{rules}
use Rattle.call_desk.specs.Bundle.{swaps}
use Rattle.call_desk.proofs.bundle.swaps.Goals as goal

pub returns : goal.returns
unfolding swaps
returns c = search rules
