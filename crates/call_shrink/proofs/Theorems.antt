-- What the part that is written is, and that the rounds end.
-- Assumes nothing.
use Rattle.call_shrink.specs.Claim.{FewWritten, RoundsEnd}
use Rattle.call_shrink.proofs.Claims as claims

-- "a part of the journal, steps in their old order, that ends with the refused step, still runs up to it and gets the same number there.
-- Dropping one other step from the part must lose that."
pub few_written : FewWritten
few_written = claims.few_written

-- "repeat until a full round drops none"
pub rounds_end : RoundsEnd
rounds_end = claims.rounds_end
