-- What is proved of careful conduct.
-- Assumes nothing.
use Rattle.claim_careful.specs.Claim.{Careful}
use Rattle.claim_careful.proofs.Safe.{safe}

-- For every number of blocks per day from 1 to 1,000, stealth 0 or 1, careful conduct, the SASwap sheet and every list of four-byte
-- groups: the two secrets are never both known beyond their owners, and no party is paid from both coins, as the position, the plain
-- ledger and the report have the payouts.
pub careful : Careful
careful = safe
