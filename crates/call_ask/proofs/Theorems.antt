-- Ask first, commit after.
-- Assumes nothing.
use Rattle.call_ask.specs.Claim.{CommitAsAsked, CommitRuns, NotTwice, AskExact}
use Rattle.call_ask.proofs.Claims

-- Commit with ask's count answers ask's number, but 25 where ask's is 0 and the buffer has no four bytes left.
pub commit_as_asked : CommitAsAsked
commit_as_asked = Claims.commit_as_asked

-- After a commit that passed, run accepts the journal with the step behind it, one step longer; all else is as it was.
pub commit_runs : CommitRuns
commit_runs = Claims.passed

-- A second commit on the same count, with the length that the first one left, is refused, whatever its step.
pub not_twice : NotTwice
not_twice = Claims.not_twice

-- Ask answers 0 exactly if the step stands in the list of open steps after the journal.
pub ask_exact : AskExact
ask_exact = Claims.ask_exact
