-- Readable by the two answers of the system; of a file that was not opened nothing was read.
use Rattle.std.proofs.Common.{refl, true≢false}
use Rattle.swapreport.specs.Files.{succeeded, is_readable}
use Rattle.swapreport.proofs.files.read_file.Goals as goal

pub returns-in-Err-clause-readable_value : goal.returns-in-Err-clause-readable_value
unfolding is_readable succeeded
returns-in-Err-clause-readable_value g c = refl

pub returns-clause-readable_value : goal.returns-clause-readable_value
unfolding is_readable succeeded
returns-clause-readable_value g c = refl

pub returns-clause-unread : goal.returns-clause-unread
unfolding succeeded
returns-clause-unread g c = λ h. absurd (true≢false h)
