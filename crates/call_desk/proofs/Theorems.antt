-- A whole desk in one call.
-- Assumes nothing.
use mathlib.Core.Path.{sym, ◌∙◌}
use Rattle.call_desk.specs.Claim.{SingleRuns, OthersKept, EntriesFollow}
use Rattle.call_desk.proofs.Entries.{single_run}
use Rattle.call_desk.specs.Layout.{LaidOut}
use Rattle.call_desk.proofs.Apart
use Rattle.call_desk.proofs.Layouts

-- Entry i of the output is the number and the count of a single run on the i-th parts.
pub single_runs : SingleRuns
single_runs = single_run

-- One swap's setup or journal, its length kept, changes no other entry, and neither the number of the call.
pub others_kept : OthersKept
others_kept s b c out i h a = Apart.others_kept b c i h a s out

-- Swaps in other places: the entries in those places.
pub entries_follow : EntriesFollow
entries_follow s b c out more σ r x y k l =
    let one = single_run s c more y k (rw r.count l) in
    let two = single_run s b out x (σ k) (r.within k l) in
    let e = r.setups k l in
    let f = r.journals k l in
    (rw (e, f) at one.0 ∙ sym two.0, rw (e, f) at one.1 ∙ sym two.1)

-- A bundle laid out from at most 64 swaps passes, and its answers are those of its swaps, each by itself, in their order.
pub laid_out : LaidOut
laid_out s l h f = (Layouts.right l f h, Layouts.answers l f s)
