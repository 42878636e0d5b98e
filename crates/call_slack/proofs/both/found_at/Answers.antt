-- By what is read of the position as it stands, where that keeps for the longest; else of the two positions, which are the same where nothing settles.
use Rattle.kept.proofs.Answers.{falls}
use Rattle.settle.proofs.Answers.{none_settled, confirmed_settled}
use Rattle.call_slack.proofs.Found.{found_few, longest_slack, longest_counted, found_slack, found_counted}
use Rattle.laws.proofs.Prelude.{◌∙◌}
use Rattle.call_slack.proofs.both.found_at.Goals as goal

pub kept_for-a-requires : goal.kept_for-a-requires
kept_for-a-requires c = record { bounded = c.prospect-standing.ensures.bounded; falls = falls _ _ c.requires.fit.checked _ _ _ c.prospect-standing.ensures }

pub both-requires : goal.both-requires
both-requires c =
    let few = found_few _ _ c.requires.fit.checked _ _ _ c.prospect-standing.ensures _ c.kept_for-a.ensures in
    record { bounded = c.prospect-standing.ensures.bounded; bounded_2 = c.prospect-standing.ensures.bounded; a_le_longest = few; b_le_longest = few }

pub returns-then-a-eq-LONGEST : goal.returns-then-a-eq-LONGEST
returns-then-a-eq-LONGEST c = record { blocks_value = c.both.ensures.blocks_value ∙ longest_slack _ _ c.requires.fit.checked _ _ _ c.prospect-standing.ensures _ c.kept_for-a.ensures c.if-a-eq-LONGEST.true; t_value = c.both.ensures.t_value ∙ longest_counted _ _ c.requires.fit.checked _ _ _ c.prospect-standing.ensures _ c.kept_for-a.ensures c.if-a-eq-LONGEST.true }

pub both-requires-then-members-eq0 : goal.both-requires-then-members-eq0
both-requires-then-members-eq0 c =
    let few = found_few _ _ c.requires.fit.checked _ _ _ c.prospect-standing.ensures _ c.kept_for-a.ensures in
    record { bounded = c.prospect-standing.ensures.bounded; bounded_2 = c.prospect-standing.ensures.bounded; a_le_longest = few; b_le_longest = few }

pub returns-then-members-eq0 : goal.returns-then-members-eq0
returns-then-members-eq0 c = let then = rw (none_settled _ _ _ _ c.requires.fit.checked _ c.settling-members.ensures c.if-members-eq0.true) at c.prospect-standing.ensures in record { blocks_value = c.both-then-members-eq0.ensures.blocks_value ∙ found_slack _ _ c.requires.fit.checked _ _ _ _ c.prospect-standing.ensures then _ _ c.kept_for-a.ensures c.kept_for-a.ensures; t_value = c.both-then-members-eq0.ensures.t_value ∙ found_counted _ _ c.requires.fit.checked _ _ _ _ c.prospect-standing.ensures then _ _ c.kept_for-a.ensures c.kept_for-a.ensures }

pub kept_for-b-requires : goal.kept_for-b-requires
kept_for-b-requires c = record { bounded = c.prospect-settled.ensures.bounded; falls = falls _ _ c.requires.fit.checked _ _ _ c.prospect-settled.ensures }

pub both-requires-2 : goal.both-requires-2
both-requires-2 c =
    let few = found_few _ _ c.requires.fit.checked _ _ _ c.prospect-standing.ensures _ c.kept_for-a.ensures in
    record { bounded = c.prospect-standing.ensures.bounded; bounded_2 = c.prospect-settled.ensures.bounded; a_le_longest = few; b_le_longest = found_few _ _ c.requires.fit.checked _ _ _ c.prospect-settled.ensures _ c.kept_for-b.ensures }

pub returns : goal.returns
returns c =
    let after = c.confirm-after.ensures ∙ confirmed_settled _ _ _ _ c.requires.fit.checked _ c.settling-members.ensures in
    let then = rw after at c.prospect-settled.ensures in
    record { blocks_value = c.both-2.ensures.blocks_value ∙ found_slack _ _ c.requires.fit.checked _ _ _ _ c.prospect-standing.ensures then _ _ c.kept_for-a.ensures c.kept_for-b.ensures; t_value = c.both-2.ensures.t_value ∙ found_counted _ _ c.requires.fit.checked _ _ _ _ c.prospect-standing.ensures then _ _ c.kept_for-a.ensures c.kept_for-b.ensures }
