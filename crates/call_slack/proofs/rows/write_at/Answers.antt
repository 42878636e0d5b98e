-- What is found for the party.
use Rattle.call_slack.specs.Row.{slack_row}
use Rattle.call_slack.proofs.Found.{counted_low}
use Rattle.laws.proofs.Prelude.{◌∙◌}
use Rattle.call_slack.proofs.rows.write_at.Goals as goal

pub write_found-requires : goal.write_found-requires
write_found-requires c = record { fit = c.requires.fit; in_bounds = c.requires.in_bounds; t_bound = λ some. rw c.found_at-found.ensures.t_value (counted_low _ _ _ _ _ (λ y. some (c.found_at-found.ensures.t_value ∙ y))) }

pub returns : goal.returns
unfolding slack_row
returns c = rw (← c.found_at-found.ensures.t_value, ← c.found_at-found.ensures.blocks_value) c.write_found.ensures
