-- None but with 255, or the sets, from what is the same for all steps of the actor.
use Rattle.queries.proofs.OpenReach.{sets_made}
use Rattle.queries.proofs.OpenIdle.{idle_sets}
use Rattle.queries.proofs.open.open_sets.Goals as goal

pub context-context-requires : goal.context-context-requires
context-context-requires c = record { fit = c.requires.fit; view_value = c.requires.view_value; o_value = c.requires.o_value; owed_value = c.requires.owed_value }

pub last_set-last-requires : goal.last_set-last-requires
last_set-last-requires c = record { setup_len = c.requires.fit.setup.size }

pub returns-then-is_idle : goal.returns-then-is_idle
returns-then-is_idle c =
    sets_made _ _ _ c.requires.fit c.requires.fit.checked.signatures_few _ _ _ _ c.context-context.ensures
    (idle_sets _ _ _ _ c.requires.fit _ _ c.requires.view_value c.requires.o_value _ c.is_idle.ensures c.if-is_idle.true)
    c.last_set-last.ensures

pub below_sets-below-requires : goal.below_sets-below-requires
below_sets-below-requires c = record { fit = c.requires.fit; context_value = c.context-context.ensures; dests_value = c.destination_sets-dests.ensures }

pub returns : goal.returns
returns c = sets_made _ _ _ c.requires.fit c.requires.fit.checked.signatures_few _ _ _ _ c.context-context.ensures c.below_sets-below.ensures c.last_set-last.ensures
