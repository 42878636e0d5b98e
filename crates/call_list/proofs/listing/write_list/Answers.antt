-- The actors' sets make the list.
use Rattle.call_list.proofs.Lists.{gives_sets}
use Rattle.call_list.proofs.listing.write_list.Goals as goal

pub view-view-requires : goal.view-view-requires
view-view-requires c = c.requires.checked

pub guards-o-requires : goal.guards-o-requires
guards-o-requires c = record { fit = c.requires; view_value = c.view-view.ensures }

pub any_owed-owed-requires : goal.any_owed-owed-requires
any_owed-owed-requires c = record { fit = c.requires; view_value = c.view-view.ensures }

pub open_sets-alice-requires : goal.open_sets-alice-requires
open_sets-alice-requires c = record { fit = c.requires; view_value = c.view-view.ensures; o_value = c.guards-o.ensures; owed_value = c.any_owed-owed.ensures }

pub open_sets-bob-requires : goal.open_sets-bob-requires
open_sets-bob-requires c = record { fit = c.requires; view_value = c.view-view.ensures; o_value = c.guards-o.ensures; owed_value = c.any_owed-owed.ensures }

pub open_sets-carol-requires : goal.open_sets-carol-requires
open_sets-carol-requires c = record { fit = c.requires; view_value = c.view-view.ensures; o_value = c.guards-o.ensures; owed_value = c.any_owed-owed.ensures }

pub open_sets-miner-requires : goal.open_sets-miner-requires
open_sets-miner-requires c = record { fit = c.requires; view_value = c.view-view.ensures; o_value = c.guards-o.ensures; owed_value = c.any_owed-owed.ensures }

pub returns : goal.returns
returns c =
    let whole = gives_sets _ _ _ _ _ _ _ _ _ _ _ c.open_sets-alice.ensures
    c.open_sets-bob.ensures c.open_sets-carol.ensures
    c.open_sets-miner.ensures (c.write_fitting.ensures.refusal_value, (c.write_fitting.ensures.count_value, c.write_fitting.ensures.out_after)) in
    record { refusal_value = whole.0; count_value = whole.1.0; out_after = whole.1.1 }
