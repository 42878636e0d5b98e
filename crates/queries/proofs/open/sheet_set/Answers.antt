-- The set of those that were gone through.
use Rattle.laws.proofs.Prelude.{set_start, length_of_map, ◌≡◌, length, arith, rules}
use Rattle.slots.proofs.Walks.{walk_start, walk_turn, walk_on, walk_end}
use Rattle.position.proofs.Rules.{slot}
use Rattle.queries.proofs.OpenTurns.{turn_open, next_turn, last_turn}
use Rattle.queries.proofs.open.sheet_set.Goals as goal

pub loop-t-init : goal.loop-t-init
loop-t-init c = rw c.into_iter-t-iterator.ensures.into_iter_gives (walk_start _ _ _ (search rules) c.members-t-items.ensures (set_start _))

pub accepted_as-on-requires : goal.accepted_as-on-requires
accepted_as-on-requires c =
    let h = walk_turn c.loop-t.invariant _ _ c.in-Some.ensures.steps in
    record { fit = c.requires.fit; t_bound = omega (arith, h.high, c.count-n.ensures.is); destination_bound = c.requires.to_bound }

pub loop-t-preserved : goal.loop-t-preserved
unfolding slot
loop-t-preserved c =
    let l : length c.args.position.slots ≡ 32 = search (
      length_of_map,
      c.well_formed,
    ) in
    let h = walk_turn c.loop-t.invariant _ _ c.in-Some.ensures.steps in
    walk_on c.loop-t.invariant _ _ h
    (next_turn _ _ _ _ _ _ c.requires.fit c.requires.to_bound c.requires.to_value c.requires.fact _ _ _ _ c.requires.context_value c.requires.dests_value c.candidates-c.ensures c.count-n.ensures.is _ _ _ _ _ h.gap c.loop-t.invariant.done
    c.join-found.ensures
    (turn_open _ _ _ _ _ _ c.requires.fit c.requires.to_bound c.requires.to_value c.requires.fact _ _ _ _ c.requires.context_value c.requires.dests_value c.candidates-c.ensures c.count-n.ensures.is _ h.high h.here _ _ l
    c.since-since.ensures
    c.accepted_as-on.ensures))

pub returns : goal.returns
returns c =
    last_turn _ _ _ _ _ _ c.requires.fit c.requires.to_bound c.requires.to_value c.requires.fact _ _ _ _ c.requires.context_value c.requires.dests_value c.candidates-c.ensures c.count-n.ensures.is _ _
    (walk_end c.loop-t.invariant c.in-None.ensures.steps) c.loop-t.invariant.done
