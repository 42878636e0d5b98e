-- What conduct allows, the tests, and the slot that is stored.
use Rattle.position.proofs.Outcomes.{sends_open, send_outcome}
use Rattle.position.proofs.Guards.{not_held, held_if_paid, send_held}
use Rattle.position.proofs.SendTests.{pool_answer, since_parent_lem}
use Rattle.position.specs.Position.{slot}
use Rattle.position.specs.Effect.{with_slots}
use Rattle.laws.proofs.Prelude.{not, ◌<◌, ◌≡◌, refl, sym, ◌∙◌, length, eq-eqb, rules, arith, length_of_map}
use Rattle.position.proofs.Position.send_to_pool.Goals as goal
use Rattle.position.specs.Conduct.{send_allowed, paying_first}
use Rattle.position.proofs.Position.send_to_pool.Goals.{then-conduct-eq0, else-conduct-eq0, then-pays_first, else-pays_first}

pub offset_bounds-self-k-2 : goal.offset_bounds-self-k-2
offset_bounds-self-k-2 c = let l : c.from-k.result < 32 = omega (arith, c.from-k.ensures, c.requires.t_bound, c.requires.fit.checked.sized.few) in search (rules, l)

pub bounds-self-k-2 : goal.bounds-self-k-2
bounds-self-k-2 c = let l : c.from-k.result < 32 = omega (arith, c.from-k.ensures, c.requires.t_bound, c.requires.fit.checked.sized.few) in search (rules, l)

pub returns : goal.returns
unfolding slot with_slots
returns c =
    let l : length c.args.self.slots ≡ 32 = search (length_of_map, c.well_formed) in
    let may : c.if-conduct-eq0.may ≡ send_allowed c.args.sheet.now.bytes c.args.setup.now c.args.self c.args.party c.from-k.result =
    elim c.if-conduct-eq0.branch [
      | then-conduct-eq0 w ↦ w.may-is ∙ eq-eqb _ _ w.if-conduct-eq0.true ∙ sends_open _ _ _ _ _ (sym c.conduct.ensures ∙ w.if-conduct-eq0.true)
      | else-conduct-eq0 w ↦ w.may-is ∙ w.may_send-may.ensures
    ] in
    let paying : c.if-pays_first.paying ≡ not (paying_first c.args.sheet.now.bytes c.args.setup.now c.args.self c.args.party c.from-k.result) =
    elim c.if-pays_first.branch [
      | then-pays_first w ↦ w.paying-is ∙ held_if_paid _ _ _ _ _ _ c.pays_first.ensures _ w.if-pays_first.true w.can_pay-paying.ensures
      | else-pays_first w ↦ w.paying-is ∙ w.if-pays_first.false ∙ not_held _ _ _ _ _ _ c.pays_first.ensures w.if-pays_first.false
    ] in
    let allowed = send_held _ _ _ _ _ _ _ _ may paying refl in
    send_outcome _ _ _ _ _ _ _ _ _ _ _ c.from-k.ensures c.from-destination.ensures.0 c.slot_after-after.ensures
    (pool_answer _ _ _ _ c.requires.fit.checked _ _ _ (rw c.from-k.ensures c.requires.t_bound) _ _ _ _ c.requires.view_value (c.since-since.ensures ∙ since_parent_lem _ _ l _) allowed (c.number_of-refusal.ensures ∙ c.pool_refusal.ensures))
    c.sent_slot-sent.ensures
