-- What conduct allows, the test, and the keys that are stored.
use Rattle.position.proofs.Outcomes.{keys_read, any_open, give_outcome}
use Rattle.position.proofs.ShareTests.{give_answer}
use Rattle.laws.proofs.Prelude.{◌≡◌, ◌||◌, refl, sym, ◌∙◌, eq-eqb}
use Rattle.position.proofs.Position.give.Goals as goal
use Rattle.position.specs.Conduct.{is_open, may_give}
use Rattle.position.proofs.Position.give.Goals.{then-conduct-eq0, else-conduct-eq0}

pub returns : goal.returns
returns c =
    let held = keys_read _ _ _ _ _ c.requires.view_value c.keys-held.ensures in
    let giver = keys_read _ _ _ _ _ c.requires.view_value c.keys.ensures in
    let allowed : c.if-conduct-eq0.allowed ≡ (is_open c.args.setup.now || may_give c.args.sheet.now.bytes c.args.setup.now c.args.self c.args.party c.args.i) =
    elim c.if-conduct-eq0.branch [
      | then-conduct-eq0 w ↦ w.allowed-is ∙ eq-eqb _ _ w.if-conduct-eq0.true ∙ any_open _ _ (sym c.conduct.ensures ∙ w.if-conduct-eq0.true)
      | else-conduct-eq0 w ↦ w.allowed-is ∙ w.may_give-allowed.ensures
    ] in
    give_outcome _ _ _ _ _ _ _ _ _ _ _ c.from-k.ensures c.from-receiver.ensures.0 held c.keys_after-after.ensures
    (give_answer _ _ _ _ _ _ _ _ _ (c.number_of-refusal.ensures ∙ c.conduct_refusal.ensures) allowed (c.give_met-met.ensures ∙ rw (giver, held) refl))
