-- The first shares; else what conduct allows, the test, and the slot that is stored.
use Rattle.position.proofs.Outcomes.{keys_read, any_open, share_outcome}
use Rattle.position.proofs.ShareTests.{one_met, share_answer}
use Rattle.position.proofs.Fields.{share_one_fits}
use Rattle.position.specs.Position.{slot}
use Rattle.position.specs.Effect.{with_slots}
use Rattle.laws.proofs.Prelude.{◌≡◌, ◌||◌, ◌<◌, refl, sym, ◌∙◌, eq-eqb, rules, arith}
use Rattle.position.proofs.Position.share.Goals as goal
use Rattle.position.specs.Conduct.{is_open, may_share}
use Rattle.position.proofs.Position.share.Goals.{then-conduct-eq0, else-conduct-eq0}

pub share_all-requires : goal.share_all-requires
unfolding slot
share_all-requires c = record { fit = c.requires.fit; view_value = c.requires.view_value; early_value = c.is_early-early.ensures; sheet_value = rw (← c.if-t-eq-NO_TRANSACTION.true) c.requires.t_value }

pub returns-then-t-eq-NO_TRANSACTION : goal.returns-then-t-eq-NO_TRANSACTION
returns-then-t-eq-NO_TRANSACTION c = rw c.if-t-eq-NO_TRANSACTION.true c.share_all.ensures

pub bounds-self-k : goal.bounds-self-k
bounds-self-k c = let l = share_one_fits _ _ c.requires.fit.checked.sized.few c.requires.t_value c.if-t-eq-NO_TRANSACTION.false in search (rules, l)

pub share_met-met-requires : goal.share_met-met-requires
share_met-met-requires c = record { t_bound = rw c.from-k.ensures (share_one_fits _ _ c.requires.fit.checked.sized.few c.requires.t_value c.if-t-eq-NO_TRANSACTION.false); destination_bound = c.from-destination.ensures.1 }

pub shared_slot-shared-requires : goal.shared_slot-shared-requires
shared_slot-shared-requires c = record { t_bound = rw c.from-k.ensures (share_one_fits _ _ c.requires.fit.checked.sized.few c.requires.t_value c.if-t-eq-NO_TRANSACTION.false); destination_bound = c.from-destination.ensures.1 }

pub bounds-self-k-2 : goal.bounds-self-k-2
bounds-self-k-2 c = let f = share_one_fits _ _ c.requires.fit.checked.sized.few c.requires.t_value c.if-t-eq-NO_TRANSACTION.false in let l : c.from-k.result < 32 = omega (arith, c.from-k.ensures, f, c.requires.fit.checked.sized.few) in search (rules, l)

pub returns : goal.returns
unfolding slot with_slots
returns c =
    let held = keys_read _ _ _ _ _ c.requires.view_value c.keys-held.ensures in
    let allowed : c.if-conduct-eq0.allowed ≡ (is_open c.args.setup.now || may_share c.args.sheet.now.bytes c.args.setup.now c.args.self c.args.party c.args.t) =
    elim c.if-conduct-eq0.branch [
      | then-conduct-eq0 w ↦ w.allowed-is ∙ eq-eqb _ _ w.if-conduct-eq0.true ∙ any_open _ _ (sym c.conduct.ensures ∙ w.if-conduct-eq0.true)
      | else-conduct-eq0 w ↦ w.allowed-is ∙ w.may_share-allowed.ensures
    ] in
    share_outcome _ _ _ _ _ _ _ _ _ _ _ c.from-k.ensures c.from-destination.ensures.0 c.slot_after-after.ensures (λ z. c.if-t-eq-NO_TRANSACTION.false (sym c.from-k.ensures ∙ z))
    (share_answer _ _ _ _ _ _ _ _ _ (c.number_of-refusal.ensures ∙ c.conduct_refusal.ensures) allowed ((c.share_met-met.ensures ∙ rw (held, c.from-k.ensures) refl) ∙ one_met _ _ _ _ _ c.if-t-eq-NO_TRANSACTION.false))
    (c.shared_slot-shared.ensures ∙ rw held refl)
