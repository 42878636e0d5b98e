-- What is left to do from each step on is the whole, and the view is the position's.
use Rattle.laws.proofs.Prelude.{◌*◌, ◌/◌, ◌≡◌, length, refl, sym, ◌∙◌, arith}
use Rattle.position.proofs.Rules.{count, decode_bytes, step, slot, view_below, step_at}
use Rattle.position.specs.declared.Stepped.{Stepped}
use Rattle.steps.proofs.RightFields.{give_listed, pool_listed, miner_listed, include_listed, bump_listed}
use Rattle.position.proofs.Decoding.{decodes}
use Rattle.position.proofs.Fields.{share_fields}
use Rattle.position.proofs.SeenAfter.{seen_many}
use Rattle.position.proofs.SoonestDue.{mine_due, known_after}
use Rattle.call_run.specs.Forms.Row.{noted_if}
use Rattle.call_run.proofs.Rows.{left_all, left_on, left_stopped, left_ended, matched, unread, seen_few}
use Rattle.call_run.proofs.row.run_row.Goals as goal
use Rattle.call_run.proofs.row.run_row.Goals.{Joined-asked, Joined-remove-ne0, Joined-step}
use Rattle.call_run.proofs.row.run_row.Goals.{in-Share, in-Give, in-SendToPool, in-HandToMiner, in-Include, in-Mine, in-Bump, then-remove-ne0, else-remove-ne0, then-asked, else-asked}

-- what came back, whichever the kind
taken : (c : Joined-step) → ◌≡◌ {A = Stepped} (record { refusal = c.match-step.refused; position = c.match-step.position }) (step c.args.sheet.now.bytes c.args.setup.now c.loop-k.position (step_at c.args.journal.now (4 * c.loop-k.k)))
unfolding decode_bytes step_at
taken c =
    elim c.match-step.branch [
      | in-Share w ↦ matched _ _ _ _ _ c.decode.ensures _ _ _ _ _ c.in-Some.is w.in-Share.is w.share-stepped.ensures w.position-is w.refused-is
      | in-Give w ↦ matched _ _ _ _ _ c.decode.ensures _ _ _ _ _ c.in-Some.is w.in-Give.is w.give-stepped.ensures w.position-is w.refused-is
      | in-SendToPool w ↦ matched _ _ _ _ _ c.decode.ensures _ _ _ _ _ c.in-Some.is w.in-SendToPool.is w.send_to_pool-stepped.ensures w.position-is w.refused-is
      | in-HandToMiner w ↦ matched _ _ _ _ _ c.decode.ensures _ _ _ _ _ c.in-Some.is w.in-HandToMiner.is w.hand_to_miner-stepped.ensures w.position-is w.refused-is
      | in-Include w ↦ matched _ _ _ _ _ c.decode.ensures _ _ _ _ _ c.in-Some.is w.in-Include.is w.include-stepped.ensures w.position-is w.refused-is
      | in-Mine w ↦ matched _ _ _ _ _ c.decode.ensures _ _ _ _ _ c.in-Some.is w.in-Mine.is w.mine-stepped.ensures w.position-is w.refused-is
      | in-Bump w ↦ matched _ _ _ _ _ c.decode.ensures _ _ _ _ _ c.in-Some.is w.in-Bump.is w.bump-stepped.ensures w.position-is w.refused-is
    ]

-- the view of the position after an accepted step
seen : (c : Joined-remove-ne0) → ◌≡◌ {A = Stepped} (record { refusal = c.match-step.refused; position = c.match-step.position }) (step c.args.sheet.now.bytes c.args.setup.now c.loop-k.position (step_at c.args.journal.now (4 * c.loop-k.k)))
    → c.if-remove-ne0.view ≡ view_below c.args.sheet.now.bytes (count c.args.sheet.now.bytes) c.match-step.position
unfolding slot step_at
seen c came =
    elim c.if-remove-ne0.branch [
      | then-remove-ne0 w ↦ w.view-is ∙ w.view_over-over.ensures ∙ seen_many _ _ _ _ c.requires.fit c.loop-k.invariant.1 _ _ came c.if-refused-ne0.false _ (w.refined.ensures ∙ rw c.changed_set-members.ensures refl)
      | else-remove-ne0 w ↦ w.view-is ∙ w.seen_one-one.ensures ∙ seen_few _ _ _ _ c.requires.fit c.loop-k.invariant.1 _ _ came c.if-refused-ne0.false _ _ c.changed_set-members.ensures c.lowest-at.ensures.0 (sym c.remove.ensures ∙ w.if-remove-ne0.false)
    ]

-- the counts, where they are asked for
counted : (c : Joined-asked) → c.if-asked.opened ≡ noted_if c.args.asked c.args.sheet.now.bytes c.args.setup.now c.match-step.position c.loop-k.opened
unfolding noted_if
counted c =
    elim c.if-asked.branch [
      | then-asked w ↦ rw w.if-asked.true (w.opened-is ∙ w.noted-counted.ensures)
      | else-asked w ↦ rw w.if-asked.false w.opened-is
    ]

pub loop-k-init : goal.loop-k-init
loop-k-init c = (left_all _ _ _ _ _ _, c.requires.seen_value, λ n. absurd (n refl))

pub soonest_due-due-requires : goal.soonest_due-due-requires
soonest_due-due-requires c = record { fit = c.requires.fit; view_value = c.loop-k.invariant.1; due_known = c.loop-k.invariant.2 }

pub decode-requires : goal.decode-requires
decode-requires c = c.requires.fit

-- a step that is none
pub returns-in_default : goal.returns-in_default
unfolding decode_bytes step_at
returns-in_default c =
    c.stopped.ensures
    ∙ left_stopped _ _ _ _ _ _ _ _ c.loop-k.invariant.0 (omega (arith, c.loop-k-test.true)) _ (unread _ _ _ _ _ c.decode.ensures c.in_default.is) _ c.loop-k.invariant.1 (λ z. absurd (omega (arith, z)))

-- what the methods ask for
pub share-stepped-requires : goal.share-stepped-requires
share-stepped-requires c = record { fit = c.requires.fit; view_value = c.loop-k.invariant.1; t_value = share_fields _ _ _ _ _ _ c.in-Share.is c.requires.fit (decodes _ _ _ _ _ _ _ (sym c.decode.ensures ∙ c.in-Some.is)).fields }

pub give-stepped-requires : goal.give-stepped-requires
give-stepped-requires c = record { fit = c.requires.fit; view_value = c.loop-k.invariant.1; i_bound = give_listed _ _ _ _ _ _ c.in-Give.is c.requires.fit.checked.signatures_few (decodes _ _ _ _ _ _ _ (sym c.decode.ensures ∙ c.in-Some.is)).fields }

pub send_to_pool-stepped-requires : goal.send_to_pool-stepped-requires
send_to_pool-stepped-requires c = record { fit = c.requires.fit; view_value = c.loop-k.invariant.1; t_bound = pool_listed _ _ _ _ _ _ c.in-SendToPool.is (decodes _ _ _ _ _ _ _ (sym c.decode.ensures ∙ c.in-Some.is)).fields }

pub hand_to_miner-stepped-requires : goal.hand_to_miner-stepped-requires
hand_to_miner-stepped-requires c = record { fit = c.requires.fit; view_value = c.loop-k.invariant.1; t_bound = miner_listed _ _ _ _ _ _ c.in-HandToMiner.is (decodes _ _ _ _ _ _ _ (sym c.decode.ensures ∙ c.in-Some.is)).fields }

pub include-stepped-requires : goal.include-stepped-requires
include-stepped-requires c = record { fit = c.requires.fit; view_value = c.loop-k.invariant.1; t_bound = include_listed _ _ _ _ _ _ c.in-Include.is (decodes _ _ _ _ _ _ _ (sym c.decode.ensures ∙ c.in-Some.is)).fields }

pub mine-stepped-requires : goal.mine-stepped-requires
mine-stepped-requires c = record { fit = c.requires.fit; view_value = c.loop-k.invariant.1; due_value = mine_due _ _ _ _ _ _ _ _ _ _ _ _ c.in-Mine.is (decodes _ _ _ _ _ _ _ (sym c.decode.ensures ∙ c.in-Some.is)).bytes c.soonest_due-due.ensures }

pub bump-stepped-requires : goal.bump-stepped-requires
bump-stepped-requires c = record { fit = c.requires.fit; view_value = c.loop-k.invariant.1; t_bound = bump_listed _ _ _ _ _ _ c.in-Bump.is (decodes _ _ _ _ _ _ _ (sym c.decode.ensures ∙ c.in-Some.is)).fields }

pub returns-then-refused-ne0 : goal.returns-then-refused-ne0
returns-then-refused-ne0 c =
    c.stopped-then-refused-ne0.ensures
    ∙ left_stopped _ _ _ _ _ _ _ _ c.loop-k.invariant.0 (omega (arith, c.loop-k-test.true)) _ (taken (goal.at.returns-then-refused-ne0 c).Joined-step) _ c.loop-k.invariant.1 c.if-refused-ne0.true

pub seen_one-one-requires : goal.seen_one-one-requires
seen_one-one-requires c = c.lowest-at.ensures.1

pub noted-counted-requires : goal.noted-counted-requires
noted-counted-requires c = record { fit = c.requires.fit; view_value = seen (goal.at.noted-counted-requires c).Joined-remove-ne0 (taken (goal.at.noted-counted-requires c).Joined-step) }

pub loop-k-preserved : goal.loop-k-preserved
unfolding step_at
loop-k-preserved c = (
  left_on _ _ _ _ _ _ _ _ c.loop-k.invariant.0 (omega (arith, c.loop-k-test.true)) _ (taken (goal.at.loop-k-preserved c).Joined-step) _ c.if-refused-ne0.false (counted (goal.at.loop-k-preserved c).Joined-asked),
  seen (goal.at.loop-k-preserved c).Joined-remove-ne0 (taken (goal.at.loop-k-preserved c).Joined-step),
  known_after _ _ _ _ c.requires.fit.checked.sized.few c.loop-k.invariant.1 _ _ (taken (goal.at.loop-k-preserved c).Joined-step)
      c.if-refused-ne0.false _ _ c.soonest_due-due.ensures c.still_due-known.ensures,
)

pub returns : goal.returns
returns c =
    let e : c.loop-k.k ≡ length c.args.journal.now / 4 = omega (arith, c.loop-k-test.false, c.loop-k.auto.k-end) in
    c.stopped-2.ensures ∙ rw e at (left_ended _ _ _ _ _ _ _ _ c.loop-k.invariant.0 _ c.loop-k.invariant.1 (omega (arith, c.loop-k-test.false)))
