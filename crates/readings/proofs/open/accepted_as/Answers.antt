-- By the kind.
use Rattle.readings.specs.Forms.Context.{refusal_as}
use Rattle.steps.proofs.NoParent.{pool_orphan, miner_orphan}
use Rattle.laws.proofs.Prelude.{sym, ◌∙◌, ne_eqb}
use Rattle.sheet.proofs.Refusing.{ok_number}
use Rattle.readings.proofs.open.accepted_as.Goals as goal

pub returns-in-1 : goal.returns-in-1
unfolding refusal_as
returns-in-1 c = rw (c.in-1.is, c.is_ok.ensures.value, ok_number c.share_refusal.result, c.share_refusal.ensures)

pub returns-then-parent_there : goal.returns-then-parent_there
unfolding refusal_as
returns-then-parent_there c = rw (c.in-3.is, ← c.send_held.ensures, c.is_ok-then-parent_there.ensures.value, ok_number c.pool_refusal.result, c.pool_refusal.ensures)

pub returns-else-parent_there : goal.returns-else-parent_there
unfolding refusal_as
returns-else-parent_there c = rw (c.in-3.is, c.if-parent_there.false) (sym (pool_orphan _ _ _ _ _ _ _ _ _ (rw (← c.sent.ensures) (sym c.parent_there.ensures ∙ c.if-parent_there.false))))

pub returns-then-parent_there-2 : goal.returns-then-parent_there-2
unfolding refusal_as
returns-then-parent_there-2 c = rw (c.in-4.is, ← c.send_held-then-parent_there-2.ensures, c.is_ok-then-parent_there-2.ensures.value, ok_number c.miner_refusal.result, c.miner_refusal.ensures)

pub returns-else-parent_there-2 : goal.returns-else-parent_there-2
unfolding refusal_as
returns-else-parent_there-2 c = rw (c.in-4.is, c.if-parent_there-2.false) (sym (miner_orphan _ _ _ _ _ _ _ _ _ (rw (← c.placed.ensures) (sym c.parent_there-in-4.ensures ∙ c.if-parent_there-2.false))))

pub returns-in-5 : goal.returns-in-5
unfolding refusal_as
returns-in-5 c = rw (c.in-5.is, c.is_ok-in-5.ensures.value, ok_number c.include_refusal.result, c.include_refusal.ensures)

pub returns-in_default : goal.returns-in_default
unfolding refusal_as
returns-in_default c = rw (ne_eqb _ _ c.in_default.in_default-own.rest.1, ne_eqb _ _ c.in_default.in_default-own.rest.0.1, ne_eqb _ _ c.in_default.in_default-own.rest.0.0.1, ne_eqb _ _ c.in_default.in_default-own.rest.0.0.0.1, c.is_ok-in_default.ensures.value, ok_number c.bump_refusal.result, c.bump_refusal.ensures)
