-- A payee, whose parent is somewhere, and by kind 3 or by kind 4.
use Rattle.steps.specs.Forms.Sending.{pays_in}
use Rattle.sheet.proofs.Refusing.{ok_number}
use Rattle.steps.proofs.NoParent.{pays_none}
use Rattle.laws.proofs.Prelude.{tests, sym, ◌∙◌, not-true, not-false}
use Rattle.steps.proofs.sending.pays.Goals as goal

pub returns-then-not-is_payee : goal.returns-then-not-is_payee
unfolding pays_in
returns-then-not-is_payee c = rw (← c.is_payee.ensures, not-true c.is_payee.result c.if-not-is_payee.true-raw)

pub returns-then-not-parent_there : goal.returns-then-not-parent_there
returns-then-not-parent_there c =
    let h = sym c.parent_there.ensures ∙ not-true c.parent_there.result c.if-not-parent_there.true-raw in
    let none = rw c.placed.ensures at h in
    pays_none _ _ _ _ _ _ _ _ none (sym c.is_payee.ensures ∙ not-false c.is_payee.result c.if-not-is_payee.false-raw)

pub returns-then-is_ok : goal.returns-then-is_ok
unfolding pays_in
returns-then-is_ok c = rw (← c.is_payee.ensures, not-false c.is_payee.result c.if-not-is_payee.false-raw, ← c.send_allowed-allowed.ensures, ← c.pool_refusal.ensures, ← ok_number c.pool_refusal.result, ← c.is_ok.ensures.value, c.if-is_ok.true)

pub returns : goal.returns
unfolding pays_in
returns c = simp (tests, ← c.is_payee.ensures, not-false c.is_payee.result c.if-not-is_payee.false-raw, ← c.send_allowed-allowed.ensures, ← c.pool_refusal.ensures, ← ok_number c.pool_refusal.result, ← c.is_ok.ensures.value, c.if-is_ok.false, ← c.miner_refusal.ensures, ← ok_number c.miner_refusal.result, ← c.is_ok-2.ensures.value)
