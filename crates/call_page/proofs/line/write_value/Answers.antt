-- One of six values.
use Rattle.laws.proofs.Prelude.{ℕ, ◌≡◌, refl, ap, ◌∙◌, [], get_or, arith}
use Rattle.printed.specs.declared.Line.{Line}
use Rattle.call_page.specs.Line.{digits, column, widths}
use Rattle.call_page.specs.Page.{texts}
use Rattle.call_page.specs.Forms.Cell.{values}
use Rattle.call_page.proofs.Columns.{same_column, room_as, written_as}
use Rattle.call_page.proofs.Names.{is_value}
use Rattle.call_page.proofs.line.write_value.Goals as goal

-- column k of the line, where k is n
is : (t : ℕ) (row : Line) (k w : ℕ) → w ≡ get_or widths k 0 → (n : ℕ) → k ≡ n
    → column w (get_or (texts (values t row)) n []) ≡ column (get_or widths k 0) (get_or (texts (values t row)) k [])
is t row k w g n e = same_column g (is_value t row n _ e)

pub write_number-requires : goal.write_number-requires
unfolding texts
write_number-requires c = room_as (is c.args.t c.args.row _ _ c.width-w.ensures 0 c.in-0.is) c.requires.k_in_bounds

pub returns-in-0-clause-value : goal.returns-in-0-clause-value
unfolding texts
returns-in-0-clause-value c = (written_as (is c.args.t c.args.row _ _ c.width-w.ensures 0 c.in-0.is) _ (c.write_number.ensures.value, c.write_number.ensures.out_after)).0

pub returns-in-0-clause-out_after : goal.returns-in-0-clause-out_after
unfolding texts
returns-in-0-clause-out_after c = (written_as (is c.args.t c.args.row _ _ c.width-w.ensures 0 c.in-0.is) _ (c.write_number.ensures.value, c.write_number.ensures.out_after)).1

pub write_number-requires-in-1 : goal.write_number-requires-in-1
unfolding texts
write_number-requires-in-1 c = room_as (same_column refl (ap digits c.from.ensures) ∙ is c.args.t c.args.row _ _ c.width-w.ensures 1 c.in-1.is) c.requires.k_in_bounds

pub returns-in-1-clause-value : goal.returns-in-1-clause-value
unfolding texts
returns-in-1-clause-value c = (written_as (same_column refl (ap digits c.from.ensures) ∙ is c.args.t c.args.row _ _ c.width-w.ensures 1 c.in-1.is) _ (c.write_number-in-1.ensures.value, c.write_number-in-1.ensures.out_after)).0

pub returns-in-1-clause-out_after : goal.returns-in-1-clause-out_after
unfolding texts
returns-in-1-clause-out_after c = (written_as (same_column refl (ap digits c.from.ensures) ∙ is c.args.t c.args.row _ _ c.width-w.ensures 1 c.in-1.is) _ (c.write_number-in-1.ensures.value, c.write_number-in-1.ensures.out_after)).1

pub write_payee-requires : goal.write_payee-requires
unfolding texts
write_payee-requires c = room_as (is c.args.t c.args.row _ _ c.width-w.ensures 2 c.in-2.is) c.requires.k_in_bounds

pub returns-in-2-clause-value : goal.returns-in-2-clause-value
unfolding texts
returns-in-2-clause-value c = (written_as (is c.args.t c.args.row _ _ c.width-w.ensures 2 c.in-2.is) _ (c.write_payee.ensures.value, c.write_payee.ensures.out_after)).0

pub returns-in-2-clause-out_after : goal.returns-in-2-clause-out_after
unfolding texts
returns-in-2-clause-out_after c = (written_as (is c.args.t c.args.row _ _ c.width-w.ensures 2 c.in-2.is) _ (c.write_payee.ensures.value, c.write_payee.ensures.out_after)).1

pub write_number-requires-in-3 : goal.write_number-requires-in-3
unfolding texts
write_number-requires-in-3 c = room_as (is c.args.t c.args.row _ _ c.width-w.ensures 3 c.in-3.is) c.requires.k_in_bounds

pub returns-in-3-clause-value : goal.returns-in-3-clause-value
unfolding texts
returns-in-3-clause-value c = (written_as (is c.args.t c.args.row _ _ c.width-w.ensures 3 c.in-3.is) _ (c.write_number-in-3.ensures.value, c.write_number-in-3.ensures.out_after)).0

pub returns-in-3-clause-out_after : goal.returns-in-3-clause-out_after
unfolding texts
returns-in-3-clause-out_after c = (written_as (is c.args.t c.args.row _ _ c.width-w.ensures 3 c.in-3.is) _ (c.write_number-in-3.ensures.value, c.write_number-in-3.ensures.out_after)).1

pub write_height-requires : goal.write_height-requires
unfolding texts
write_height-requires c = room_as (is c.args.t c.args.row _ _ c.width-w.ensures 4 c.in-4.is) c.requires.k_in_bounds

pub returns-in-4-clause-value : goal.returns-in-4-clause-value
unfolding texts
returns-in-4-clause-value c = (written_as (is c.args.t c.args.row _ _ c.width-w.ensures 4 c.in-4.is) _ (c.write_height.ensures.value, c.write_height.ensures.out_after)).0

pub returns-in-4-clause-out_after : goal.returns-in-4-clause-out_after
unfolding texts
returns-in-4-clause-out_after c = (written_as (is c.args.t c.args.row _ _ c.width-w.ensures 4 c.in-4.is) _ (c.write_height.ensures.value, c.write_height.ensures.out_after)).1

pub write_height-requires-in_default : goal.write_height-requires-in_default
unfolding texts
write_height-requires-in_default c = room_as (is c.args.t c.args.row _ _ c.width-w.ensures 5 (omega arith)) c.requires.k_in_bounds

pub returns-in_default-clause-value : goal.returns-in_default-clause-value
unfolding texts
returns-in_default-clause-value c = (written_as (is c.args.t c.args.row _ _ c.width-w.ensures 5 (omega arith)) _ (c.write_height-in_default.ensures.value, c.write_height-in_default.ensures.out_after)).0

pub returns-in_default-clause-out_after : goal.returns-in_default-clause-out_after
unfolding texts
returns-in_default-clause-out_after c = (written_as (is c.args.t c.args.row _ _ c.width-w.ensures 5 (omega arith)) _ (c.write_height-in_default.ensures.value, c.write_height-in_default.ensures.out_after)).1
