-- Never, or a number.
use Rattle.laws.proofs.Prelude.{refl}
use Rattle.call_page.proofs.Columns.{same_column, room_as, written_as}
use Rattle.call_page.proofs.Names.{is_never, is_height}
use Rattle.call_page.proofs.line.write_height.Goals as goal

pub write_text-requires : goal.write_text-requires
write_text-requires c = room_as (same_column refl (is_never _ c.if-height-eq-NEVER.true)) c.requires

pub returns-then-height-eq-NEVER-clause-value : goal.returns-then-height-eq-NEVER-clause-value
returns-then-height-eq-NEVER-clause-value c =
    (written_as (same_column refl (is_never _ c.if-height-eq-NEVER.true)) _ (c.write_text.ensures.value, c.write_text.ensures.out_after)).0

pub returns-then-height-eq-NEVER-clause-out_after : goal.returns-then-height-eq-NEVER-clause-out_after
returns-then-height-eq-NEVER-clause-out_after c =
    (written_as (same_column refl (is_never _ c.if-height-eq-NEVER.true)) _ (c.write_text.ensures.value, c.write_text.ensures.out_after)).1

pub write_number-requires : goal.write_number-requires
write_number-requires c = room_as (same_column refl (is_height _ c.if-height-eq-NEVER.false)) c.requires

pub returns-clause-value : goal.returns-clause-value
returns-clause-value c =
    (written_as (same_column refl (is_height _ c.if-height-eq-NEVER.false)) _ (c.write_number.ensures.value, c.write_number.ensures.out_after)).0

pub returns-clause-out_after : goal.returns-clause-out_after
returns-clause-out_after c =
    (written_as (same_column refl (is_height _ c.if-height-eq-NEVER.false)) _ (c.write_number.ensures.value, c.write_number.ensures.out_after)).1
