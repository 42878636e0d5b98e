-- The digits from the last one on, then their column.
use Rattle.laws.proofs.Prelude.{refl, rules, arith}
use Rattle.call_page.proofs.Columns.{same_column, room_as, written_as}
use Rattle.call_page.proofs.Digits.{digits_some, made_none, made_room, made_more, made_all}
use Rattle.call_page.proofs.line.write_number.Goals as goal

pub loop-rest-init : goal.loop-rest-init
loop-rest-init c = made_none _ _ refl (search rules)

pub overflow_sub-at : goal.overflow_sub-at
overflow_sub-at c = omega (arith, made_room _ _ _ _ c.loop-rest.invariant, digits_some c.loop-rest.rest)

pub bounds-made-at : goal.bounds-made-at
bounds-made-at c = omega (arith, c.loop-rest.invariant.within, made_room _ _ _ _ c.loop-rest.invariant, digits_some c.loop-rest.rest)

pub loop-rest-preserved : goal.loop-rest-preserved
loop-rest-preserved c = made_more _ _ _ _ c.loop-rest.invariant _ c.loop-rest-test.true c.digit.ensures

pub overflow_sub-at-2 : goal.overflow_sub-at-2
overflow_sub-at-2 c = omega (arith, made_room _ _ _ _ c.loop-rest.invariant, digits_some c.loop-rest.rest)

pub bounds-made-at-2 : goal.bounds-made-at-2
bounds-made-at-2 c = omega (arith, c.loop-rest.invariant.within, made_room _ _ _ _ c.loop-rest.invariant, digits_some c.loop-rest.rest)

pub write_text-requires : goal.write_text-requires
write_text-requires c = room_as (same_column refl (made_all _ _ _ _ c.loop-rest.invariant _ c.loop-rest-test.false c.digit-2.ensures)) c.requires

pub returns-clause-value : goal.returns-clause-value
returns-clause-value c =
    (written_as (same_column refl (made_all _ _ _ _ c.loop-rest.invariant _ c.loop-rest-test.false c.digit-2.ensures)) _ (c.write_text.ensures.value, c.write_text.ensures.out_after)).0

pub returns-clause-out_after : goal.returns-clause-out_after
returns-clause-out_after c =
    (written_as (same_column refl (made_all _ _ _ _ c.loop-rest.invariant _ c.loop-rest-test.false c.digit-2.ensures)) _ (c.write_text.ensures.value, c.write_text.ensures.out_after)).1
