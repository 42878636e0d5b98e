-- The table at offset 0, with the two bytes that go by the offset.
use Rattle.sheet.specs.Saswap.{saswap_at, saswap}
use Rattle.laws.proofs.Prelude.{arith}
use Rattle.sheet.proofs.Offset.{offset_bound}
use Rattle.sheet.proofs.saswap.saswap_sheet.Goals as goal

pub overflow_add-bytes : goal.overflow_add-bytes
overflow_add-bytes c = omega (arith, offset_bound _ _ c.offset.ensures)

pub overflow_add-bytes-2 : goal.overflow_add-bytes-2
overflow_add-bytes-2 c = omega (arith, offset_bound _ _ c.offset-2.ensures)

pub returns : goal.returns
unfolding saswap saswap_at
returns c = rw (c.offset-2.ensures, c.offset.ensures)
