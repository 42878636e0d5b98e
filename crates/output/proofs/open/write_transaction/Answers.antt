-- The four bits of a transaction.
use Rattle.output.proofs.Four.{four_for}
use Rattle.output.proofs.open.write_transaction.Goals as goal

pub write_at-requires : goal.write_at-requires
write_at-requires c = rw (four_for _ _ _ _ _ _ _ _ _ c.has.ensures c.has-2.ensures c.has-3.ensures c.has-4.ensures) at c.requires.t_in_bounds

pub returns : goal.returns
returns c = rw (four_for _ _ _ _ _ _ _ _ _ c.has.ensures c.has-2.ensures c.has-3.ensures c.has-4.ensures) (record { value = c.write_at.ensures.value; out_after = c.write_at.ensures.out_after })
