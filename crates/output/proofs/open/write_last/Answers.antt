-- The four bits of byte 255.
use Rattle.output.proofs.Four.{four_last, none_last}
use Rattle.laws.proofs.Prelude.{over_none, refl}
use Rattle.output.proofs.open.write_last.Goals as goal

pub returns-then-last-i-eq0 : goal.returns-then-last-i-eq0
returns-then-last-i-eq0 c = rw (none_last c.args.last c.args.actor c.args.k c.if-last-i-eq0.true) (record { value = refl; out_after = over_none _ })

pub write_at-requires : goal.write_at-requires
write_at-requires c = rw (four_last _ _ _ _ _ _ _ c.has.ensures c.has-2.ensures c.has-3.ensures c.has-4.ensures) c.requires.k_in_bounds

pub returns-clause-value : goal.returns-clause-value
returns-clause-value c =
    rw (four_last c.args.last c.args.actor c.args.k _ _ _ _ c.has.ensures c.has-2.ensures c.has-3.ensures c.has-4.ensures) at c.write_at.ensures.value

pub returns-clause-out_after : goal.returns-clause-out_after
returns-clause-out_after c =
    rw (four_last c.args.last c.args.actor c.args.k _ _ _ _ c.has.ensures c.has-2.ensures c.has-3.ensures c.has-4.ensures) at c.write_at.ensures.out_after
