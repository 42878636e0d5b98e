-- At most 32.
use lib.Count.{ones-le}
use Rattle.laws.specs.Ones.{ones_bits}
use Rattle.laws.proofs.Prelude.{bit, sum_below, bits_below, refl, rules}
use Rattle.output.proofs.open.ones.Goals as goal

pub returns-then-mask-eq0 : goal.returns-then-mask-eq0
unfolding bits_below sum_below bit
returns-then-mask-eq0 c = rw c.if-mask-eq0.true (record { is = refl; small = search rules })

pub overflow_cast-result : goal.overflow_cast-result
unfolding bits_below sum_below bit
overflow_cast-result c = let h = ones-le 32 c.args.mask (search rules) in search rules

pub returns : goal.returns
unfolding bits_below sum_below bit
returns c = record { is = ones_bits 32 c.args.mask (search rules); small = ones-le 32 c.args.mask (search rules) }
