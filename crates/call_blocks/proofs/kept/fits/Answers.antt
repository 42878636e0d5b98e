-- Block 0 is none.
use Rattle.laws.proofs.Prelude.{eq-eqb, ne_eqb, arith}
use Rattle.call_blocks.specs.Forms.Listed.{last_of}
use Rattle.call_blocks.proofs.kept.fits.Goals as goal

pub returns-then-last-eq0 : goal.returns-then-last-eq0
unfolding last_of
returns-then-last-eq0 c = rw (eq-eqb _ 0 c.if-last-eq0.true) c.opens.ensures

pub spends-requires : goal.spends-requires
unfolding last_of
spends-requires c = record { checked = c.requires.checked; transaction_bound = c.requires.transaction_bound; block_nonzero = omega (arith, c.if-last-eq0.false) }

pub returns : goal.returns
unfolding last_of
returns c = rw (ne_eqb _ 0 c.if-last-eq0.false) c.spends.ensures
