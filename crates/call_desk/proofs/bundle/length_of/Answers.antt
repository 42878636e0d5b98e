-- Four bytes behind the setups.
use Rattle.call_desk.specs.Bundle.{length_of}
use Rattle.call_desk.proofs.Bundles.{arrays_some, lengths_end}
use borrow.Author.Rules.{rules}
use Rattle.call_desk.proofs.bundle.length_of.Goals as goal

pub swaps-n-requires : goal.swaps-n-requires
unfolding length_of
swaps-n-requires c = arrays_some _ c.requires.arrays

pub u32_at-requires : goal.u32_at-requires
unfolding length_of
u32_at-requires c = lengths_end _ c.requires.arrays _ _ c.swaps-n.ensures.is c.requires.i_bound

pub returns : goal.returns
unfolding length_of
returns c = record { is = rw (← c.swaps-n.ensures.is) c.u32_at.ensures; small = search rules }
