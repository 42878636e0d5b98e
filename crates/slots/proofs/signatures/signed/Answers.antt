-- What t needs stands at the sheet's signatures, so that none is needed beyond them.
use Rattle.laws.specs.Bits.{subset_within}
use Rattle.slots.specs.Signatures.{signed}
use Rattle.laws.proofs.Prelude.{sym, ◌∙◌}
use Rattle.slots.proofs.signatures.signed.Goals as goal

pub returns : goal.returns
unfolding signed
returns c =
    let k = c.requires.checked in
    c.all_at_hand.ensures ∙ rw c.required.ensures (sym (subset_within _ 8 _ _ (k.entries _ c.requires.t_bound).required_within k.signatures_few))
