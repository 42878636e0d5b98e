-- Both tests decide whether the lists are equal.
use Rattle.std.proofs.lemmas.Bool.Decides.{same_from_decides, Decides-at}
use Rattle.std.proofs.lemmas.Slice.Eq.{bytes_eq-Decides}
use Rattle.laws.specs.Same.{same_equal, equal_same}
use Rattle.laws.proofs.Prelude.{rules}
use Rattle.sheet.specs.Saswap.{saswap}
use Rattle.sheet.specs.Setup.{is_saswap}
use Rattle.sheet.proofs.saswap.is_saswap.Goals as goal

pub returns : goal.returns
unfolding is_saswap
returns c =
    let d = saswap c.args.per_day in
    same_from_decides _ _ (Decides-at _ _ (search rules) (bytes_eq-Decides c.args.sheet.now d)) (same_equal _ d, λ e. rw e (equal_same d))
