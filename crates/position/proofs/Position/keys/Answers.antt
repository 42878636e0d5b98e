-- A byte of the keys, 0 past them.
use Rattle.laws.proofs.Prelude.{◌≡◌, sym, length, arith, List·getD-eq-default, length_of_map}
use Rattle.position.specs.Position.{keys}
use Rattle.position.proofs.Position.keys.Goals as goal

pub returns-then-k-lt6 : goal.returns-then-k-lt6
unfolding keys
returns-then-k-lt6 c = rw c.from-k.ensures

pub returns : goal.returns
unfolding keys
returns c =
    let l : length c.args.self.keys ≡ 6 = search (length_of_map, c.well_formed) in
    sym (List·getD-eq-default c.args.self.keys 0 (omega (arith, l, c.from-k.ensures, c.if-k-lt6.false)))
