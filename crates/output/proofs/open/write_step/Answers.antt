-- Four stores, or none.
use Rattle.output.specs.Forms.Emitted.{emitted}
use Rattle.output.proofs.Lengths.{four_fit}
use Rattle.laws.proofs.Prelude.{over_none, stores_over, refl, [], ◌∷◌, length-set, arith}
use Rattle.output.proofs.open.write_step.Goals as goal

pub bounds-out-0 : goal.bounds-out-0
unfolding emitted
bounds-out-0 c = omega (arith, four_fit _ _ _ _ _ _ c.if-on.true c.requires)

pub bounds-out-1 : goal.bounds-out-1
unfolding emitted
bounds-out-1 c = simp length-set (omega (arith, four_fit _ _ _ _ _ _ c.if-on.true c.requires))

pub bounds-out-2 : goal.bounds-out-2
unfolding emitted
bounds-out-2 c = simp length-set (omega (arith, four_fit _ _ _ _ _ _ c.if-on.true c.requires))

pub bounds-out-3 : goal.bounds-out-3
unfolding emitted
bounds-out-3 c = simp length-set (omega (arith, (four_fit _ _ _ _ _ _ c.if-on.true c.requires)))

pub shape_of-out : goal.shape_of-out
unfolding emitted
shape_of-out c = simp length-set

pub returns-then-on : goal.returns-then-on
unfolding emitted
returns-then-on c = rw c.if-on.true (record { value = refl; out_after = stores_over (c.args.kind ∷ c.args.actor ∷ c.args.t ∷ c.args.d ∷ []) c.args.out.now })

pub returns-else-on : goal.returns-else-on
unfolding emitted
returns-else-on c = rw c.if-on.false (record { value = refl; out_after = over_none _ })
