-- The height in its slot; past the slots there is none.
use Rattle.position.specs.Position.{slot, block_of}
use Rattle.slots.specs.Slot.{empty_slot}
use Rattle.slots.specs.declared.Slot.{Slot}
use Rattle.laws.proofs.Prelude.{◌≡◌, refl, sym, ap, length, arith, List·getD-eq-default, length_of_map}
use Rattle.position.proofs.Position.block_of.Goals as goal

pub returns-then-t-lt32 : goal.returns-then-t-lt32
unfolding block_of slot
returns-then-t-lt32 c = refl

pub returns : goal.returns
unfolding block_of slot
returns c =
    let l : length c.args.self.slots ≡ 32 = search (length_of_map, c.well_formed) in
    sym (ap (λ (x : Slot). x.height) (List·getD-eq-default c.args.self.slots empty_slot {n = c.args.t} (omega (arith, l, c.if-t-lt32.false))))
