-- Records with the same parts are the same.
-- Assumes nothing.
use Rattle.laws.proofs.Prelude.{◌≡◌, refl, Bool, true, ◌&&◌, List, [], ◌∷◌, eqb, eqb-true, and_parts, clash}
use Rattle.position.proofs.Rules.{Slot}
use Rattle.position.specs.declared.Position.{Position}
use lib.Pointwise.{pointwise, bytes_decides}
use Rattle.slots.specs.contracts.SlotPartialEq.TheImpl.{eq-value}

-- the parts of a slot put together again
abbrev whole : Slot → Slot
whole x =
    record {
      pool = x.pool;
      block = x.block;
      confirmed = x.confirmed;
      alice_made = x.alice_made;
      bob_made = x.bob_made;
      carol_made = x.carol_made;
      alice = x.alice;
      bob = x.bob;
      carol = x.carol;
      contract = x.contract;
      height = x.height;
    }

slots_same : (x y : Slot) → x.pool ≡ y.pool → x.block ≡ y.block → x.confirmed ≡ y.confirmed → x.alice_made ≡ y.alice_made → x.bob_made ≡ y.bob_made
    → x.carol_made ≡ y.carol_made → x.alice ≡ y.alice → x.bob ≡ y.bob → x.carol ≡ y.carol → x.contract ≡ y.contract → x.height ≡ y.height → x ≡ y
slots_same x y a b c d e f g h i j k = let same : whole x ≡ whole y = rw (a, b, c, d, e, f, g, h, i, j, k) refl in same

positions_same : (p q : Position) → p.mined ≡ q.mined → p.keys ≡ q.keys → p.slots ≡ q.slots → p ≡ q
positions_same p q a b c =
    let same : ◌≡◌ {A = Position} (record { slots = p.slots; mined = p.mined; keys = p.keys }) (record { slots = q.slots; mined = q.mined; keys = q.keys }) = rw (a, b, c) refl in
    same

-- what `==` computes at slots
abbrev slot_equal : Slot → Slot → Bool
slot_equal = eq-value.it

-- what `==` answers at slots, field by field
slot_told : (x y : Slot)
    → (eqb x.pool y.pool && (eqb x.block y.block && (eqb x.confirmed y.confirmed && (eqb x.alice_made y.alice_made && (eqb x.bob_made y.bob_made && (eqb x.carol_made y.carol_made && (eqb x.alice y.alice && (eqb x.bob y.bob && (eqb x.carol y.carol && (eqb x.contract y.contract && eqb x.height y.height)))))))))) ≡ true
    → x ≡ y
slot_told x y e =
    let a = and_parts _ _ e in
    let b = and_parts _ _ a.1 in
    let c = and_parts _ _ b.1 in
    let d = and_parts _ _ c.1 in
    let f = and_parts _ _ d.1 in
    let g = and_parts _ _ f.1 in
    let h = and_parts _ _ g.1 in
    let i = and_parts _ _ h.1 in
    let j = and_parts _ _ i.1 in
    let k = and_parts _ _ j.1 in
    slots_same x y (eqb-true _ _ a.0) (eqb-true _ _ b.0) (eqb-true _ _ c.0) (eqb-true _ _ d.0) (eqb-true _ _ f.0) (eqb-true _ _ g.0) (eqb-true _ _ h.0) (eqb-true _ _ i.0)
    (eqb-true _ _ j.0) (eqb-true _ _ k.0) (eqb-true _ _ k.1)

module _ (equal : Slot → Slot → Bool) (told : (x y : Slot) → equal x y ≡ true → x ≡ y) where
  slots_told : (p q : List Slot) → pointwise equal p q ≡ true → p ≡ q
  slots_told [] [] e = refl
  slots_told [] (y ∷ q) e = clash e refl
  slots_told (x ∷ p) [] e = clash e refl
  slots_told (x ∷ p) (y ∷ q) e = let h = and_parts _ _ e in rw (told x y h.0, slots_told p q h.1) refl

-- what `==` answers at positions
pub position_told : (p q : Position) → (pointwise slot_equal p.slots q.slots && (eqb p.mined q.mined && pointwise eqb p.keys q.keys)) ≡ true → p ≡ q
position_told p q e =
    let a = and_parts _ _ e in
    let b = and_parts _ _ a.1 in
    positions_same p q (eqb-true _ _ b.0) ((bytes_decides p.keys q.keys).0 b.1) (slots_told slot_equal slot_told p.slots q.slots a.0)
