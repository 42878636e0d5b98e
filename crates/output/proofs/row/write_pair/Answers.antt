-- A number over the front, then one over the part after it.
use Rattle.laws.proofs.Prelude.{bytes_of, length_bytes, over, Wrote, wrote_first, wrote_room, wrote_more, front_fits, ℕ, ◌-◌, ◌≤◌, ◌≡◌, sym, List, ◌++◌, length, take, drop, length-append}
use Rattle.laws.proofs.Prelude.{arith}
use borrow.Rule.Slice.PartMut.{put_mid}
use Rattle.output.proofs.row.write_pair.Goals as goal

fits : (x y m : ℕ) → 8 ≤ m → length (bytes_of 4 x ++ bytes_of 4 y) ≤ m
fits x y m h = omega (arith, length-append (bytes_of 4 x) (bytes_of 4 y), length_bytes 4 x, length_bytes 4 y, h)

-- the buffer after the first number, and after the second
module _ (x y : ℕ) (l₀ l : List ℕ) (h : 8 ≤ length l₀) (o : l ≡ over (bytes_of 4 x) l₀) where
  one : Wrote (bytes_of 4 x) l₀ l 4
  one = wrote_first _ _ _ _ (front_fits _ (bytes_of 4 y) _ (fits x y _ h)) (sym (length_bytes 4 x)) o

  room : 4 ≤ length (take (length l - 4) (drop 4 l))
  room = omega (arith, length_bytes 4 y, wrote_room _ _ _ (bytes_of 4 y) _ one (fits x y _ h))

  two : (ys : List ℕ) → ys ≡ over (bytes_of 4 y) (take (length l - 4) (drop 4 l)) → Wrote (bytes_of 4 x ++ bytes_of 4 y) l₀ (put_mid 4 (length l - 4) l ys) 8
  two ys p = wrote_more _ _ _ _ _ 4 4 one (fits x y _ h) (sym (length_bytes 4 y)) p

pub slice_bounds-write_number-count : goal.slice_bounds-write_number-count
slice_bounds-write_number-count c = omega (arith, one _ c.args.second _ _ c.requires c.write_number.ensures, c.requires)

pub slice_bounds-write_number-start : goal.slice_bounds-write_number-start
slice_bounds-write_number-start c = omega (arith, one _ c.args.second _ _ c.requires c.write_number.ensures, c.requires)

pub write_number-requires-2 : goal.write_number-requires-2
write_number-requires-2 c = room _ c.args.second _ _ c.requires c.write_number.ensures

pub shape_of-out : goal.shape_of-out
shape_of-out c = (two _ _ _ _ c.requires c.write_number.ensures _ c.write_number-2.ensures).long

pub returns : goal.returns
returns c = (two _ _ _ _ c.requires c.write_number.ensures _ c.write_number-2.ensures).is
