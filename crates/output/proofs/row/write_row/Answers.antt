-- Two stores, then two numbers and two more, each pair after what is written.
use Rattle.output.specs.Forms.Row.{row_bytes}
use Rattle.laws.proofs.Prelude.{bytes_of, length_pair, stores_over, over, Wrote, wrote_first, wrote_room, wrote_more, front_fits, ℕ, ◌-◌, ◌≤◌, ◌≡◌, refl, sym, ap, List, [], ◌∷◌}
use Rattle.laws.proofs.Prelude.{◌++◌, append_assoc, length, take, drop, set, length-set, arith}
use borrow.Rule.Slice.PartMut.{put_mid}
use Rattle.output.proofs.row.write_row.Goals as goal

eight : (x y : ℕ) → length (bytes_of 4 x ++ bytes_of 4 y) ≡ 8
eight x y = length_pair 4 (λ t. x) (λ t. y) 0

module _ (status payee block lock deadline opened : ℕ) where
  -- what the stores write, and the two calls after them
  abbrev head : List ℕ
  head = status ∷ payee ∷ []

  abbrev heights : List ℕ
  heights = bytes_of 4 block ++ bytes_of 4 lock

  abbrev later : List ℕ
  later = bytes_of 4 deadline ++ bytes_of 4 opened

  -- together they are the row, which has room
  whole_row : (head ++ heights) ++ later ≡ row_bytes status payee block lock deadline opened
  unfolding row_bytes
  whole_row = ap (λ r. status ∷ payee ∷ r) (append_assoc (bytes_of 4 block) (bytes_of 4 lock) later)

  module _ (l₀ : List ℕ) (h : length (row_bytes status payee block lock deadline opened) ≤ length l₀) where
    fits : length ((head ++ heights) ++ later) ≤ length l₀
    fits = rw (← whole_row) at h

    fits-heights : length (head ++ heights) ≤ length l₀
    fits-heights = front_fits (head ++ heights) later _ fits

    room : 2 ≤ length l₀
    room = front_fits head heights _ fits-heights

    -- the buffer there
    abbrev stored : List ℕ
    stored = set (set l₀ 0 status) 1 payee

    one : Wrote head l₀ stored 2
    one = wrote_first head _ _ 2 room refl (stores_over head l₀)

    room2 : 8 ≤ length (take (length stored - 2) (drop 2 stored))
    room2 = omega (arith, eight block lock, wrote_room head _ stored heights 2 one fits-heights)

    module _ (ys : List ℕ) (p : ys ≡ over heights (take (length stored - 2) (drop 2 stored))) where
      abbrev after2 : List ℕ
      after2 = put_mid 2 (length stored - 2) stored ys

      two : Wrote (head ++ heights) l₀ after2 10
      two = wrote_more head _ stored heights _ 2 8 one fits-heights (sym (eight block lock)) p

      room3 : 8 ≤ length (take (length after2 - 10) (drop 10 after2))
      room3 = omega (arith, eight deadline opened, wrote_room (head ++ heights) _ after2 later 10 two fits)

      three : (zs : List ℕ) → zs ≡ over later (take (length after2 - 10) (drop 10 after2))
          → Wrote (row_bytes status payee block lock deadline opened) l₀ (put_mid 10 (length after2 - 10) after2 zs) 18
      three zs q = rw whole_row at (wrote_more (head ++ heights) _ after2 later _ 10 8 two fits (sym (eight deadline opened)) q)

pub bounds-out-0 : goal.bounds-out-0
bounds-out-0 c = omega (arith, room _ _ _ _ _ _ _ c.requires)

pub bounds-out-1 : goal.bounds-out-1
bounds-out-1 c = simp length-set (omega (arith, room _ _ _ _ _ _ _ c.requires))

pub slice_bounds-write_pair-count : goal.slice_bounds-write_pair-count
slice_bounds-write_pair-count c = omega (arith, one _ _ _ _ _ _ _ c.requires)

pub slice_bounds-write_pair-start : goal.slice_bounds-write_pair-start
slice_bounds-write_pair-start c = omega (arith, one _ _ _ _ _ _ _ c.requires)

pub write_pair-requires : goal.write_pair-requires
write_pair-requires c = room2 _ _ _ _ _ _ _ c.requires

pub slice_bounds-write_pair-count-2 : goal.slice_bounds-write_pair-count-2
slice_bounds-write_pair-count-2 c = omega (arith, two _ _ _ _ _ _ _ c.requires _ c.write_pair.ensures)

pub slice_bounds-write_pair-start-2 : goal.slice_bounds-write_pair-start-2
slice_bounds-write_pair-start-2 c = omega (arith, two _ _ _ _ _ _ _ c.requires _ c.write_pair.ensures)

pub write_pair-requires-2 : goal.write_pair-requires-2
write_pair-requires-2 c = room3 _ _ _ _ _ _ _ c.requires _ c.write_pair.ensures

pub shape_of-out : goal.shape_of-out
shape_of-out c = (three _ _ _ _ _ _ _ c.requires _ c.write_pair.ensures _ c.write_pair-2.ensures).long

pub returns : goal.returns
returns c = (three _ _ _ _ _ _ _ c.requires _ c.write_pair.ensures _ c.write_pair-2.ensures).is
