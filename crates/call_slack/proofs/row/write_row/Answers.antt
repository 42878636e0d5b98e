-- A number over the front, then four bytes over the part after it.
use Rattle.laws.proofs.Prelude.{bytes_of, length_bytes, over, Wrote, wrote_first, wrote_room, wrote_more, front_fits, take, drop}
use borrow.Rule.Slice.PartMut.{put_mid}
use Rattle.laws.proofs.Prelude.{ℕ, ◌-◌, ◌≤◌, ◌≡◌, refl, sym, List, [], ◌∷◌, ◌++◌, length, length-append, arith}
use Rattle.call_slack.proofs.row.write_row.Goals as goal

-- the buffer, what is written to it, and the buffer after the number
module _ (out : List ℕ) (blocks t to due : ℕ) (h : 8 ≤ length out) (after : List ℕ) (e : after ≡ over (bytes_of 4 blocks) out) where
  abbrev first : List ℕ
  first = bytes_of 4 blocks

  abbrev second : List ℕ
  second = t ∷ to ∷ due ∷ 0 ∷ []

  fits : length (first ++ second) ≤ length out
  fits = omega (arith, length-append first second, length_bytes 4 blocks, h)

  one : Wrote first out after 4
  one = wrote_first first _ _ 4 (front_fits first second _ fits) (sym (length_bytes 4 blocks)) e

  two : (ys : List ℕ) → ys ≡ over second (take (length after - 4) (drop 4 after)) → Wrote (first ++ second) out (put_mid 4 (length after - 4) after ys) 8
  two ys o = wrote_more first _ after _ _ 4 4 one fits refl o

pub slice_bounds-write_counted-count : goal.slice_bounds-write_counted-count
slice_bounds-write_counted-count c = omega (arith, one c.args.out.now c.args.blocks c.args.t c.args.to c.args.due c.requires _ c.write_number.ensures, c.requires)

pub slice_bounds-write_counted-start : goal.slice_bounds-write_counted-start
slice_bounds-write_counted-start c = omega (arith, one c.args.out.now c.args.blocks c.args.t c.args.to c.args.due c.requires _ c.write_number.ensures, c.requires)

pub write_counted-requires : goal.write_counted-requires
write_counted-requires c =
    let o = one c.args.out.now c.args.blocks c.args.t c.args.to c.args.due c.requires _ c.write_number.ensures in
    let f = fits c.args.out.now c.args.blocks c.args.t c.args.to c.args.due c.requires _ c.write_number.ensures in
    omega (arith, wrote_room _ _ _ (c.args.t ∷ c.args.to ∷ c.args.due ∷ 0 ∷ []) 4 o f)

pub shape_of-out : goal.shape_of-out
shape_of-out c = (two c.args.out.now c.args.blocks c.args.t c.args.to c.args.due c.requires _ c.write_number.ensures _ c.write_counted.ensures).long

pub returns : goal.returns
returns c = (two c.args.out.now c.args.blocks c.args.t c.args.to c.args.due c.requires _ c.write_number.ensures _ c.write_counted.ensures).is
