-- Alice's steps and Bob's, then Carol's and the miner's.
use Rattle.laws.proofs.Prelude.{ℕ, ◌+◌, ◌-◌, ◌≤◌, ◌≡◌, List, ◌++◌, length, take, drop, arith, over, Wrote, wrote_first, wrote_room, wrote_more, front_fits}
use borrow.Rule.Slice.PartMut.{put_mid}
use Rattle.queries.specs.declared.OpenSets.{OpenSets}
use Rattle.call_list.specs.Forms.SetsBytes.{two_bytes, sets_bytes}
use Rattle.call_list.proofs.listing.write_all.Goals as goal

module _ (alice bob carol miner : OpenSets) where
  -- the two parts, and that they fit
  abbrev start : List ℕ
  start = two_bytes alice 0 bob 1

  abbrev rest : List ℕ
  rest = two_bytes carol 3 miner 2

  module _ (l₀ l : List ℕ) (n : ℕ) (h : length (sets_bytes alice bob carol miner) ≤ length l₀) where
    fits : length (start ++ rest) ≤ length l₀
    unfolding sets_bytes
    fits = h

    module _ (e : n ≡ length start) (o : l ≡ over start l₀) where
      -- the buffer after the first part, and after both
      one : Wrote start l₀ l n
      one = wrote_first _ _ _ _ (front_fits start rest _ fits) e o

      room : length rest ≤ length (take (length l - n) (drop n l))
      room = wrote_room _ _ _ rest _ one fits

      two : (m : ℕ) (ys : List ℕ) → m ≡ length rest → ys ≡ over rest (take (length l - n) (drop n l)) → Wrote (sets_bytes alice bob carol miner) l₀ (put_mid n (length l - n) l ys) (n + m)
      unfolding sets_bytes
      two m ys x y = wrote_more _ _ _ _ _ _ _ one fits x y

pub write_two-start-requires : goal.write_two-start-requires
write_two-start-requires c = front_fits _ (rest c.args.alice c.args.bob c.args.carol c.args.miner) _ (fits _ _ _ _ _ c.args.out.now 0 c.requires)

pub slice_bounds-write_two-count : goal.slice_bounds-write_two-count
slice_bounds-write_two-count c = omega (arith, one _ _ _ _ _ _ _ c.requires c.write_two-start.ensures.value c.write_two-start.ensures.out_after)

pub slice_bounds-write_two-start : goal.slice_bounds-write_two-start
slice_bounds-write_two-start c = omega (arith, one _ _ _ _ _ _ _ c.requires c.write_two-start.ensures.value c.write_two-start.ensures.out_after)

pub write_two-requires : goal.write_two-requires
write_two-requires c = room _ _ _ _ _ _ _ c.requires c.write_two-start.ensures.value c.write_two-start.ensures.out_after

pub shape_of-out : goal.shape_of-out
shape_of-out c = (two _ _ _ _ _ _ _ c.requires c.write_two-start.ensures.value c.write_two-start.ensures.out_after _ _ c.write_two.ensures.value c.write_two.ensures.out_after).long

pub returns : goal.returns
returns c = (two _ _ _ _ _ _ _ c.requires c.write_two-start.ensures.value c.write_two-start.ensures.out_after _ _ c.write_two.ensures.value c.write_two.ensures.out_after).is
