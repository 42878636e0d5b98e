-- One actor's steps, then the other's.
use Rattle.laws.proofs.Prelude.{ℕ, ◌+◌, ◌-◌, ◌≤◌, ◌≡◌, List, ◌++◌, length, take, drop, arith, over, Wrote, wrote_first, wrote_room, wrote_more, front_fits}
use borrow.Rule.Slice.PartMut.{put_mid}
use Rattle.output.specs.Forms.Emitted.{actor_bytes}
use Rattle.queries.specs.declared.OpenSets.{OpenSets}
use Rattle.call_list.specs.Forms.SetsBytes.{two_bytes}
use Rattle.call_list.proofs.listing.write_two.Goals as goal

module _ (x : OpenSets) (a : ℕ) (y : OpenSets) (b : ℕ) where
  -- the two parts, and that they fit
  abbrev start : List ℕ
  start = actor_bytes x.below x.last a

  abbrev rest : List ℕ
  rest = actor_bytes y.below y.last b

  module _ (l₀ l : List ℕ) (n : ℕ) (h : length (two_bytes x a y b) ≤ length l₀) where
    fits : length (start ++ rest) ≤ length l₀
    unfolding two_bytes
    fits = h

    module _ (e : n ≡ length start) (o : l ≡ over start l₀) where
      -- the buffer after the first part, and after both
      one : Wrote start l₀ l n
      one = wrote_first _ _ _ _ (front_fits start rest _ fits) e o

      room : length rest ≤ length (take (length l - n) (drop n l))
      room = wrote_room _ _ _ rest _ one fits

      two : (m : ℕ) (ys : List ℕ) → m ≡ length rest → ys ≡ over rest (take (length l - n) (drop n l)) → Wrote (two_bytes x a y b) l₀ (put_mid n (length l - n) l ys) (n + m)
      unfolding two_bytes
      two m ys x y = wrote_more _ _ _ _ _ _ _ one fits x y

pub write_actor-start-requires : goal.write_actor-start-requires
write_actor-start-requires c = front_fits _ (rest c.args.x c.args.a c.args.y c.args.b) _ (fits _ _ _ _ _ c.args.out.now 0 c.requires)

pub slice_bounds-write_actor-count : goal.slice_bounds-write_actor-count
slice_bounds-write_actor-count c = omega (arith, one _ _ _ _ _ _ _ c.requires c.write_actor-start.ensures.value c.write_actor-start.ensures.out_after)

pub slice_bounds-write_actor-start : goal.slice_bounds-write_actor-start
slice_bounds-write_actor-start c = omega (arith, one _ _ _ _ _ _ _ c.requires c.write_actor-start.ensures.value c.write_actor-start.ensures.out_after)

pub write_actor-rest-requires : goal.write_actor-rest-requires
write_actor-rest-requires c = room _ _ _ _ _ _ _ c.requires c.write_actor-start.ensures.value c.write_actor-start.ensures.out_after

pub overflow_add-result : goal.overflow_add-result
overflow_add-result c = omega (arith, two _ _ _ _ _ _ _ c.requires c.write_actor-start.ensures.value c.write_actor-start.ensures.out_after _ _ c.write_actor-rest.ensures.value c.write_actor-rest.ensures.out_after)

pub shape_of-out : goal.shape_of-out
shape_of-out c = (two _ _ _ _ _ _ _ c.requires c.write_actor-start.ensures.value c.write_actor-start.ensures.out_after _ _ c.write_actor-rest.ensures.value c.write_actor-rest.ensures.out_after).long

pub returns-clause-value : goal.returns-clause-value
returns-clause-value c = (two _ _ _ _ _ _ _ c.requires c.write_actor-start.ensures.value c.write_actor-start.ensures.out_after _ _ c.write_actor-rest.ensures.value c.write_actor-rest.ensures.out_after).at

pub returns-clause-out_after : goal.returns-clause-out_after
returns-clause-out_after c = (two _ _ _ _ _ _ _ c.requires c.write_actor-start.ensures.value c.write_actor-start.ensures.out_after _ _ c.write_actor-rest.ensures.value c.write_actor-rest.ensures.out_after).is
