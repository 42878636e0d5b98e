-- The steps on the transactions, then those of byte 255.
use Rattle.output.specs.Forms.Emitted.{below_bytes, last_bytes, kind_bytes}
use Rattle.laws.proofs.Prelude.{gather, over, Wrote, wrote_first, wrote_room, wrote_more, front_fits, ℕ, ◌+◌, ◌-◌, ◌≤◌, ◌≡◌, List, ◌++◌, length, take, drop, rules, arith}
use borrow.Rule.Slice.PartMut.{put_mid}
use Rattle.output.proofs.open.write_kind.Goals as goal

-- the two parts fit
fits : (below : List ℕ) (last actor k m : ℕ) → length (kind_bytes below last actor k) ≤ m
    → length (gather 32 (below_bytes below actor k) ++ last_bytes last actor k) ≤ m
unfolding kind_bytes
fits below last actor k m h = h

module _ (below : List ℕ) (last actor k : ℕ) (l₀ l : List ℕ) (n : ℕ) (h : length (kind_bytes below last actor k) ≤ length l₀)
    (e : n ≡ length (gather 32 (below_bytes below actor k))) (o : l ≡ over (gather 32 (below_bytes below actor k)) l₀) where
  -- the buffer after the first part, and after both
  one : Wrote (gather 32 (below_bytes below actor k)) l₀ l n
  one = wrote_first _ _ _ _ (front_fits _ (last_bytes last actor k) _ (fits below last actor k _ h)) e o

  room : length (last_bytes last actor k) ≤ length (take (length l - n) (drop n l))
  room = wrote_room _ _ _ (last_bytes last actor k) _ one (fits below last actor k _ h)

  two : (m : ℕ) (ys : List ℕ) → m ≡ length (last_bytes last actor k) → ys ≡ over (last_bytes last actor k) (take (length l - n) (drop n l))
      → Wrote (kind_bytes below last actor k) l₀ (put_mid n (length l - n) l ys) (n + m)
  unfolding kind_bytes
  two m ys x y = wrote_more _ _ _ _ _ _ _ one (fits below last actor k _ h) x y

pub write_below-start-requires : goal.write_below-start-requires
write_below-start-requires c =
    record { k_bound = search rules; k_in_bounds = front_fits _ (last_bytes c.args.last c.args.actor c.args.k) _ (fits _ _ _ _ _ c.requires.k_in_bounds) }

pub slice_bounds-write_last-count : goal.slice_bounds-write_last-count
slice_bounds-write_last-count c = omega (arith, one _ _ _ _ _ _ _ c.requires.k_in_bounds c.write_below-start.ensures.value c.write_below-start.ensures.out_after)

pub slice_bounds-write_last-start : goal.slice_bounds-write_last-start
slice_bounds-write_last-start c = omega (arith, one _ _ _ _ _ _ _ c.requires.k_in_bounds c.write_below-start.ensures.value c.write_below-start.ensures.out_after)

pub write_last-rest-requires : goal.write_last-rest-requires
write_last-rest-requires c =
    record { k_bound = search rules; k_in_bounds = room _ _ _ _ _ _ _ c.requires.k_in_bounds c.write_below-start.ensures.value c.write_below-start.ensures.out_after }

pub overflow_add-result : goal.overflow_add-result
overflow_add-result c =
    omega (arith, two _ _ _ _ _ _ _ c.requires.k_in_bounds c.write_below-start.ensures.value c.write_below-start.ensures.out_after _ _ c.write_last-rest.ensures.value c.write_last-rest.ensures.out_after)

pub shape_of-out : goal.shape_of-out
shape_of-out c =
    (two _ _ _ _ _ _ _ c.requires.k_in_bounds c.write_below-start.ensures.value c.write_below-start.ensures.out_after _ _ c.write_last-rest.ensures.value c.write_last-rest.ensures.out_after).long

pub returns-clause-value : goal.returns-clause-value
returns-clause-value c =
    (two _ _ _ _ _ _ _ c.requires.k_in_bounds c.write_below-start.ensures.value c.write_below-start.ensures.out_after _ _ c.write_last-rest.ensures.value c.write_last-rest.ensures.out_after).at

pub returns-clause-out_after : goal.returns-clause-out_after
returns-clause-out_after c =
    (two _ _ _ _ _ _ _ c.requires.k_in_bounds c.write_below-start.ensures.value c.write_below-start.ensures.out_after _ _ c.write_last-rest.ensures.value c.write_last-rest.ensures.out_after).is
