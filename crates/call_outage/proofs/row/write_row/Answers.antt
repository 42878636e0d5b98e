-- Two stores, then two numbers after them.
use Rattle.laws.proofs.Prelude.{bytes_of, length_pair, stores_over, over, Wrote, wrote_first, wrote_room, wrote_more, ℕ, ◌-◌, ◌≤◌, ◌≡◌, refl, sym, List, [], ◌∷◌, ◌++◌, length}
use Rattle.laws.proofs.Prelude.{set, length-set, arith, take, drop}
use borrow.Rule.Slice.PartMut.{put_mid}
use Rattle.call_outage.proofs.row.write_row.Goals as goal

-- the buffer, and what is written to it
module _ (out : List ℕ) (verdict payees block deadline : ℕ) (h : 10 ≤ length out) where
  -- what the stores write, and the call after them
  abbrev head : List ℕ
  head = verdict ∷ payees ∷ []

  abbrev pair : List ℕ
  pair = bytes_of 4 block ++ bytes_of 4 deadline

  eight : length pair ≡ 8
  eight = length_pair 4 (λ t. block) (λ t. deadline) 0

  fits : length (head ++ pair) ≤ length out
  fits = omega (arith, eight, h)

  -- the buffer after the stores
  abbrev stored : List ℕ
  stored = set (set out 0 verdict) 1 payees

  one : Wrote head out stored 2
  one = wrote_first head _ _ 2 (omega (arith, h)) refl (stores_over head out)

  two : (ys : List ℕ) → ys ≡ over pair (take (length stored - 2) (drop 2 stored)) → Wrote (head ++ pair) out (put_mid 2 (length stored - 2) stored ys) 10
  two ys e = wrote_more head _ stored pair _ 2 8 one fits (sym eight) e

pub bounds-out-1 : goal.bounds-out-1
bounds-out-1 c = simp length-set (omega arith)

pub slice_bounds-write_pair-count : goal.slice_bounds-write_pair-count
slice_bounds-write_pair-count c = omega (arith, one c.args.out.now c.args.verdict c.args.payees c.args.block c.args.deadline c.requires)

pub slice_bounds-write_pair-start : goal.slice_bounds-write_pair-start
slice_bounds-write_pair-start c = omega (arith, one c.args.out.now c.args.verdict c.args.payees c.args.block c.args.deadline c.requires)

pub write_pair-requires : goal.write_pair-requires
write_pair-requires c =
    let e = eight c.args.out.now c.args.verdict c.args.payees c.args.block c.args.deadline c.requires in
    let o = one c.args.out.now c.args.verdict c.args.payees c.args.block c.args.deadline c.requires in
    let f = fits c.args.out.now c.args.verdict c.args.payees c.args.block c.args.deadline c.requires in
    omega (arith, e, wrote_room _ _ _ _ 2 o f)

pub shape_of-out : goal.shape_of-out
shape_of-out c = (two c.args.out.now c.args.verdict c.args.payees c.args.block c.args.deadline c.requires _ c.write_pair.ensures).long

pub returns : goal.returns
returns c = (two c.args.out.now c.args.verdict c.args.payees c.args.block c.args.deadline c.requires _ c.write_pair.ensures).is
