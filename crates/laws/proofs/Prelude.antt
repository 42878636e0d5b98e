-- What nearly every proof names: numbers, equations, truth values, lists, comparisons, the general definitions with their laws, and the two provers of needs.
-- Assumes nothing.
pub use Prim.Native.Nat.{ℕ, zero, suc, ◌+◌, ◌-◌, ◌*◌, ◌/◌, ◌%◌, ◌^◌, ◌≤◌, ◌<◌}
pub use mathlib.Core.Path.{◌≡◌, refl, sym, ap, ◌∙◌, fun_ext, ap₂}
pub use mathlib.Core.Bool.{Bool, true, false, not, ◌&&◌, ◌||◌, and-false, false≢true, or-true, or-false, and-true, true≢false, beq as Bool·beq}
pub use mathlib.Core.List.Memᴰ.{head as List·Memᴰ·head}
pub use mathlib.Core.List.Memᴰ.{not-nil as List·Memᴰ·not-nil}
pub use mathlib.Core.List.{List, [], ◌∷◌, ◌++◌, append_assoc, append-nil, Memᴰ as List-as-Memᴰ, map}
unfoldable pub use mathlib.Core.List.{flat_map}
pub use mathlib.Core.Logic.{◌⊎◌, inl, inr}
pub use lib.Dec.{eqb, ltb, leb, lit<, lit≤}
pub use lib.ListN.{length, get_or, take, drop, replicate, set, length-append, length-set, length-drop, get_or-eq_default as List·getD-eq-default, length-take, get_elem?, get_or-replicate}
pub use borrow.Author.Tests.{eqb-true, eqb-false, ltb-true, ltb-false, leb-true, leb-false, eq-eqb, ne_eqb, lt-ltb, le-ltb, le-leb, lt-leb, not-true, not-false}
pub use borrow.Author.Rules.{rules}
pub use native.Mathlib.Omega.{arith}
unfoldable pub use Rattle.laws.specs.Below.{all_below, any_below}
pub use Rattle.laws.specs.Below.{all_at, any_some, any_none, any_same, all_start, all_more, all_broken, all_done, any_start, any_more, any_found, any_done}
pub use Rattle.laws.specs.Below.{any_all_false, all_from}
unfoldable pub use Rattle.laws.specs.Failing.{first_failing}
pub use Rattle.laws.specs.Failing.{test_of, passed, answer_below, none_left, fails, passes, numbered, passed_append, failed_append, fails_not, passes_not}
unfoldable pub use Rattle.laws.specs.Little.{number_at, bytes_of}
pub use Rattle.laws.specs.Little.{length_pair, length_bytes}
pub use Rattle.laws.specs.Booleans.{and_parts, split, either, or_parts, beq_same, tests, held, pick, clash, fails_by, or_right, or_neither, implied}
pub use native.Mathlib.Nat.{le_antisymm, one-mul, eq-or-lt_of_le, le_of_suc-le-suc, max-eq_left, max-eq_right, mul-le-mul, not-suc-le-zero, add-zero, zero-add}
pub use native.Mathlib.Nat.{mul-le-mul_left}
pub use Rattle.laws.specs.Bits.{no_bit, bit_and_lem, or_bit, union_bit, subset_bit, zero_or_one, bit_or_lem, bit_above}
unfoldable pub use Rattle.laws.specs.Mask.{bit, without, union_below, subset}
unfoldable pub use Rattle.laws.specs.Sets.{joined, removed, set_below}
pub use Rattle.laws.specs.Sets.{bit_joined, set_bit, none_set, set_same, set_start, set_more, set_done, set_small, bit_outside}
pub use lib.Bits.{and_mask, bit_or, bit_and, or_lt}
unfoldable pub use Rattle.laws.specs.Sum.{sum_below, bits_below}
pub use Rattle.laws.specs.Sum.{sum_start, sum_more, sum_done, sum_same, sum_both, sum_swap, sum_bound, length_gathered}
unfoldable pub use Rattle.laws.specs.Climb.{climb_in, climb}
pub use Rattle.laws.specs.Climb.{climb_step}
pub use lib.Seq.{get_or-set_same, get_or-set_other, length-take-le, take_all, drop-drop, drop_at, set_out}
unfoldable pub use Rattle.laws.specs.Least.{least_below}
pub use Rattle.laws.specs.Least.{least_top, least_le, least_from, least_start, least_more, least_done, least_same}
unfoldable pub use Rattle.laws.specs.Over.{over}
pub use Rattle.laws.specs.Over.{stores_over, over_none, take_over, length_over}
unfoldable pub use Rattle.laws.specs.Gather.{every, gather}
pub use Rattle.laws.specs.Gather.{gather_at, length_gather, gather_empty, gather_same}
pub use Rattle.laws.specs.Wrote.{Wrote, wrote_first, wrote_room, wrote_more, front_fits, Turns, turns_start, turn_room, turn_end, turn_more, turns_done, to_end}
unfoldable pub use Rattle.laws.specs.Each.{rewrite_first}
pub use Rattle.laws.specs.Each.{not_rewritten, rewritten, length_rewrite_first, length_of_map, rewrite_start, rewrite_again, rewrite_done}
pub use Rattle.laws.specs.All.{All, also, empty, all_weaken, none_some, some_same, all_place, all_append}
pub use mathlib.Core.Option.{some, Option, none}
