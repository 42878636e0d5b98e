-- The answers of the swaps before i; the journal of swap i starts at `start`.
use Rattle.laws.proofs.Prelude.{arith, turns_start}
use Rattle.call_desk.proofs.Bundles.{arrays, arrays_some, stands, start_first, start_next}
use Rattle.call_desk.proofs.Swaps.{all_room, eight_more, answers_done}
use Rattle.call_desk.proofs.answers.write_answers.Goals as goal

pub swaps-n-requires : goal.swaps-n-requires
swaps-n-requires c = arrays_some _ (arrays _ c.requires.bundle_value)

pub loop-i-init : goal.loop-i-init
loop-i-init c = (turns_start _ _ _ (all_room _ _ _ _ c.swaps-n.ensures.is c.requires.bundle_in_bounds), start_first _ _ c.swaps-n.ensures.is)

pub length_of-size-requires : goal.length_of-size-requires
length_of-size-requires c = record { arrays = arrays _ c.requires.bundle_value; i_bound = omega (arith, c.loop-i-test.true, c.swaps-n.ensures.is) }

pub swap_ran-ran-requires : goal.swap_ran-ran-requires
swap_ran-ran-requires c = record { sheet_value = c.requires.sheet_value; stands = stands _ c.requires.bundle_value _ _ _ (omega (arith, c.loop-i-test.true, c.swaps-n.ensures.is)) c.loop-i.invariant.1 c.length_of-size.ensures.is }

pub overflow_add-start-in-loop-i : goal.overflow_add-start-in-loop-i
overflow_add-start-in-loop-i c =
    let h = stands _ c.requires.bundle_value _ _ _ (omega (arith, c.loop-i-test.true, c.swaps-n.ensures.is)) c.loop-i.invariant.1 c.length_of-size.ensures.is in
    omega (arith, h.journal_ends)

pub loop-i-preserved : goal.loop-i-preserved
loop-i-preserved c = (eight_more _ _ _ _ _ _ _ _ c.loop-i.invariant.0 c.loop-i-test.true c.swap_ran-ran.ensures c.write_pair.ensures, start_next _ _ _ _ c.loop-i.invariant.1 c.length_of-size.ensures.is)

pub returns : goal.returns
returns c = answers_done _ _ _ _ _ _ c.swaps-n.ensures.is c.loop-i.invariant.0 c.loop-i-test.false
