-- What is left to pass from each entry on is the whole.
use Rattle.laws.proofs.Prelude.{◌≡◌}
use Rattle.call_blocks.specs.BlockList.{list_entries, entries_rise}
use Rattle.call_blocks.specs.Forms.Listed.{entry_of}
use Rattle.call_blocks.proofs.Walk.{left}
use Rattle.call_blocks.proofs.Rise.{behind, latest}
use Rattle.call_blocks.proofs.block_list.entries_rise.Given as goal

abbrev pub invariant-loop-k : goal.invariant-loop-k
invariant-loop-k l =
    left behind latest l.list l.k (entry_of l.last) ≡ entries_rise (list_entries l.list)
