-- What is left to pass from each entry on, over what the array keeps, is the whole.
use Rattle.laws.proofs.Prelude.{◌≡◌, length}
use Rattle.ledger.specs.Ledger.{ledger}
use Rattle.call_blocks.specs.BlockList.{list_entries}
use Rattle.call_blocks.specs.Forms.Listed.{kept_in}
use Rattle.call_blocks.proofs.Walk.{left}
use Rattle.call_blocks.proofs.Named.{NamedFrom}
use Rattle.call_blocks.proofs.Keeping.{right, next}
use Rattle.call_blocks.proofs.kept.ledger_accepts.Given as goal

abbrev pub invariant-loop-k : goal.invariant-loop-k
invariant-loop-k l =
    (length l.kept ≡ 32) × NamedFrom l.sheet.bytes l.list l.k × (left (right l.sheet.bytes l.per_day) (next l.sheet.bytes) l.list l.k (kept_in l.kept) ≡ (ledger l.sheet.bytes l.per_day (list_entries l.list)).accepts)
