-- lock_B, lock_A, and the first shares.
use Rattle.position.specs.Position.{is_confirmed}
use Rattle.position.specs.Conduct.{phase}
use Rattle.laws.proofs.Prelude.{lt-ltb, le-ltb, not-true, not-false}
use Rattle.position.proofs.Position.phase.Goals as goal

pub returns-then-block_of-gt0 : goal.returns-then-block_of-gt0
unfolding phase is_confirmed
returns-then-block_of-gt0 c = rw (← c.block_of.ensures, lt-ltb _ _ c.if-block_of-gt0.true)

pub returns-then-block_of-gt0-2 : goal.returns-then-block_of-gt0-2
unfolding phase is_confirmed
returns-then-block_of-gt0-2 c = rw (← c.block_of.ensures, le-ltb _ _ c.if-block_of-gt0.false, ← c.block_of-2.ensures, lt-ltb _ _ c.if-block_of-gt0-2.true)

pub returns-then-not-first_shares_made : goal.returns-then-not-first_shares_made
unfolding phase is_confirmed
returns-then-not-first_shares_made c =
    rw (
      ← c.block_of.ensures,
      le-ltb _ _ c.if-block_of-gt0.false,
      ← c.block_of-2.ensures,
      le-ltb _ _ c.if-block_of-gt0-2.false,
      ←
          c.first_shares_made.ensures,
      not-true c.first_shares_made.result c.if-not-first_shares_made.true-raw,
    )

pub returns-then-not-first_shares_made-2 : goal.returns-then-not-first_shares_made-2
unfolding phase is_confirmed
returns-then-not-first_shares_made-2 c =
    rw (
      ← c.block_of.ensures,
      le-ltb _ _ c.if-block_of-gt0.false,
      ← c.block_of-2.ensures,
      le-ltb _ _ c.if-block_of-gt0-2.false,
      ←
          c.first_shares_made.ensures,
      not-false c.first_shares_made.result c.if-not-first_shares_made.false-raw,
      ←
          c.first_shares_made-2.ensures,
      not-true c.first_shares_made-2.result c.if-not-first_shares_made-2.true-raw,
    )

pub returns : goal.returns
unfolding phase is_confirmed
returns c =
    rw (
      ← c.block_of.ensures,
      le-ltb _ _ c.if-block_of-gt0.false,
      ← c.block_of-2.ensures,
      le-ltb _ _ c.if-block_of-gt0-2.false,
      ←
          c.first_shares_made.ensures,
      not-false c.first_shares_made.result c.if-not-first_shares_made.false-raw,
      ←
          c.first_shares_made-2.ensures,
      not-false c.first_shares_made-2.result c.if-not-first_shares_made-2.false-raw,
    )
