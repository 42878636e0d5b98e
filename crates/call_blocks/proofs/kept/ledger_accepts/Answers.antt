-- What is left to pass from each entry on, over what the array keeps, is the whole.
use Rattle.laws.proofs.Prelude.{length-set, rules, arith}
use Rattle.call_blocks.proofs.Walk.{left_on, left_stopped, left_ended}
use Rattle.call_blocks.proofs.Named.{named_all, named_next, named_low}
use Rattle.call_blocks.proofs.Keeping.{right, next, keeps_start, turn_low, turn_coin, turn_right, turn_keeps}
use Rattle.call_blocks.proofs.kept.ledger_accepts.Goals as goal

pub loop-k-init : goal.loop-k-init
loop-k-init c = (search rules, named_all _ _ c.requires.list_value, keeps_start _ _ _)

pub coin_of-coin-requires : goal.coin_of-coin-requires
coin_of-coin-requires c = record { t_bound = turn_low _ _ c.requires.checked _ _ c.loop-k.invariant.1 (omega (arith, c.loop-k-test.true)) c.listed_at-entry.ensures _ c.from.ensures }

pub offset_bounds-kept-coin : goal.offset_bounds-kept-coin
offset_bounds-kept-coin c = let b = turn_coin _ _ c.requires.checked _ _ c.loop-k.invariant.1 (omega (arith, c.loop-k-test.true)) c.listed_at-entry.ensures _ c.from.ensures _ c.coin_of-coin.ensures in search rules

pub bounds-kept-coin : goal.bounds-kept-coin
bounds-kept-coin c = let b = turn_coin _ _ c.requires.checked _ _ c.loop-k.invariant.1 (omega (arith, c.loop-k-test.true)) c.listed_at-entry.ensures _ c.from.ensures _ c.coin_of-coin.ensures in search rules

pub fits-requires : goal.fits-requires
fits-requires c = record { checked = c.requires.checked; transaction_bound = named_low _ _ _ _ c.loop-k.invariant.1 (omega (arith, c.loop-k-test.true)) c.listed_at-entry.ensures }

pub returns-then-not-fits : goal.returns-then-not-fits
returns-then-not-fits c =
    left_stopped (right _ _) (next _) _ _ _ _ _ _ c.loop-k.invariant.2 (omega (arith, c.loop-k-test.true)) c.listed_at-entry.ensures
    (turn_right _ _ _ _ _ _ _ c.from.ensures c.coin_of-coin.ensures c.fits.ensures) c.if-not-fits.true-raw

pub offset_bounds-kept-coin-in-loop-k : goal.offset_bounds-kept-coin-in-loop-k
offset_bounds-kept-coin-in-loop-k c = let b = turn_coin _ _ c.requires.checked _ _ c.loop-k.invariant.1 (omega (arith, c.loop-k-test.true)) c.listed_at-entry.ensures _ c.from.ensures _ c.coin_of-coin.ensures in search rules

pub bounds-kept-coin-in-loop-k : goal.bounds-kept-coin-in-loop-k
bounds-kept-coin-in-loop-k c = let b = turn_coin _ _ c.requires.checked _ _ c.loop-k.invariant.1 (omega (arith, c.loop-k-test.true)) c.listed_at-entry.ensures _ c.from.ensures _ c.coin_of-coin.ensures in search rules

pub loop-k-preserved : goal.loop-k-preserved
loop-k-preserved c = (
  simp (length-set) c.loop-k.invariant.0,
  named_next _ _ _ c.loop-k.invariant.1
      (omega (arith, c.loop-k-test.true)),
  left_on (right _ _) (next _) _ _ _ _ _ _ _ c.loop-k.invariant.2
      (omega (arith, c.loop-k-test.true)) c.listed_at-entry.ensures (turn_right _ _ _ _ _ _ _ c.from.ensures
      c.coin_of-coin.ensures c.fits.ensures) c.if-not-fits.false-raw
      (turn_keeps _ _ _ _ _ _ _ (rw c.loop-k.invariant.0 (turn_coin _ _ c.requires.checked _ _ c.loop-k.invariant.1
      (omega (arith, c.loop-k-test.true)) c.listed_at-entry.ensures _ c.from.ensures _ c.coin_of-coin.ensures))
      c.from.ensures c.coin_of-coin.ensures c.fits.ensures c.if-not-fits.false-raw),
)

pub returns : goal.returns
returns c = left_ended (right _ _) (next _) _ _ _ _ c.loop-k.invariant.2 (omega (arith, c.loop-k-test.false))
