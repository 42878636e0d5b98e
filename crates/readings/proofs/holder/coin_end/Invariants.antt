-- The last of those below t.
use Rattle.readings.specs.Holder.{ends_coin, payee_below}
use Rattle.laws.proofs.Prelude.{bit, ◌≡◌}
use Rattle.readings.proofs.holder.coin_end.Given as goal

abbrev pub invariant-loop-t : goal.invariant-loop-t
invariant-loop-t l = l.found ≡ payee_below l.t (ends_coin l.sheet.bytes (bit l.confirmed) l.coin) (λ k. k)
