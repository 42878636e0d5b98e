-- Who holds each coin, and payouts, over a test for what is confirmed and a function that gives its payee.
-- Assumes nothing.
use Rattle.std.specs.Prelude.{ℕ, zero, suc, Bool, not, ◌&&◌, List, eqb}
use Rattle.laws.specs.Booleans.{pick}
use Rattle.laws.specs.Below.{any_below}
use Rattle.sheet.specs.Field.{count, parent, opening}
use Rattle.slots.specs.Destination.{is_party}
use Rattle.ledger.specs.Coin.{coin_of, nobody}

-- "confirmed child": t has one
unfoldable pub confirmed_child : List ℕ → (ℕ → Bool) → ℕ → Bool
confirmed_child s confirmed t = any_below (count s) (λ k. eqb (parent s k) t && confirmed k)

-- "confirmed transaction, the coin's opening or below it, that has no confirmed child"
unfoldable pub ends_coin : List ℕ → (ℕ → Bool) → ℕ → ℕ → Bool
ends_coin s confirmed coin t = eqb (coin_of s t) coin && (confirmed t && not (confirmed_child s confirmed t))

-- "the payee of the one" transaction below n that passes; nobody where none does
unfoldable pub payee_below : ℕ → (ℕ → Bool) → (ℕ → ℕ) → ℕ
payee_below zero passes payee = nobody
payee_below (suc n) passes payee = pick (passes n) (payee n) (payee_below n passes payee)

-- "A coin's holder, as the engine reports it": the coin by its opening's number
unfoldable pub holder : List ℕ → (ℕ → Bool) → (ℕ → ℕ) → ℕ → ℕ
holder s confirmed payee coin = payee_below (count s) (ends_coin s confirmed coin) payee

-- "A payout is a coin whose holder is a party.", where `held` gives each coin's holder
unfoldable pub is_payout : List ℕ → (ℕ → ℕ) → ℕ → Bool
is_payout s held coin = opening s coin && is_party s (held coin)

-- the coin is a payout to this party
unfoldable pub is_payout_to : List ℕ → (ℕ → ℕ) → ℕ → ℕ → Bool
is_payout_to s held party coin = is_payout s held coin && eqb (held coin) party
