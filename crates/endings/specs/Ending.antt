-- The tests of an ending, 33 and 34: a mask of paying transactions, and a destination for each.
-- Assumes nothing.
use Rattle.std.specs.Prelude.{ℕ, ◌*◌, ◌^◌, Bool, not, ◌&&◌, ◌||◌, List, [], ◌∷◌, eqb, ltb, leb, length}
use Rattle.laws.specs.Below.{all_below}
use Rattle.laws.specs.Little.{number_at}
use Rattle.laws.specs.Mask.{bit}
use Rattle.laws.specs.Sum.{bits_below}
use Rattle.sheet.specs.Field.{count}
use Rattle.sheet.specs.Setup.{per_day}
use Rattle.slots.specs.Destination.{is_contract}
use Rattle.ledger.specs.Coin.{coin_of}
use Rattle.steps.specs.Decode.{shares_to}
use Rattle.position.specs.Tests.{block_limit}
use Rattle.sheet.specs.Refusal.{ending_field, ending_impossible}
use Rattle.endings.specs.Earliest.{earliest}
use Rattle.endings.specs.Plan.{planned}

-- "a list of 4-byte destinations in rising order of number, one for each bit set"
unfoldable pub destination_of : ℕ → List ℕ → ℕ → ℕ
destination_of mask dests t = number_at 4 dests (4 * bits_below t mask)

-- "a contract transaction, or a destination isn't a payee"
unfoldable pub paying_named : List ℕ → ℕ → List ℕ → ℕ → Bool
paying_named s mask dests t = not (bit mask t) || (not (is_contract s t) && shares_to s t (destination_of mask dests t))

-- "33 when the mask names a number beyond the sheet or .., or their list isn't 4 bytes for each bit set"
unfoldable pub ending_right : List ℕ → ℕ → List ℕ → Bool
ending_right s mask dests =
    ltb mask (2 ^ count s)
    && (eqb (length dests) (4 * bits_below (count s) mask)
    && all_below (count s) (paying_named s mask dests))

-- a coin has one payout at most: x and y are not two of one coin
unfoldable pub coins_apart : List ℕ → ℕ → ℕ → ℕ → Bool
coins_apart s mask x y = not (bit mask x && (bit mask y && eqb (coin_of s x) (coin_of s y))) || eqb x y

-- a list has blocks to 10,000: the earliest of t is none beyond
unfoldable pub in_time : List ℕ → ℕ → ℕ → ℕ → Bool
in_time s per_day mask t = not (planned s mask t) || leb (earliest s per_day t) block_limit

-- what 34 comes to: two of one coin, or a block over the limit
unfoldable pub is_possible : List ℕ → ℕ → ℕ → Bool
is_possible s per_day mask =
    all_below (count s) (λ x. all_below (count s) (coins_apart s mask x)) && all_below (count s) (in_time s per_day mask)

unfoldable pub ending_tests : List ℕ → List ℕ → ℕ → List ℕ → List (ℕ × Bool)
ending_tests s u mask dests = (ending_field, ending_right s mask dests) ∷ (ending_impossible, is_possible s (per_day u) mask) ∷ []
