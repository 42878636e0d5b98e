-- The first shares of loose and careful conduct.
-- Assumes nothing.
use Rattle.std.specs.Prelude.{ℕ, Bool, List, [], ◌∷◌, eqb}
use Rattle.laws.specs.Booleans.{pick}
use Rattle.laws.specs.Gather.{every}
use Rattle.slots.specs.Destination.{alice, contract}
use Rattle.position.specs.declared.Position.{Position}
use Rattle.position.specs.Position.{marked}
use Rattle.steps.specs.Names.{refund1, revoke, refund2, timeout}

-- "Alice shares revoke and timeout, Bob refund_1, revoke, refund_2 and timeout"
unfoldable pub first_shares : ℕ → List ℕ
first_shares party = pick (eqb party alice) (revoke ∷ timeout ∷ []) (refund1 ∷ revoke ∷ refund2 ∷ timeout ∷ [])

-- a party's first shares are made: its marks are on all of them, "destination 2"
unfoldable pub first_shares_made : Position → ℕ → Bool
first_shares_made p party = every (λ t. marked p party t contract) (first_shares party)
