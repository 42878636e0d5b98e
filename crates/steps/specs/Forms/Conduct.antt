-- Conduct over the guards of a position.
-- Assumes nothing.
use Rattle.std.specs.Prelude.{ℕ, Bool, not, ◌&&◌, ◌||◌, List}
use Rattle.slots.specs.Destination.{is_contract}
use Rattle.steps.specs.declared.Guards.{Guards}
use Rattle.steps.specs.Conduct.{alice_shares_rule, may_share_rule, alice_gives_rule, bob_gives_rule, may_give_rule, secret_safe_rule, safe_to_send_rule, send_allowed_rule}

-- the lines on sharing
unfoldable pub share_allowed_in : Guards → ℕ → ℕ → Bool
unfolding may_share_rule
share_allowed_in o party t = o.free || may_share_rule o.phase (alice_shares_rule o.phase o.refund o.late t) party t

-- the lines on giving
unfoldable pub give_allowed_in : Guards → ℕ → ℕ → Bool
unfolding may_give_rule
give_allowed_in o party i =
    o.free || may_give_rule (alice_gives_rule o.phase o.knows o.late i) (bob_gives_rule o.phase o.bob_has o.late i) party

-- the lines on sending, but for paying first
unfoldable pub send_allowed_in : List ℕ → Guards → ℕ → ℕ → Bool
unfolding send_allowed_rule
send_allowed_in s o party t =
    send_allowed_rule o.free o.careful o.phase (safe_to_send_rule o.unshared (secret_safe_rule s o.knows t) party t) party t

-- the lines on sending, where `paying` says that the party sends no contract transaction
unfoldable pub send_held_in : List ℕ → Guards → Bool → ℕ → ℕ → Bool
send_held_in s o paying party t = send_allowed_in s o party t && not (paying && is_contract s t)
