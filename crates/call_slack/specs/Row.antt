-- For how many blocks each party can take no step: a row of 8 bytes for each, "in the order Alice, Bob, Carol".
-- Assumes nothing.
use Rattle.std.specs.Prelude.{ℕ, ◌+◌, Bool, ◌&&◌, ◌||◌, List, [], ◌∷◌, ◌++◌, eqb}
use Rattle.laws.specs.Booleans.{pick}
use Rattle.laws.specs.Gather.{gather}
use Rattle.laws.specs.Little.{bytes_of}
use Rattle.sheet.specs.Refusal.{accepted}
use Rattle.sheet.specs.Field.{parties, party_at}
use Rattle.sheet.specs.LockHeight.{never}
use Rattle.position.specs.declared.Position.{Position}
use Rattle.position.specs.Play.{step}
use Rattle.slack.specs.Beaten.{destination_of}
use Rattle.soonest.specs.Soonest.{greater}
use Rattle.slack.specs.Kept.{kept}
use Rattle.slack.specs.Counted.{none, counted_on}
use Rattle.slack.specs.Settled.{settled}
use Rattle.slack.specs.Slack.{slack}

-- "the transaction that the party counts on": over the outage that its slack allows, as the position stands or, where it is not kept so, in the
-- settled position; "255 .. if none"
unfoldable pub counted_at : List ℕ → List ℕ → Position → ℕ → ℕ → ℕ
counted_at s u p x blocks =
    pick (eqb blocks never)
    none
    (pick (kept s u p x blocks)
    (counted_on s u p x (p.mined + blocks))
    (counted_on s u (settled s u p x) x (p.mined + greater blocks 1)))

-- "and its destination (255 and 255 if none)"
unfoldable pub destination_for : List ℕ → ℕ → ℕ → ℕ
destination_for s x t = pick (eqb t none) none (destination_of s x t)

-- a step of this kind, by which X sends t, is open
unfoldable pub is_open : List ℕ → List ℕ → Position → ℕ → ℕ → ℕ → Bool
is_open s u p x t kind = eqb (step s u p (record { kind = kind; party = x; transaction = t; destination = destination_of s x t })).refusal accepted

-- "1 where it is to be sent before the next block (slack 0 and the send or hand-in of it is open now), else 0"
unfoldable pub is_due : List ℕ → List ℕ → Position → ℕ → ℕ → ℕ → Bool
is_due s u p x blocks t = eqb blocks 0 && (is_open s u p x t 3 || is_open s u p x t 4)

-- "the slack in blocks, 4 bytes ..; the transaction that the party counts on and its destination ..; 1 where it is to be sent before the next block
-- .., else 0; one byte 0"
unfoldable pub row_of : List ℕ → List ℕ → Position → ℕ → ℕ → ℕ → List ℕ
row_of s u p x blocks t = bytes_of 4 blocks ++ (t ∷ destination_for s x t ∷ pick (is_due s u p x blocks t) 1 0 ∷ 0 ∷ [])

unfoldable pub slack_row : List ℕ → List ℕ → Position → ℕ → List ℕ
slack_row s u p x =
    let blocks = slack s u p x in
    row_of s u p x blocks (counted_at s u p x blocks)

-- "For each party of the sheet, in the order Alice, Bob, Carol, 8 bytes"
unfoldable pub slack_bytes : List ℕ → List ℕ → Position → List ℕ
slack_bytes s u p = gather (parties s) (λ k. slack_row s u p (party_at k))
