-- The lengths of the rows.
-- Assumes nothing.
use Rattle.laws.proofs.Prelude.{ℕ, ◌*◌, ◌≤◌, ◌<◌, ◌≡◌, List, [], ◌∷◌, ◌++◌, length, ne_eqb, length-append, arith}
use Rattle.laws.specs.Booleans.{pick}
use Rattle.laws.specs.Gather.{gather, length_gather}
use Rattle.laws.specs.Little.{bytes_of, length_bytes}
use Rattle.sheet.specs.Field.{parties, party_at}
use Rattle.sheet.specs.Checked.{Checked}
use Rattle.position.specs.declared.Position.{Position}
use Rattle.slack.specs.Beaten.{destination_of}
use Rattle.slack.specs.Counted.{none}
use Rattle.call_slack.specs.Row.{destination_for, is_due, row_of, slack_row, slack_bytes}
use Rattle.call_slack.proofs.NoneDue.{none_due}

module _ (s u : List ℕ) (p : Position) where
  -- the row in place k
  abbrev pub row_at : ℕ → List ℕ
  row_at k = slack_row s u p (party_at k)

  pub row_length : (k : ℕ) → length (row_at k) ≡ 8
  unfolding slack_row row_of
  row_length k = simp (length-append, length_bytes)

  pub rows_length : length (slack_bytes s u p) ≡ 8 * parties s
  unfolding slack_bytes
  rows_length = length_gather row_at 8 row_length (parties s)

  -- they have room where eight bytes for each have
  pub rows_room : (m : ℕ) → 8 * parties s ≤ m → length (gather (parties s) row_at) ≤ m
  rows_room m h = rw (length_gather row_at 8 row_length (parties s)) h

-- the row where something is counted on
pub row_counted : (s u : List ℕ) (p : Position) (x blocks t to due : ℕ) → t < none → to ≡ destination_of s x t → due ≡ pick (is_due s u p x blocks t) 1 0
    → row_of s u p x blocks t ≡ bytes_of 4 blocks ++ (t ∷ to ∷ due ∷ 0 ∷ [])
unfolding row_of destination_for
row_counted s u p x blocks t to due l e d = rw (ne_eqb t none (λ y. omega (arith, y, l)), e, d)

-- the row where nothing is counted on
pub row_none : (s u : List ℕ) (ok : Checked s) (p : Position) (x blocks t : ℕ) → t ≡ none → row_of s u p x blocks t ≡ bytes_of 4 blocks ++ (none ∷ none ∷ 0 ∷ 0 ∷ [])
unfolding row_of destination_for
row_none s u ok p x blocks t e = rw (e, none_due s u ok x p blocks)
