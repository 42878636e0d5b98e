-- The lengths of the rows.
-- Assumes nothing.
use Rattle.laws.proofs.Prelude.{ℕ, ◌*◌, ◌≤◌, ◌≡◌, List, length, length-append, gather, length_gather, length_bytes}
use Rattle.position.proofs.Rules.{count}
use Rattle.position.specs.declared.Position.{Position}
use Rattle.call_outage.specs.Verdict.{outage_row, outage_bytes}

module _ (s u : List ℕ) (p : Position) (blocks : ℕ) where
  pub row_length : (t : ℕ) → length (outage_row s u p blocks t) ≡ 10
  unfolding outage_row
  row_length t = simp (length-append, length_bytes)

  pub rows_length : length (outage_bytes s u p blocks) ≡ 10 * count s
  unfolding outage_bytes
  rows_length = length_gather (outage_row s u p blocks) 10 row_length (count s)

  -- they have room where ten bytes for each have
  pub rows_room : (m : ℕ) → 10 * count s ≤ m → length (gather (count s) (outage_row s u p blocks)) ≤ m
  rows_room m h = rw (length_gather (outage_row s u p blocks) 10 row_length (count s)) h
