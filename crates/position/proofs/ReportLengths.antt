-- The lengths of a report and of its rows.
-- Assumes nothing.
use Rattle.laws.proofs.Prelude.{ℕ, ◌*◌, ◌≤◌, ◌≡◌, List, length, length-append, gather, length_gather, length_bytes}
use Rattle.sheet.specs.Field.{count}
use Rattle.readings.specs.Reported.{row_width}
use Rattle.position.specs.declared.Position.{Position}
use Rattle.position.specs.Report.{row, full_row, report_bytes}

module _ (s u : List ℕ) (p : Position) (counts : List ℕ) where
  pub row_length : (t : ℕ) → length (full_row s u p counts t) ≡ row_width
  unfolding full_row row
  row_length t = simp (length-append, length_bytes)

  pub report_length : length (report_bytes s u p counts) ≡ row_width * count s
  unfolding report_bytes
  report_length = length_gather (full_row s u p counts) row_width row_length (count s)

  -- n rows have room where the report has
  pub rows_room : (n m : ℕ) → n ≡ count s → row_width * count s ≤ m → length (gather n (full_row s u p counts)) ≤ m
  rows_room n m e h = rw (length_gather (full_row s u p counts) row_width row_length n, e) h
