-- The report: what is read from its bytes is what the position says.
-- Assumes nothing.
use Rattle.laws.proofs.Prelude.{ℕ, ◌+◌, ◌*◌, ◌/◌, ◌%◌, ◌≤◌, ◌<◌, ◌≡◌, sym, ap, ◌∙◌, Bool, true, false, List, lit<, lit≤, get_or, eq-eqb, ne_eqb, arith, add-zero, pick}
use Rattle.laws.proofs.Prelude.{gather, gather_at, bytes_of, number_at, bit}
use Rattle.position.proofs.Rules.{count, invalidated, in_pool, in_block, is_confirmed, row_width, reported_status, reported_payee, reported_line, status, payee, row}
use Rattle.position.specs.declared.Position.{Position}
use Rattle.position.proofs.Rules.{full_row, report_bytes, printed_line}
use Rattle.laws.specs.Little.{number_gather}
use Rattle.readings.specs.Reported.{reported_confirmed, row_line}
use Rattle.position.proofs.ReportLengths.{row_length}

low : (b : Bool) (n : ℕ) → pick b n 0 ≤ n
low true n = omega arith
low false n = omega arith

-- "4 confirmed" among "1 pool, 2 block, 4 confirmed, 8 dead, summed"
confirmed_bit : (a b c d : Bool) → bit (pick a 1 0 + pick b 2 0 + pick c 4 0 + pick d 8 0) 2 ≡ c
unfolding bit
confirmed_bit a b true true = eq-eqb ((pick a 1 0 + pick b 2 0 + 4 + 8) / 4 % 2) 1 (omega (arith, low a 1, low b 2))
confirmed_bit a b true false = eq-eqb ((pick a 1 0 + pick b 2 0 + 4 + 0) / 4 % 2) 1 (omega (arith, low a 1, low b 2))
confirmed_bit a b false true = ne_eqb ((pick a 1 0 + pick b 2 0 + 0 + 8) / 4 % 2) 1 (λ e. omega (arith, low a 1, low b 2))
confirmed_bit a b false false = ne_eqb ((pick a 1 0 + pick b 2 0 + 0 + 0) / 4 % 2) 1 (λ e. omega (arith, low a 1, low b 2))

module _ (s u : List ℕ) (p : Position) (counts : List ℕ) (t : ℕ) (l : t < count s) where
  read_at : (j : ℕ) → j < row_width → get_or (report_bytes s u p counts) (row_width * t + j) 0 ≡ get_or (full_row s u p counts t) j 0
  unfolding report_bytes
  read_at j h = gather_at (full_row s u p counts) row_width (row_length s u p counts) (count s) t j 0 l h

  read_number_lem : (j : ℕ) → j ≤ 14 → number_at 4 (report_bytes s u p counts) (row_width * t + j) ≡ number_at 4 (full_row s u p counts t) j
  unfolding report_bytes
  read_number_lem j h = number_gather (full_row s u p counts) row_width (row_length s u p counts) 4 (count s) t j l (omega arith)

  -- the line of t is that of its row, whatever the counts
  pub line_read : reported_line (report_bytes s u p counts) t ≡ printed_line s u p t
  unfolding reported_line reported_status reported_payee printed_line row_line full_row row bytes_of number_at
  line_read =
      let st = ap (λ i. get_or (report_bytes s u p counts) i 0) (sym (add-zero (row_width * t))) ∙ read_at 0 (lit< tt) in
      rw (st, read_at 1 (lit< tt), read_number_lem 2 (lit≤ tt), read_number_lem 6 (lit≤ tt), read_number_lem 10 (lit≤ tt))

module _ (s u : List ℕ) (p : Position) (counts : List ℕ) where
  status_read : (t : ℕ) → t < count s → reported_status (report_bytes s u p counts) t ≡ status s p t
  unfolding reported_status report_bytes full_row row
  status_read t l =
      ap (λ i. get_or (gather (count s) (full_row s u p counts)) i 0) (sym (add-zero (row_width * t)))
      ∙ gather_at (full_row s u p counts) row_width (row_length s u p counts) (count s) t 0 0 l (lit< tt)

  pub payee_read : (t : ℕ) → t < count s → reported_payee (report_bytes s u p counts) t ≡ payee p t
  unfolding reported_payee report_bytes full_row row
  payee_read t l = gather_at (full_row s u p counts) row_width (row_length s u p counts) (count s) t 1 0 l (lit< tt)

  pub confirmed_read : (t : ℕ) → t < count s → reported_confirmed (report_bytes s u p counts) t ≡ is_confirmed p t
  unfolding reported_confirmed status
  confirmed_read t l =
      rw (status_read t l) (confirmed_bit (in_pool p t) (in_block p t) (is_confirmed p t) (invalidated s (is_confirmed p) t))
