-- What stands on a line, for every position.
-- Assumes nothing.
use Rattle.laws.proofs.Prelude.{ℕ, zero, suc, ◌+◌, ◌^◌, ◌≤◌, ◌<◌, ◌≡◌, refl, ap, ◌∙◌, Bool, true, false, List, [], ◌∷◌, get_or, arith, pick, gather_same, bytes_of, number_at}
use Rattle.position.proofs.Rules.{count, invalidated, reported_line, in_pool, in_block, is_confirmed, block_of, lock_height_in, deadline_in, status, payee, row}
use Rattle.position.specs.declared.Position.{Position}
use Rattle.position.proofs.Rules.{report_bytes, printed_line}
use native.Mathlib.Nat.{mod-le}
use Rattle.laws.specs.Little.{number_bytes}
use Rattle.laws.proofs.Little.{bytes_again}
use Rattle.readings.specs.Reported.{row_line}
use Rattle.step_laws.proofs.Reports.{line_read}
use Rattle.call_page.specs.Line.{line}
use Rattle.call_page.specs.Page.{line_texts, page_of}
use Rattle.call_page.proofs.Lines.{Readable}

-- the number in the four lowest bytes of x
abbrev pub low : ℕ → ℕ
low x = number_at 4 (bytes_of 4 x) 0

-- it has the same bytes
pub low_bytes : (x : ℕ) → bytes_of 4 (low x) ≡ bytes_of 4 x
low_bytes x = ap (bytes_of 4) (number_bytes 4 x) ∙ bytes_again 4 x

-- it is x at most
pub low_most : (x : ℕ) → low x ≤ x
low_most x = omega (arith, number_bytes 4 x, mod-le x (256 ^ 4))

pub low_below : (x : ℕ) → low x < 10 ^ 10
low_below x = omega (arith, number_bytes 4 x)

at_most : (b : Bool) (n : ℕ) → pick b n 0 ≤ n
at_most true n = omega arith
at_most false n = omega arith

status_below : (a b c d : Bool) → pick a 1 0 + pick b 2 0 + pick c 4 0 + pick d 8 0 < 16
status_below a b c d = omega (arith, at_most a 1, at_most b 2, at_most c 4, at_most d 8)

pub status_few : (s : List ℕ) (p : Position) (t : ℕ) → status s p t < 16
unfolding status
status_few s p t = status_below (in_pool p t) (in_block p t) (is_confirmed p t) (invalidated s (is_confirmed p) t)

-- the line of t
pub read_line : (s u : List ℕ) (p : Position) (t : ℕ)
    → printed_line s u p t ≡ t ∷ status s p t ∷ payee p t ∷ low (block_of p t) ∷ low (lock_height_in s u p t) ∷ low (deadline_in s u p t) ∷ []
unfolding printed_line row_line row bytes_of number_at
read_line s u p t = refl

-- its numbers have at most ten digits
pub lines_readable : (s u : List ℕ) (p : Position) → count s ≤ 32 → Readable (count s) (printed_line s u p)
lines_readable s u p few =
    record {
      few = few;
      first = λ t l. ap (λ r. get_or r 0 0) (read_line s u p t);
      status = λ t l. rw (ap (λ r. get_or r 1 0) (read_line s u p t)) (omega (arith, status_few s p t));
      number = λ t l.
          let e = read_line s u p t in
          (rw (ap (λ r. get_or r 3 0) e) (low_below _), (rw (ap (λ r. get_or r 4 0) e) (low_below _), rw (ap (λ r. get_or r 5 0) e) (low_below _)));
    }

-- the lines of a report are these, whatever its counts, and so is the page
line_same : (s u : List ℕ) (p : Position) (counts : List ℕ) (i : ℕ) → i < suc (count s)
    → line (line_texts (reported_line (report_bytes s u p counts)) i) ≡ line (line_texts (printed_line s u p) i)
unfolding line_texts
line_same s u p counts zero h = refl
line_same s u p counts (suc t) h = rw (line_read s u p counts t (omega arith))

pub page_same : (s u : List ℕ) (p : Position) (counts : List ℕ) → page_of (count s) (reported_line (report_bytes s u p counts)) ≡ page_of (count s) (printed_line s u p)
unfolding page_of
page_same s u p counts =
    gather_same (suc (count s)) (λ i. line (line_texts (reported_line (report_bytes s u p counts)) i)) (λ i. line (line_texts (printed_line s u p) i)) (line_same s u p counts)
