-- Where a column stands in its line, and a line in its page.
-- Assumes nothing.
use Rattle.laws.proofs.Prelude.{ℕ, zero, suc, ◌-◌, ◌*◌, ◌≤◌, ◌<◌, ◌≡◌, refl, sym, ap, ◌∙◌, List, [], ◌∷◌, ◌++◌, append_assoc, append-nil, length, get_or, take, drop, arith}
use Rattle.laws.proofs.Prelude.{not-suc-le-zero, le_of_suc-le-suc, eq-or-lt_of_le, drop_at, either, gather, sum_below, sum_same, length_gathered}
use lib.Seq.{take_at}
use Rattle.call_page.specs.Line.{blanks, line_feed, line_width, column, widths, columns, ended, line}
use Rattle.call_page.specs.Claim.{trimmed, text_at}
use Rattle.call_page.proofs.Columns.{length_column}
use Rattle.call_page.proofs.Lines.{length_below}

-- list i of those end to end, each of its own length, whatever stands behind them
pub part_of : {A : Type 0} (f : ℕ → List A) (n i : ℕ) (rest : List A) → i < n
    → take (length (f i)) (drop (sum_below i (λ k. length (f k))) (gather n f ++ rest)) ≡ f i
unfolding gather
part_of f zero i rest h = absurd (not-suc-le-zero h)
part_of f (suc n) i rest h =
    rw append_assoc
    (either (eq-or-lt_of_le (le_of_suc-le-suc h))
    (λ e. rw (e, drop_at (gather n f) (f n ++ rest) (sum_below n (λ k. length (f k))) (length_gathered n f)) (take_at (f n) rest (length (f n)) refl))
    (λ m. part_of f n i (f n ++ rest) m))

-- the same of lists of one length
pub part_at : (f : ℕ → List ℕ) (w n i : ℕ) → ((k : ℕ) → k < n → length (f k) ≡ w) → i < n → take w (drop (w * i) (gather n f)) ≡ f i
part_at f w n i h l =
    let front = sym (length_gathered i f) ∙ length_below f w i (λ k m. h k (omega arith)) in
    rw (append-nil, h i l, front) at (part_of f n i [] l)

-- a text that fits its column, in its line
pub text_of : (shown : List (List ℕ)) → ((k : ℕ) → k < 6 → length (get_or shown k []) ≤ get_or widths k 0) → (k : ℕ) → k < 6
    → text_at (line shown) (sum_below k (λ j. get_or widths j 0)) (get_or widths k 0) ≡ trimmed (column (get_or widths k 0) (get_or shown k []))
unfolding text_at line ended columns
text_of shown fits k h =
    let cells : ℕ → List ℕ = λ j. column (get_or widths j 0) (get_or shown j []) in
    let exact : (j : ℕ) → j < 6 → length (cells j) ≡ get_or widths j 0 = λ j l. omega (arith, fits j l, length_column (get_or widths j 0) (get_or shown j [])) in
    ap trimmed (rw (sum_same k (λ j. length (cells j)) (λ j. get_or widths j 0) (λ j l. exact j (omega arith)), exact k h) at (part_of cells 6 k (blanks (line_width - length (gather 6 cells)) ++ (line_feed ∷ [])) h))
