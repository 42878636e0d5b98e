-- The lines of a page have one length, whatever bytes the report has.
-- Assumes nothing.
use Rattle.laws.proofs.Prelude.{ℕ, zero, suc, ◌+◌, ◌-◌, ◌*◌, ◌^◌, ◌≤◌, ◌<◌, ◌≡◌, refl, sym, ap, ◌∙◌, List, [], ◌∷◌, ◌++◌, eqb, lit≤, length, get_or, length-append, arith}
use Rattle.laws.proofs.Prelude.{split, gather, number_at, sum_below, length_gathered}
use Rattle.position.proofs.Rules.{never, alice, bob, carol, contract, row_width, reported_status, reported_line}
use native.Mathlib.Nat.{mul-suc, mul-zero}
use Rattle.laws.specs.Little.{number_below}
use Rattle.printed.specs.declared.Line.{Line}
use Rattle.call_page.specs.Line.{blanks, digits, column, widths, columns, line_feed, line_width, ended, line}
use Rattle.call_page.specs.Page.{payee_text, height_text, header, texts, line_texts, page_of}
use Rattle.call_page.specs.Forms.Cell.{values, cell}
use Rattle.call_page.proofs.Columns.{length_blanks, length_column}
use Rattle.call_page.proofs.Digits.{digits_few}
use Rattle.call_page.proofs.Names.{is_header, is_row}

-- the columns as the code writes them
module _ (shown : ℕ → List ℕ) (i k : ℕ) where
  pub cell_header : i ≡ 0 → column (get_or widths k 0) (get_or header k []) ≡ cell shown i k
  unfolding cell
  cell_header e = ap (λ l. column (get_or widths k 0) (get_or l k [])) (is_header shown i e)

  pub cell_row : (row : Line) → (i ≡ 0 → ⊥) → values (i - 1) row ≡ shown (i - 1)
      → column (get_or widths k 0) (get_or (texts (values (i - 1) row)) k []) ≡ cell shown i k
  unfolding cell
  cell_row row h e =
      ap (λ l. column (get_or widths k 0) (get_or l k [])) (ap texts e ∙ is_row shown i h)

pub cells : (shown : ℕ → List ℕ) (i : ℕ) → gather 6 (cell shown i) ≡ columns (line_texts shown i)
unfolding cell columns
cells shown i = refl

-- how long the texts can be
pub payee_short : (payee : ℕ) → length (payee_text payee) ≤ 8
unfolding payee_text
payee_short payee =
    split (eqb payee alice)
    (λ e. rw e (lit≤ tt))
    (λ e. split (eqb payee bob) (λ f. rw (e, f) (lit≤ tt)) (λ f. split (eqb payee contract) (λ g. rw (e, f, g) (lit≤ tt)) (λ g. split (eqb payee carol) (λ h. rw (e, f, g, h) (lit≤ tt)) (λ h. rw (e, f, g, h) (lit≤ tt)))))

pub height_short : (height : ℕ) → height < 10 ^ 10 → length (height_text height) ≤ 10
unfolding height_text
height_short height h =
    split (eqb height never) (λ e. rw e (lit≤ tt)) (λ e. rw e (digits_few 9 height h))

column_within : (w m : ℕ) (x : List ℕ) → w ≤ m → length x ≤ m → length (column w x) ≤ m
column_within w m x h l = omega (arith, length_column w x)

-- a number in four bytes
few_digits : (l : List ℕ) → ((n : ℕ) → get_or l n 0 < 256) → (i : ℕ) → number_at 4 l i < 10 ^ 10
few_digits l b i = omega (arith, number_below 4 l i (λ j m. b (i + j)))

ended_length : (shown : List ℕ) → length shown ≤ line_width → length (ended shown) ≡ 73
unfolding ended
ended_length shown h =
    length-append shown _
    ∙ omega (arith, length-append (blanks (line_width - length shown)) (line_feed ∷ []), length_blanks (line_width - length shown))

columns_length : (texts : List (List ℕ)) → length (columns texts) ≡ sum_below 6 (λ k. length (column (get_or widths k 0) (get_or texts k [])))
unfolding columns
columns_length texts = length_gathered 6 (λ k. column (get_or widths k 0) (get_or texts k []))

-- lists of one length below n, end to end
pub length_below : (f : ℕ → List ℕ) (w n : ℕ) → ((k : ℕ) → k < n → length (f k) ≡ w) → length (gather n f) ≡ w * n
unfolding gather
length_below f w zero h = sym (mul-zero w)
length_below f w (suc n) h =
    length-append (gather n f) (f n) ∙ rw (length_below f w n (λ k l. h k (omega arith)), h n (omega arith), mul-suc)

-- the columns of a transaction whose numbers have at most ten digits
row_short : (t st payee block lock deadline : ℕ) → t < 1000 → st < 1000 → block < 10 ^ 10 → lock < 10 ^ 10 → deadline < 10 ^ 10
    → length (columns (texts (t ∷ st ∷ payee ∷ block ∷ lock ∷ deadline ∷ []))) ≤ 58
unfolding sum_below texts
row_short t st payee block lock deadline ht hs hb hl hd =
    omega (
      arith,
      columns_length (texts (t ∷ st ∷ payee ∷ block ∷ lock ∷ deadline ∷ [])),
      column_within 3 3 (digits t) (lit≤ tt) (digits_few 2 t (omega arith)),
      column_within 4 4 (digits st) (lit≤ tt) (omega (arith, digits_few 2 st (omega arith))),
      column_within 9 9 (payee_text payee) (lit≤ tt) (omega (arith, payee_short payee)),
      column_within 8 10 (digits block) (lit≤ tt) (digits_few 9 block hb),
      column_within 16 16 (height_text lock) (lit≤ tt) (omega (arith, height_short lock hl)),
      column_within 16 16 (height_text deadline) (lit≤ tt) (omega (arith, height_short deadline hd)),
    )

header_short : length (columns header) ≤ 58
unfolding columns column blanks gather
header_short = lit≤ tt

-- values whose numbers have at most ten digits, of the first n transactions
pub record Readable (n : ℕ) (shown : ℕ → List ℕ) : Type 0 where
  pub few : n ≤ 32
  pub first : (t : ℕ) → t < n → get_or (shown t) 0 0 ≡ t
  pub status : (t : ℕ) → t < n → get_or (shown t) 1 0 < 1000
  pub number : (t : ℕ) → t < n → (get_or (shown t) 3 0 < 10 ^ 10) × ((get_or (shown t) 4 0 < 10 ^ 10) × (get_or (shown t) 5 0 < 10 ^ 10))

-- those of bytes are so
pub bytes_readable : (n : ℕ) (report : List ℕ) → n ≤ 32 → ((i : ℕ) → get_or report i 0 < 256) → Readable n (reported_line report)
unfolding reported_line reported_status
bytes_readable n report h b =
    record {
      few = h;
      first = λ t l. refl;
      status = λ t l. omega (arith, b (row_width * t));
      number = λ t l. (few_digits report b (row_width * t + 2), (few_digits report b (row_width * t + 6), few_digits report b (row_width * t + 10)));
    }

module _ (n : ℕ) (shown : ℕ → List ℕ) (r : Readable n shown) where
  pub columns_short : (i : ℕ) → i ≤ n → length (columns (line_texts shown i)) ≤ 58
  unfolding line_texts texts
  columns_short zero h = header_short
  columns_short (suc t) h =
      let v = shown t in
      row_short (get_or v 0 0) (get_or v 1 0) (get_or v 2 0) (get_or v 3 0) (get_or v 4 0) (get_or v 5 0)
      (omega (arith, r.few, r.first t (omega arith))) (r.status t (omega arith)) (r.number t (omega arith)).0 (r.number t (omega arith)).1.0 (r.number t (omega arith)).1.1

  pub cells_short : (i : ℕ) → i ≤ n → length (gather 6 (cell shown i)) ≤ 58
  cells_short i h = rw (cells shown i) (columns_short i h)

  -- the columns have room where the line has
  pub cells_room : (i m : ℕ) → i ≤ n → 73 ≤ m → length (gather 6 (cell shown i)) ≤ m
  cells_room i m h l = omega (arith, cells_short i h)

  pub line_length : (i : ℕ) → i ≤ n → length (line (line_texts shown i)) ≡ 73
  unfolding line
  line_length i h = ended_length (columns (line_texts shown i)) (omega (arith, columns_short i h))

  pub page_length : length (page_of n shown) ≡ 73 * suc n
  unfolding page_of
  page_length = length_below (λ i. line (line_texts shown i)) 73 (suc n) (λ i l. line_length i (omega arith))

  -- the lines have room where the page has
  pub page_room : (m : ℕ) → 73 * suc n ≤ m → length (gather (suc n) (λ i. line (line_texts shown i))) ≤ m
  unfolding page_of
  page_room m l = rw page_length l

-- the end of a line, in a column of its own
pub end_column : (at : ℕ) (shown : List ℕ) → at ≡ length shown → column (73 - at) (line_feed ∷ []) ≡ blanks (line_width - length shown) ++ (line_feed ∷ [])
unfolding column
end_column at shown e = ap (λ n. blanks n ++ (line_feed ∷ [])) (omega arith)

-- a line as the code writes it
pub line_parts : (shown : ℕ → List ℕ) (i at : ℕ) → at ≡ length (gather 6 (cell shown i))
    → gather 6 (cell shown i) ++ column (73 - at) (line_feed ∷ []) ≡ line (line_texts shown i)
unfolding line ended
line_parts shown i at e =
    let f = rw (cells shown i) at e in
    rw (cells shown i) (ap (λ r. columns (line_texts shown i) ++ r) (end_column at (columns (line_texts shown i)) f))
