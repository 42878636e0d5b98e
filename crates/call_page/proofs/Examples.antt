-- What the words of the page and of its claims mean, by computed examples.
-- Assumes nothing.
use Rattle.laws.proofs.Prelude.{ℕ, ◌≡◌, refl, ap, List, [], ◌∷◌, lit<, length, get_or, replicate, arith, all_below, gather, bytes_of}
use Rattle.laws.specs.Same.{same}
use Rattle.call_page.specs.Line.{blanks, digit, digits_in, digits, column, columns, ended, line}
use Rattle.position.proofs.Opened.{opened}
use Rattle.call_page.specs.Page.{payee_text, height_text, header, texts, line_texts, bob_text, never_text, page_of, page_answer}
use Rattle.call_page.specs.Claim.{line_at, trimmed, text_at, number_from, payee_of, height_of, read_number, read_row, PageWritten, PageAnswered}

-- 0, 10 and 10,000 in digits; a column of 3
digits_shown : (digits 0 ≡ 48 ∷ []) × (digits 10 ≡ 49 ∷ 48 ∷ []) × (digits 10000 ≡ 49 ∷ 48 ∷ 48 ∷ 48 ∷ 48 ∷ [])
unfolding digits digits_in digit
digits_shown = (refl, refl, refl)

aligned_right : (column 3 (55 ∷ []) ≡ 32 ∷ 32 ∷ 55 ∷ []) × (column 3 (49 ∷ 50 ∷ 51 ∷ 52 ∷ []) ≡ 49 ∷ 50 ∷ 51 ∷ 52 ∷ [])
unfolding column blanks
aligned_right = (refl, refl)

-- the largest height that is not never, and never
heights_shown : (length (height_text 2147483646) ≡ 10) × (height_text 2147483647 ≡ never_text)
unfolding height_text digits digits_in digit
heights_shown = (refl, refl)

header_length : length (line header) ≡ 73
unfolding line ended columns column blanks gather
header_length = refl

-- read back: a number behind blanks, a name, never, and what is none of these
texts_read : (trimmed (32 ∷ 32 ∷ 55 ∷ 32 ∷ []) ≡ 55 ∷ 32 ∷ []) × (number_from 0 (49 ∷ 50 ∷ []) ≡ 12) × (payee_of bob_text ≡ 1) × (payee_of (66 ∷ 111 ∷ []) ≡ 255)
unfolding trimmed number_from payee_of same all_below
texts_read = (refl, refl, refl, refl)

never_read : (height_of never_text ≡ 2147483647) × (height_of (49 ∷ 48 ∷ []) ≡ 10)
unfolding height_of number_from same all_below
never_read = (refl, refl)

-- a line with a block of nine digits is as long as the others, and its block is not read back: the widths suffice below 10 ^ 8
wide_block : ℕ → List ℕ
wide_block block = line (texts (1 ∷ 4 ∷ 1 ∷ block ∷ 1 ∷ 2147483647 ∷ []))

too_wide : (length (wide_block 123456789) ≡ 73) × (number_from 0 (text_at (wide_block 123456789) 16 8) ≡ 12345678) × (number_from 0 (text_at (wide_block 99999999) 16 8) ≡ 99999999)
unfolding wide_block line ended columns column blanks gather texts digits digits_in digit payee_text height_text text_at trimmed number_from
too_wide = (refl, refl, refl)

-- P10's second line: number 1, and its row
p10_line : (read_number (wide_block 2) ≡ 1) × (read_row (wide_block 2) ≡ 4 ∷ 1 ∷ 2 ∷ 0 ∷ 0 ∷ 0 ∷ 1 ∷ 0 ∷ 0 ∷ 0 ∷ 255 ∷ 255 ∷ 255 ∷ 127 ∷ [])
unfolding wide_block line ended columns column blanks gather texts digits digits_in digit payee_text height_text text_at trimmed number_from read_number read_row payee_of height_of same all_below bytes_of
p10_line = (refl, refl)

-- ---- the call's answers on P10's sheet and journal: a page of three lines, 219 bytes
abbrev sheet10 : List ℕ
sheet10 = 2 ∷ 2 ∷ 0 ∷ 1 ∷ 2 ∷ 255 ∷ 0 ∷ 1 ∷ 0 ∷ 0 ∷ 2 ∷ 2 ∷ 0 ∷ 0 ∷ 0 ∷ 1 ∷ 1 ∷ []

abbrev setup10 : List ℕ
setup10 = 1 ∷ 0 ∷ 0 ∷ 0 ∷ []

abbrev journal10 : List ℕ
journal10 = 3 ∷ 0 ∷ 0 ∷ 2 ∷ 5 ∷ 2 ∷ 0 ∷ 2 ∷ 6 ∷ 2 ∷ 255 ∷ 2 ∷ 3 ∷ 1 ∷ 1 ∷ 1 ∷ 5 ∷ 2 ∷ 1 ∷ 2 ∷ 6 ∷ 2 ∷ 255 ∷ 2 ∷ []

-- its number, and of its buffer afterwards the length and the bytes at 218 and 219
unfoldable answers : ℕ → List ℕ → List ℕ
answers room j =
    let w = page_answer sheet10 setup10 j (replicate room 7) in
    w.refusal ∷ length w.buffer ∷ get_or w.buffer 218 0 ∷ get_or w.buffer 219 0 ∷ []

-- a byte to spare, none, one short, and a journal that is refused
calls_answer : (answers 220 journal10 ≡ 0 ∷ 220 ∷ 10 ∷ 7 ∷ []) × (answers 219 journal10 ≡ 0 ∷ 219 ∷ 10 ∷ 0 ∷ [])
    × (answers 218 journal10 ≡ 25 ∷ 218 ∷ 0 ∷ 0 ∷ []) × (answers 220 (1 ∷ []) ≡ 24 ∷ 220 ∷ 7 ∷ 7 ∷ [])
unfolding opened answers line ended columns column blanks gather texts line_texts page_of page_answer digits digits_in digit payee_text height_text
calls_answer = (refl, refl, refl, refl)

-- what the call leaves is not: that of a refused journal; no page; no lines; another number or row; another byte behind; another length
left_unrefused : PageWritten sheet10 setup10 (1 ∷ []) [] [] → ⊥
unfolding opened
left_unrefused h = let z : ◌≡◌ {A = ℕ} 24 0 = h.unrefused in omega arith

left_page : PageWritten sheet10 setup10 journal10 [] [] → ⊥
unfolding opened line ended columns column blanks gather texts line_texts page_of digits digits_in digit payee_text height_text
left_page h = let z : ◌≡◌ {A = ℕ} 0 219 = ap length h.bytes in omega arith

left_lines : PageWritten sheet10 setup10 journal10 [] [] → ⊥
unfolding line_at
left_lines h = let z : ◌≡◌ {A = ℕ} 0 73 = h.lines_long 0 (omega arith) in omega arith

left_number : PageWritten sheet10 setup10 journal10 [] [] → ⊥
unfolding opened line_at text_at trimmed number_from read_number
left_number h = let z : ◌≡◌ {A = ℕ} 0 1 = (h.reads_back 1 (lit< tt)).0 in omega arith

left_row : PageWritten sheet10 setup10 journal10 [] [] → ⊥
unfolding opened line_at text_at trimmed number_from read_row
left_row h = let z : ◌≡◌ {A = ℕ} 0 4 = ap (λ l. get_or l 0 0) (h.reads_back 0 (lit< tt)).1 in omega arith

left_beyond : PageWritten sheet10 setup10 journal10 (replicate 220 7) (replicate 220 8) → ⊥
unfolding opened
left_beyond h = let z : ◌≡◌ {A = ℕ} 8 7 = ap (λ l. get_or l 0 0) h.beyond in omega arith

left_long : PageWritten sheet10 setup10 journal10 (7 ∷ []) [] → ⊥
left_long h = let z : ◌≡◌ {A = ℕ} 0 1 = h.long in omega arith

-- the answer is not: 0 without room, 25 with room, 0 with nothing written; where refused, a byte written
answers_short : PageAnswered sheet10 setup10 journal10 (replicate 218 7) 0 (replicate 218 7) → ⊥
unfolding opened
answers_short h = let z : ◌≡◌ {A = ℕ} 0 25 = h.number in omega arith

answers_room : PageAnswered sheet10 setup10 journal10 (replicate 219 7) 25 (replicate 219 7) → ⊥
unfolding opened
answers_room h = let z : ◌≡◌ {A = ℕ} 25 0 = h.number in omega arith

answers_written : PageAnswered sheet10 setup10 journal10 (7 ∷ []) 0 [] → ⊥
answers_written h = left_long (h.written refl)

answers_kept : PageAnswered sheet10 setup10 (1 ∷ []) (7 ∷ []) 24 (8 ∷ []) → ⊥
answers_kept h = let z : ◌≡◌ {A = ℕ} 8 7 = ap (λ l. get_or l 0 0) (h.refused (λ e. omega (arith, e))) in omega arith
