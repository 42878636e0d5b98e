-- Columns: a text copied behind its blanks, byte by byte.
-- Assumes nothing.
use Rattle.laws.proofs.Prelude.{ℕ, ◌+◌, ◌-◌, ◌≤◌, ◌<◌, ◌≡◌, sym, ap, ◌∙◌, List, ◌++◌, length, get_or, set, length-append, arith, get_or-replicate, over}
use lib.ListN.{length-replicate, get_or-append}
use lib.Seq.{get_or-append-add}
use Rattle.output.proofs.Writing.{Copied, copied_more, copied_all}
use Rattle.call_page.specs.Line.{blank, blanks, column}

pub length_blanks : (n : ℕ) → length (blanks n) ≡ n
unfolding blanks
length_blanks n = length-replicate n blank

-- the blanks before a text, and the text behind them
module _ (text : List ℕ) (before i : ℕ) where
  pub at_blank : i < before → blank ≡ get_or (blanks before ++ text) i 0
  unfolding blanks
  at_blank h =
      sym (get_or-append (blanks before) text 0 i (rw (length_blanks before) h) ∙ get_or-replicate before i blank 0 h)

  pub at_text : before ≤ i → get_or text (i - before) 0 ≡ get_or (blanks before ++ text) i 0
  at_text h =
      let e : i ≡ length (blanks before) + (i - before) = omega (arith, length_blanks before) in
      sym (ap (λ k. get_or (blanks before ++ text) k 0) e ∙ get_or-append-add (blanks before) text (i - before) 0)

-- a text in its column is as long as the longer of the two
pub length_column : (width : ℕ) (text : List ℕ) → length (column width text) ≡ (width - length text) + length text
unfolding column
length_column width text = length-append (blanks (width - length text)) text ∙ ap (λ n. n + length text) (length_blanks (width - length text))

-- a column as the code writes it, where so many blanks stand before the text
module _ (width : ℕ) (text : List ℕ) (before : ℕ) (e : before ≡ width - length text) where
  pub column_end : before + length text ≡ length (column width text)
  column_end = rw e (sym (length_column width text))

  pub column_turn : (l₀ l : List ℕ) (i v : ℕ) → Copied (column width text) l₀ l i → i < before + length text → v ≡ get_or (blanks before ++ text) i 0
      → Copied (column width text) l₀ (set l i v) (i + 1)
  unfolding column
  column_turn l₀ l i v c h w = copied_more (column width text) l₀ l i v c (rw column_end at h) (rw e at w)

  pub column_done : (l₀ l : List ℕ) (i : ℕ) → Copied (column width text) l₀ l i → before + length text ≤ i → l ≡ over (column width text) l₀
  column_done l₀ l i c h = copied_all (column width text) l₀ l i c (rw column_end at h)

-- one column or another that is the same: its room, and what was written
module _ {a b : List ℕ} (e : a ≡ b) where
  pub room_as : {m : ℕ} → length b ≤ m → length a ≤ m
  room_as h = rw e h

  pub written_as : {r : ℕ} {l' : List ℕ} (l : List ℕ) → (r ≡ length a) × (l' ≡ over a l) → (r ≡ length b) × (l' ≡ over b l)
  written_as l h = rw e at h

pub same_column : {v w : ℕ} {x y : List ℕ} → v ≡ w → x ≡ y → column v x ≡ column w y
same_column e h = rw (e, h)
