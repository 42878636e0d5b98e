-- Text on a line of the page: decimal digits, right-aligned columns, blanks to the end. A character is its number in ASCII.
-- Assumes nothing.
use Rattle.std.specs.Prelude.{ℕ, zero, suc, ◌+◌, ◌-◌, ◌/◌, ◌%◌, true, false, List, [], ◌∷◌, ◌++◌, ltb, length, get_or, replicate}
use Rattle.laws.specs.Gather.{gather}

abbrev pub blank : ℕ
blank = 32

abbrev pub line_feed : ℕ
line_feed = 10

unfoldable pub blanks : ℕ → List ℕ
blanks n = replicate n blank

-- the character of a number below ten
unfoldable pub digit : ℕ → ℕ
digit d = 48 + d

-- x in decimal digits, the k lowest of them at most
unfoldable pub digits_in : ℕ → ℕ → List ℕ
digits_in zero x = []
digits_in (suc k) x =
    elim (ltb x 10)
    [ true ↦ digit x ∷ [] | false ↦ digits_in k (x / 10) ++ (digit (x % 10) ∷ []) ]

-- x in decimal digits, all of them
unfoldable pub digits : ℕ → List ℕ
digits x = digits_in (suc x) x

-- "right-aligned": the text in its width, blanks before it
unfoldable pub column : ℕ → List ℕ → List ℕ
column width text = blanks (width - length text) ++ text

-- "number .. in 3, status in 4, payee in 9 .., block in 8, lock height in 16, deadline in 16"
abbrev pub widths : List ℕ
widths = 3 ∷ 4 ∷ 9 ∷ 8 ∷ 16 ∷ 16 ∷ []

-- the texts in their columns, side by side
unfoldable pub columns : List (List ℕ) → List ℕ
columns texts = gather 6 (λ k. column (get_or widths k 0) (get_or texts k []))

-- "lines of exactly 72 characters and a line feed"
abbrev pub line_width : ℕ
line_width = 72

-- "then blanks to 72"
unfoldable pub ended : List ℕ → List ℕ
ended shown = shown ++ (blanks (line_width - length shown) ++ (line_feed ∷ []))

-- a line: its columns, then blanks, then a line feed
unfoldable pub line : List (List ℕ) → List ℕ
line texts = ended (columns texts)
