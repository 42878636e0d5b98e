-- A column of a line, as the code writes it.
-- Assumes nothing.
use Rattle.std.specs.Prelude.{ℕ, List, [], ◌∷◌, get_or}
use Rattle.printed.specs.declared.Line.{Line}
use Rattle.call_page.specs.Line.{column, widths}
use Rattle.call_page.specs.Page.{line_texts}

-- a transaction's values in the order of their columns
abbrev pub values : ℕ → Line → List ℕ
values t row = t ∷ row.status ∷ row.payee ∷ row.block ∷ row.lock ∷ row.deadline ∷ []

-- column k of line i, where `shown t` are the values of t
unfoldable pub cell : (ℕ → List ℕ) → ℕ → ℕ → List ℕ
cell shown i k = column (get_or widths k 0) (get_or (line_texts shown i) k [])
