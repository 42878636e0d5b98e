-- How long the list of open steps can be.
-- Assumes nothing.
use Rattle.std.specs.Prelude.{ℕ, ◌+◌, ◌*◌, ◌/◌}

-- for P parties, n transactions and m signatures, and 1 for c where the conduct is not open, else 0: for each transaction P² shares, P hand-ins, and P
-- sends or an inclusion and a bump; for each signature P²/4 gives, from those that hold it to those that do not; a block; P first shares under conduct
abbrev pub most_open : ℕ → ℕ → ℕ → ℕ → ℕ
most_open P n m c = (P * P + 2 * P) * n + P * P / 4 * m + 1 + P * c
