-- A height below the next block is reached.
-- Assumes nothing.
use Rattle.laws.proofs.Prelude.{ℕ, ◌+◌, ◌≡◌, ltb, leb, leb-true, leb-false, lt-ltb, le-ltb, arith, split}

pub below_next : (h m : ℕ) → ltb h (m + 1) ≡ leb h m
below_next h m =
    split (leb h m)
    (λ y. let l = leb-true h m y in rw (y, lt-ltb h (m + 1) (omega (arith, l))))
    (λ y. let l = leb-false h m y in rw (y, le-ltb h (m + 1) (omega (arith, l))))
