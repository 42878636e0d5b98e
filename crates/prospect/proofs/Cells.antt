-- A loop that fills a table of pairs: its start, a turn, its end, and what is read from it.
-- Assumes nothing.
use Rattle.laws.proofs.Prelude.{ℕ, ◌+◌, ◌*◌, ◌/◌, ◌%◌, ◌≤◌, ◌<◌, ◌≡◌, ◌∙◌, List, eqb, length, get_or, set, length-set, eqb-true, eqb-false, arith}
use native.Mathlib.Nat.{not-suc-le-zero}
use lib.Seq.{get_or-set_same, get_or-set_other}
use Rattle.laws.specs.Booleans.{split}
use Rattle.laws.specs.Calls.{TableOf}
use Rattle.prospect.specs.Forms.Tables.{Cells}

-- a table of pairs that is filled at once
pub cells_of : (told : ℕ → ℕ → ℕ → Type 0) (answers : ℕ → ℕ → Type 0) (n : ℕ) (table : List ℕ) → TableOf answers 1024 n 0 table → ((i v : ℕ) → i < n → answers i v → told (i / 32) (i % 32) v) → Cells told n table
cells_of told answers n table h f = record { size = h.size; each = λ i l. f i (get_or table i 0) l (h.each i l) }

module _ (told : ℕ → ℕ → ℕ → Type 0) where
  pub cells_start : (table : List ℕ) → length table ≡ 1024 → Cells told 0 table
  cells_start table e = record { size = e; each = λ i l. absurd (not-suc-le-zero l) }

  pub cells_more : (n : ℕ) (table : List ℕ) (v : ℕ) → Cells told n table → n < 1024 → told (n / 32) (n % 32) v → Cells told (n + 1) (set table n v)
  cells_more n table v h l w =
      record {
        size = length-set table n v ∙ h.size;
        each = λ i m.
            split (eqb i n)
            (λ y. let e = eqb-true i n y in rw (e, get_or-set_same table n v 0 (omega (arith, l, h.size))) w)
            (λ y. let e = eqb-false i n y in rw (get_or-set_other table n i v 0 e) (h.each i (omega (arith, m, e))));
      }

  pub cells_done : (i n : ℕ) (table : List ℕ) → n ≤ i → Cells told i table → Cells told n table
  cells_done i n table l h = record { size = h.size; each = λ j m. h.each j (omega (arith, m, l)) }

  pub cells_at : (n : ℕ) (table : List ℕ) → Cells told (32 * n) table → (t k : ℕ) → t < n → k < 32 → told t k (get_or table (32 * t + k) 0)
  cells_at n table h t k l m =
      let row : (32 * t + k) / 32 ≡ t = omega (arith, m) in
      let place : (32 * t + k) % 32 ≡ k = omega (arith, m) in
      rw (row, place) at (h.each (32 * t + k) (omega (arith, l, m)))
