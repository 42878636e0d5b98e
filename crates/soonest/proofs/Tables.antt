-- Tables over the sheet, and what is read from them.
-- Assumes nothing.
use Rattle.laws.proofs.Prelude.{ℕ, ◌+◌, ◌≤◌, ◌<◌, ◌≡◌, refl, sym, ◌∙◌, List, eqb, ltb, length, get_or, set, length-set, eqb-true, eqb-false, ltb-true, arith, not-suc-le-zero}
use Rattle.laws.proofs.Prelude.{get_or-set_same, get_or-set_other, split}
use Rattle.laws.specs.Calls.{TableOf}
use Rattle.position.proofs.Rules.{parent}
use Rattle.soonest.specs.Soonest.{may_rise, counts_at, soonest_over, soonest_block, soonest_parent, soonest_deadline}
use Rattle.soonest.specs.Forms.Bounds.{Soon, SoonAbove}
use Rattle.soonest.specs.Forms.Table.{Filled, table_above}
use Rattle.soonest.specs.Forms.Deadline.{deadline_over}
use Rattle.soonest.proofs.Recursion.{soonest_is}

-- a loop that fills a table: its start, a turn, its end
module _ (told : ℕ → ℕ → Type 0) where
  pub filled_start : (table : List ℕ) → length table ≡ 32 → Filled told 0 table
  filled_start table e = record { size = e; each = λ k l. absurd (not-suc-le-zero l) }

  pub filled_more : (n : ℕ) (table : List ℕ) (v : ℕ) → Filled told n table → n < 32 → told n v → Filled told (n + 1) (set table n v)
  filled_more n table v h l w =
      record {
        size = length-set table n v ∙ h.size;
        each = λ k m.
            split (eqb k n)
            (λ y. let e = eqb-true k n y in rw (e, get_or-set_same table n v 0 (omega (arith, l, h.size))) w)
            (λ y. let e = eqb-false k n y in rw (get_or-set_other table n k v 0 e) (h.each k (omega (arith, m, e))));
      }

  pub filled_done : (k n : ℕ) (table : List ℕ) → n ≤ k → Filled told k table → Filled told n table
  filled_done k n table l h = record { size = h.size; each = λ j m. h.each j (omega (arith, m, l)) }

-- a table that is filled at once
pub filled_of : (told answers : ℕ → ℕ → Type 0) (n : ℕ) (table : List ℕ) → TableOf answers 32 n 0 table → ((k v : ℕ) → k < n → answers k v → told k v) → Filled told n table
filled_of told answers n table h f = record { size = h.size; each = λ k l. f k (get_or table k 0) l (h.each k l) }

module _ (s : List ℕ) (per_day : ℕ) (block : ℕ → ℕ) (mined : ℕ) where
  -- the parent's soonest block e, read from a table of those before t
  pub soonest_above_lem : (n : ℕ) (table : List ℕ) → Filled (λ k x. Soon (soonest_block s per_day block mined k) k x) n table → (t e : ℕ) → t ≤ n
      → e ≡ table_above s table t → SoonAbove (soonest_parent s per_day block mined t) t e
  unfolding table_above soonest_parent
  soonest_above_lem n table h t e l q =
      rw q
      (split (ltb (parent s t) t)
      (λ y.
      let u = ltb-true (parent s t) t y in
      let w = h.each (parent s t) (omega (arith, u, l)) in
      record { is = rw y w.is; small = rw y (omega (arith, w.small, u)) })
      (λ y. record { is = rw y refl; small = rw y (omega arith) }))

  -- the soonest block over the parent's, x being t's own block and r what is made of both
  pub soonest_next : (t x e r : ℕ) → x ≡ block t → SoonAbove (soonest_parent s per_day block mined t) t e
      → Soon (soonest_over s per_day x mined t e) t r → Soon (soonest_block s per_day block mined t) t r
  soonest_next t x e r b h w =
      record { is = w.is ∙ rw (b, h.is) (sym (soonest_is s per_day block mined t)); small = w.small }

  -- the soonest deadline asks for the blocks of the parent alone
  pub deadline_over_lem : (t : ℕ) → soonest_deadline s per_day block mined t ≡ deadline_over s per_day (block (parent s t)) (soonest_parent s per_day block mined t) t
  unfolding soonest_deadline deadline_over counts_at may_rise
  deadline_over_lem t = refl
