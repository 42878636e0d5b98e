-- Rounds that may stop early.
-- Assumes nothing.
use Rattle.laws.proofs.Prelude.{ℕ, zero, suc, ◌+◌, ◌≤◌, ◌<◌, ◌≡◌, refl, sym, ap, ◌∙◌, Bool, false, not, ◌||◌, List, eqb, get_or, arith}
use native.Mathlib.Nat.{le_antisymm, le_of_suc-le-suc, eq-or-lt_of_le}
use native.Mathlib.Numerals.{add-one}
use lib.Bits.{bit_and}
use Rattle.laws.specs.Booleans.{either}
use Rattle.laws.specs.Sets.{set_below, set_same}
use Rattle.soonest.specs.Forms.Table.{Filled}
use Rattle.kept.specs.declared.Prospect.{Prospect}
use Rattle.kept.specs.Forms.Evaluation.{needs_in, parents_in, good_in, rounds_in, reached_in, kept_in}

module _ (up : List ℕ) (needs : ℕ → ℕ) (contract n : ℕ) where
  pub rounds_start : 0 ≡ rounds_in up needs contract n 0
  unfolding rounds_in
  rounds_start = refl

  pub rounds_more : (k found parents next : ℕ) → found ≡ rounds_in up needs contract n k → parents ≡ parents_in up n found
      → next ≡ set_below n (λ t. good_in contract (needs t) parents t) → next ≡ rounds_in up needs contract n (k + 1)
  unfolding rounds_in
  rounds_more k found parents next e g h = rw (h, g, e, add-one)

  -- what one round leaves as it is, any number of rounds does
  rounds_stay : (k m : ℕ) → k ≤ m → rounds_in up needs contract n (k + 1) ≡ rounds_in up needs contract n k
      → rounds_in up needs contract n m ≡ rounds_in up needs contract n k
  unfolding rounds_in
  rounds_stay k zero l e = let q : k ≡ 0 = omega arith in rw q refl
  rounds_stay k (suc m) l e =
      either (eq-or-lt_of_le l)
      (λ q. rw q refl)
      (λ h.
      let i : rounds_in up needs contract n m ≡ rounds_in up needs contract n k = rounds_stay k m (le_of_suc-le-suc h) e in
      let g : rounds_in up needs contract n (suc k) ≡ rounds_in up needs contract n k = rw add-one at e in
      rw i g)

  pub rounds_end : (k found parents next : ℕ) → k ≤ n → found ≡ rounds_in up needs contract n k → parents ≡ parents_in up n found
      → next ≡ set_below n (λ t. good_in contract (needs t) parents t) → next ≡ found → found ≡ rounds_in up needs contract n n
  rounds_end k found parents next l e g h q =
      let same : rounds_in up needs contract n (k + 1) ≡ rounds_in up needs contract n k = sym (rounds_more k found parents next e g h) ∙ q ∙ e in
      e ∙ sym (rounds_stay k n l same)

  pub rounds_done : (k found : ℕ) → k ≤ n → n ≤ k → found ≡ rounds_in up needs contract n k → found ≡ rounds_in up needs contract n n
  rounds_done k found l m e = let q : k ≡ n = le_antisymm l m in rw q at e

-- what is needed is the same below n
pub rounds_same : (up : List ℕ) (f g : ℕ → ℕ) (contract n k : ℕ) → ((t : ℕ) → t < n → f t ≡ g t)
    → rounds_in up f contract n k ≡ rounds_in up g contract n k
unfolding rounds_in
rounds_same up f g contract n zero h = refl
rounds_same up f g contract n (suc k) h =
    rw (rounds_same up f g contract n k h)
    (set_same n (λ t. good_in contract (f t) (parents_in up n (rounds_in up g contract n k)) t)
    (λ t. good_in contract (g t) (parents_in up n (rounds_in up g contract n k)) t)
    (λ t l. rw (h t l) refl))

-- over a table of what each needs
pub reached_by : (q : Prospect) (off : ℕ) (table : List ℕ) (found : ℕ) → Filled (λ t x. x ≡ needs_in q off t) q.count table
    → found ≡ rounds_in q.up (λ t. get_or table t 0) q.contract q.count q.count → bit_and found q.fixed ≡ reached_in q off
unfolding reached_in
reached_by q off table found h e =
    rw (e ∙ rounds_same q.up (λ t. get_or table t 0) (needs_in q off) q.contract q.count q.count h.each) refl

pub kept_unpaid : (q : Prospect) (off found : ℕ) → q.paid ≡ false → found ≡ reached_in q off → not (eqb found 0) ≡ kept_in q off
unfolding kept_in
kept_unpaid q off found h e = rw (← e) (ap (λ (b : Bool). b || not (eqb found 0)) (sym h))
