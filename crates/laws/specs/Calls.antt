-- What a function makes of a test, or of an entry, that it is handed: told by the answers of the calls.
-- Assumes nothing.
use Rattle.std.specs.Prelude.{ℕ, zero, suc, ◌+◌, ◌*◌, ◌<◌, ◌≤◌, ◌^◌, ◌≡◌, refl, Bool, ◌&&◌, ◌||◌, List, length, get_or, eqb}
use Rattle.std.proofs.Common.{sym, ◌∙◌, arith, not-suc-le-zero, eqb-true, add-one, eq-or-lt_of_le, eq-eqb, ne_eqb, pow_pos}
use Rattle.std.proofs.Math.Nat.{le_refl, pow-succ'}
use Rattle.std.proofs.Math.Bool.{or-false, and-true, and-false}
use lib.ListN.{set, replicate, length-set, length-replicate}
use lib.Seq.{get_or-set_same, get_or-set_other}
use Rattle.laws.specs.Booleans.{either, split}
use Rattle.std.proofs.lemmas.Bool.{eqb-false}
use Rattle.laws.specs.Bits.{bit_above}
use Rattle.laws.specs.Mask.{bit}
use Rattle.laws.specs.Sets.{joined, joined_small, bit_joined, set_below, set_bit, set_small, word_same}

-- bit k of the set is an answer of the test at k, for each k below n, and it has no other bit
pub record SetOf (answers : ℕ → Bool → Type 0) (n m : ℕ) : Type 0 where
  pub each : (k : ℕ) → k < n → answers k (bit m k)
  pub small : m < 2 ^ n

-- a test that computes p makes the numbers below n that pass p
pub set_of : (answers : ℕ → Bool → Type 0) (n m : ℕ) (p : ℕ → Bool) → n ≤ 32 → SetOf answers n m → ((k : ℕ) (b : Bool) → k < n → answers k b → b ≡ p k) → m ≡ set_below n p
set_of answers n m p l h f =
    word_same n m (set_below n p) h.small (set_small n n p (le_refl n))
    (λ k i. f k (bit m k) i (h.each k i) ∙ sym (set_bit n p l k i))

-- a loop that makes such a set: its start, and a turn
pub set_of_none : (answers : ℕ → Bool → Type 0) → SetOf answers 0 0
set_of_none answers = record { each = λ k l. absurd (not-suc-le-zero l); small = pow_pos 0 }

pub set_of_more : (answers : ℕ → Bool → Type 0) (n m r : ℕ) (b : Bool) → n < 32 → SetOf answers n m → answers n b → r ≡ joined m b n → SetOf answers (n + 1) r
set_of_more answers n m r b l h a e = record {
  each = λ k i. let w : k ≤ n = omega (arith, i) in rw (e, bit_joined m b n k l (omega (arith, i, l)))
      (either (eq-or-lt_of_le w)
      (λ q. rw (q, eq-eqb n n refl, and-true b, bit_above m n n h.small (le_refl n)) a)
      (λ q. rw (ne_eqb k n (λ z. omega (arith, z, q)), and-false b, or-false (bit m k)) (h.each k q)));
  small = rw e (joined_small (n + 1) m n b (let z : 2 ^ (n + 1) ≡ 2 * 2 ^ n = rw add-one (pow-succ' 2 n) in omega (arith, h.small, z)) (omega arith));
}

-- the same of a table of m places: an answer at each place below n, and what it was filled with from there on
pub record TableOf {T : Type 0} (answers : ℕ → T → Type 0) (m n : ℕ) (rest : T) (table : List T) : Type 0 where
  pub size : length table ≡ m
  pub each : (k : ℕ) → k < n → answers k (get_or table k rest)
  pub other : (k : ℕ) → n ≤ k → get_or table k rest ≡ rest

-- a loop that fills such a table: its start, and a turn
all_rest : {T : Type 0} (m k : ℕ) (a : T) → get_or (replicate m a) k a ≡ a
all_rest zero k a = refl
all_rest (suc m) zero a = refl
all_rest (suc m) (suc k) a = all_rest m k a

pub table_of_none : {T : Type 0} (answers : ℕ → T → Type 0) (m : ℕ) (rest : T) → TableOf answers m 0 rest (replicate m rest)
table_of_none answers m rest = record { size = length-replicate m rest; each = λ k l. absurd (not-suc-le-zero l); other = λ k l. all_rest m k rest }

pub table_of_more : {T : Type 0} (answers : ℕ → T → Type 0) (m n : ℕ) (rest v : T) (table : List T) → TableOf answers m n rest table → n < m → answers n v → TableOf answers m (n + 1) rest (set table n v)
table_of_more answers m n rest v table h l a = record {
  size = length-set table n v ∙ h.size;
  each = λ k i.
      split (eqb k n)
      (λ y. let e = eqb-true k n y in rw (e, get_or-set_same table n v rest (omega (arith, l, h.size))) a)
      (λ y. let e = eqb-false k n y in rw (get_or-set_other table n k v rest e) (h.each k (omega (arith, i, e))));
  other = λ k i. get_or-set_other table n k v rest (λ e. omega (arith, e, i)) ∙ h.other k (omega (arith, i));
}
