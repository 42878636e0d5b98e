-- Bits of unions and subsets, and the number of a set's members.
-- Assumes nothing.
use Rattle.laws.proofs.Prelude.{ℕ, zero, suc, ◌+◌, ◌-◌, ◌≤◌, ◌<◌, ◌≡◌, refl, ap, ◌∙◌, Bool, true, false, not, ◌&&◌, ◌||◌, ◌⊎◌, inl, inr, arith, not-suc-le-zero}
use Rattle.laws.proofs.Prelude.{le_of_suc-le-suc, eq-or-lt_of_le, le_antisymm, bit_and, bit_or, pick, split, either, or_right, all_below, all_from, bit, subset, union_below}
use Rattle.laws.proofs.Prelude.{bit_or_lem, set_below, set_same, bit_outside, sum_below}
use native.Mathlib.Numerals.{add-one}
use Rattle.laws.specs.Sets.{set_outside}

-- a bit of an or's part is the or's
pub or_left : (a b i : ℕ) → bit a i ≡ true → bit (bit_or a b) i ≡ true
or_left a b i h = rw (bit_or_lem a b i, h)

pub or_last : (a b i : ℕ) → bit b i ≡ true → bit (bit_or a b) i ≡ true
or_last a b i h = bit_or_lem a b i ∙ or_right (bit a i) (bit b i) h

-- a member's bit is the union's
pub union_has : (n : ℕ) (f : ℕ → ℕ) (i k : ℕ) → k < n → bit (f k) i ≡ true → bit (union_below n f) i ≡ true
unfolding union_below
union_has zero f i k l h = absurd (not-suc-le-zero l)
union_has (suc n) f i k l h =
    either (eq-or-lt_of_le (le_of_suc-le-suc l))
    (λ e. or_last (union_below n f) (f n) i (rw e at h))
    (λ m. or_left (union_below n f) (f n) i (union_has n f i k m h))

-- a loop that joins masks: its start, a turn, its end
pub union_start : (f : ℕ → ℕ) → 0 ≡ union_below 0 f
unfolding union_below
union_start f = refl

pub union_more : (n : ℕ) (f : ℕ → ℕ) (a x : ℕ) → a ≡ union_below n f → x ≡ f n → bit_or a x ≡ union_below (n + 1) f
unfolding union_below
union_more n f a x e h = rw (add-one, e, h)

pub union_done : (k n : ℕ) (f : ℕ → ℕ) (a : ℕ) → k ≤ n → n ≤ k → a ≡ union_below k f → a ≡ union_below n f
union_done k n f a l m e = rw (le_antisymm m l) e

-- the members of a set that are in another
pub set_and : (n : ℕ) (p : ℕ → Bool) (m : ℕ) → n ≤ 32 → m < 4294967296 → bit_and (set_below n p) m ≡ set_below n (λ k. p k && bit m k)
set_and n p m few h =
    let e : m ≡ 4294967295 - (4294967295 - m) = omega (arith, h) in
    ap (bit_and (set_below n p)) e
    ∙ set_outside n p (4294967295 - m) few (omega arith)
    ∙ set_same n (λ k. p k && not (bit (4294967295 - m) k)) (λ k. p k && bit m k)
    (λ k l. rw (bit_outside m k h (omega (arith, l, few))) (split (bit m k) (λ y. rw y) (λ y. rw y)))

pub subset_from : (n a b : ℕ) → ((i : ℕ) → i < n → bit a i ≡ true → bit b i ≡ true) → subset n a b ≡ true
unfolding subset
subset_from n a b f =
    all_from n (λ i. not (bit a i) || bit b i) (λ i l. split (bit a i) (λ e. rw (e, f i l e)) (λ e. rw e))

-- every bit is the whole's, or something else holds
pub all_else : {X : Type 0} (n : ℕ) (p : ℕ → Bool) → ((k : ℕ) → k < n → (p k ≡ true) ⊎ X) → (all_below n p ≡ true) ⊎ X
unfolding all_below
all_else zero p f = inl refl
all_else (suc n) p f =
    either (all_else n p (λ k l. f k (omega arith)))
    (λ a. either (f n (omega arith)) (λ b. inl (rw (a, b))) inr)
    inr

pub subset_else : {X : Type 0} (n a b : ℕ) → ((i : ℕ) → i < n → bit a i ≡ true → (bit b i ≡ true) ⊎ X) → (subset n a b ≡ true) ⊎ X
unfolding subset
subset_else n a b f =
    all_else n (λ i. not (bit a i) || bit b i)
    (λ i l. split (bit a i) (λ e. either (f i l e) (λ y. inl (rw (e, y))) inr) (λ e. inl (rw e)))

-- how many numbers below n pass
unfoldable pub size : ℕ → (ℕ → Bool) → ℕ
size n p = sum_below n (λ k. pick (p k) 1 0)

one_le : (b c : Bool) → (b ≡ true → c ≡ true) → pick b 1 0 ≤ pick c 1 0
one_le true c h = rw (h refl) (omega arith)
one_le false c h = omega arith

pub size_le : (n : ℕ) (p q : ℕ → Bool) → ((k : ℕ) → k < n → p k ≡ true → q k ≡ true) → size n p ≤ size n q
unfolding size sum_below
size_le zero p q h = omega arith
size_le (suc n) p q h = omega (arith, size_le n p q (λ k l. h k (omega arith)), one_le (p n) (q n) (h n (omega arith)))

pub size_grows : (n : ℕ) (p q : ℕ → Bool) → ((k : ℕ) → k < n → p k ≡ true → q k ≡ true) → (t : ℕ) → t < n → p t ≡ false → q t ≡ true
    → size n p < size n q
unfolding size sum_below
size_grows zero p q h t l a b = absurd (not-suc-le-zero l)
size_grows (suc n) p q h t l a b =
    either (eq-or-lt_of_le (le_of_suc-le-suc l))
    (λ e.
    let w : pick (p n) 1 0 < pick (q n) 1 0 = rw (← e, a, b) (omega arith) in
    omega (arith, size_le n p q (λ k m. h k (omega arith)), w))
    (λ m. omega (arith, size_grows n p q (λ k j. h k (omega arith)) t m a b, one_le (p n) (q n) (h n (omega arith))))

one_most : (b : Bool) → pick b 1 0 ≤ 1
one_most true = omega arith
one_most false = omega arith

pub size_most : (n : ℕ) (p : ℕ → Bool) → size n p ≤ n
unfolding size sum_below
size_most zero p = omega arith
size_most (suc n) p = omega (arith, size_most n p, one_most (p n))

-- as many as there are: all pass
one_all : (b : Bool) → 1 ≤ pick b 1 0 → b ≡ true
one_all true h = refl
one_all false h = absurd (omega (arith, h))

pub size_all : (n : ℕ) (p : ℕ → Bool) → n ≤ size n p → (k : ℕ) → k < n → p k ≡ true
unfolding size sum_below
size_all zero p h k l = absurd (not-suc-le-zero l)
size_all (suc n) p h k l =
    let a = size_most n p in
    let b = one_most (p n) in
    either (eq-or-lt_of_le (le_of_suc-le-suc l))
    (λ e. rw e (one_all (p n) (omega (arith, h, a))))
    (λ m. size_all n p (omega (arith, h, b)) k m)
