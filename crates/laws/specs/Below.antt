-- Tests over the numbers below a bound, with a law for each way out of a loop's turn.
-- Assumes nothing.
use Rattle.std.specs.Prelude.{ℕ, zero, suc, ◌+◌, ◌≤◌, ◌<◌, ◌≡◌, refl, Bool, true, false, ◌||◌, ◌&&◌, ltb}
use Rattle.std.proofs.Common.{ap, sym, subst, ◌∙◌, ltb-true, ltb-false, ⊎_elim, add-one, le_antisymm, eq-or-lt_of_le, le_of_suc-le-suc, not-suc-le-zero, arith}
use Rattle.std.proofs.Math.Bool.{or-true, or-false, or_assoc, and-true, and-false, and_assoc}
use Rattle.std.proofs.lemmas.Bool.{false≢true}
use Rattle.laws.specs.Booleans.{and_parts, or_parts, either, split, clash}

-- p holds of every number below n
unfoldable pub all_below : ℕ → (ℕ → Bool) → Bool
all_below zero p = true
all_below (suc n) p = all_below n p && p n

-- p holds of some number below n
unfoldable pub any_below : ℕ → (ℕ → Bool) → Bool
any_below zero p = false
any_below (suc n) p = any_below n p || p n

-- a loop's start, a turn that goes on, a turn that ends it, and its end: the count has reached the bound
pub all_start : (p : ℕ → Bool) → all_below 0 p ≡ true
unfolding all_below
all_start p = refl

pub all_more : (n : ℕ) (p : ℕ → Bool) → all_below n p ≡ true → p n ≡ true → all_below (n + 1) p ≡ true
unfolding all_below
all_more n p e h = rw (add-one, e, h)

pub all_broken : (n k : ℕ) (p : ℕ → Bool) → k < n → p k ≡ false → all_below n p ≡ false
unfolding all_below
all_broken zero k p l h = absurd (not-suc-le-zero l)
all_broken (suc n) k p l h =
    ⊎_elim
    (λ e. subst (λ (j : ℕ). (all_below n p && p j) ≡ false) e (rw h (and-false (all_below n p))))
    (λ m. ap (λ b. b && p n) (all_broken n k p m h))
    (eq-or-lt_of_le (le_of_suc-le-suc l))

pub all_done : (k n : ℕ) (p : ℕ → Bool) (b : Bool) → k ≤ n → n ≤ k → all_below k p ≡ b → b ≡ all_below n p
all_done k n p b l m e = rw (le_antisymm m l) (sym e)

pub any_start : (p : ℕ → Bool) → any_below 0 p ≡ false
unfolding any_below
any_start p = refl

pub any_more : (n : ℕ) (p : ℕ → Bool) → any_below n p ≡ false → p n ≡ false → any_below (n + 1) p ≡ false
unfolding any_below
any_more n p e h = rw (add-one, e, h)

pub any_next : (n : ℕ) (p : ℕ → Bool) → any_below (n + 1) p ≡ (any_below n p || p n)
unfolding any_below
any_next n p = rw add-one

pub any_found : (n k : ℕ) (p : ℕ → Bool) → k < n → p k ≡ true → any_below n p ≡ true
unfolding any_below
any_found zero k p l h = absurd (not-suc-le-zero l)
any_found (suc n) k p l h =
    ⊎_elim
    (λ e. subst (λ (j : ℕ). (any_below n p || p j) ≡ true) e (rw h (or-true (any_below n p))))
    (λ m. ap (λ b. b || p n) (any_found n k p m h))
    (eq-or-lt_of_le (le_of_suc-le-suc l))

pub any_done : (k n : ℕ) (p : ℕ → Bool) (b : Bool) → k ≤ n → n ≤ k → any_below k p ≡ b → b ≡ any_below n p
any_done k n p b l m e = rw (le_antisymm m l) (sym e)

-- what holds of every number below n holds of each
pub all_at : (n : ℕ) (p : ℕ → Bool) → all_below n p ≡ true → (k : ℕ) → k < n → p k ≡ true
unfolding all_below
all_at zero p e k h = absurd (not-suc-le-zero h)
all_at (suc n) p e k h =
    let w = and_parts (all_below n p) (p n) e in
    ⊎_elim (λ q. ap p q ∙ w.1) (all_at n p w.0 k) (eq-or-lt_of_le (le_of_suc-le-suc h))

pub all_from : (n : ℕ) (p : ℕ → Bool) → ((k : ℕ) → k < n → p k ≡ true) → all_below n p ≡ true
unfolding all_below
all_from zero p f = refl
all_from (suc n) p f = rw (all_from n p (λ k h. f k (omega arith)), f n (omega arith))

-- the first number, and the others one lower
pub all_first : (n : ℕ) (p : ℕ → Bool) → all_below (suc n) p ≡ (p 0 && all_below n (λ k. p (suc k)))
unfolding all_below
all_first zero p = sym (and-true (p 0))
all_first (suc n) p = rw (all_first n p) (and_assoc (p 0) (all_below n (λ k. p (suc k))) (p (suc n)))

pub any_first : (n : ℕ) (p : ℕ → Bool) → any_below (suc n) p ≡ (p 0 || any_below n (λ k. p (suc k)))
unfolding any_below
any_first zero p = sym (or-false (p 0))
any_first (suc n) p = rw (any_first n p) (or_assoc (p 0) (any_below n (λ k. p (suc k))) (p (suc n)))

-- every number from n up to m passes
pub all_upto : (n m : ℕ) (p : ℕ → Bool) → n ≤ m → ((k : ℕ) → n ≤ k → k < m → p k ≡ true) → all_below n p ≡ all_below m p
unfolding all_below
all_upto n zero p l f = rw (le_antisymm l (omega arith)) refl
all_upto n (suc m) p l f =
    either (eq-or-lt_of_le l)
    (λ e. rw e refl)
    (λ h. rw (all_upto n m p (le_of_suc-le-suc h) (λ k a b. f k a (omega arith)), f m (le_of_suc-le-suc h) (omega arith)) (sym (and-true (all_below m p))))

-- two tests that agree below n
pub all_same : (n : ℕ) (p q : ℕ → Bool) → ((k : ℕ) → k < n → p k ≡ q k) → all_below n p ≡ all_below n q
unfolding all_below
all_same zero p q f = refl
all_same (suc n) p q f = rw (all_same n p q (λ k h. f k (omega arith)), f n (omega arith))

-- some number below n passes: one that does; none passes: each that fails
pub any_some : (n : ℕ) (p : ℕ → Bool) → any_below n p ≡ true → (k : ℕ) × (k < n) × (p k ≡ true)
unfolding any_below
any_some zero p e = absurd (false≢true e)
any_some (suc n) p e =
    either (or_parts (any_below n p) (p n) e)
    (λ m. let w = any_some n p m in (w.0, omega (arith, w.1), w.2))
    (λ h. (n, omega arith, h))

pub any_none : (n : ℕ) (p : ℕ → Bool) → any_below n p ≡ false → (k : ℕ) → k < n → p k ≡ false
any_none n p e k h = split (p k) (λ y. clash (any_found n k p h y) e) (λ f. f)

pub any_all_false : (n : ℕ) (p : ℕ → Bool) → ((k : ℕ) → k < n → p k ≡ false) → any_below n p ≡ false
unfolding any_below
any_all_false zero p f = refl
any_all_false (suc n) p f = rw (any_all_false n p (λ k h. f k (omega arith)), f n (omega arith))

-- none below n, and none from there up to m
pub any_upto : (n m : ℕ) (p : ℕ → Bool) → any_below n p ≡ false → ((k : ℕ) → n ≤ k → k < m → p k ≡ false) → any_below m p ≡ false
any_upto n m p e f =
    any_all_false m p (λ k h. split (ltb k n) (λ y. any_none n p e k (ltb-true k n y)) (λ y. f k (ltb-false k n y) h))

-- two tests that agree below n
pub any_same : (n : ℕ) (p q : ℕ → Bool) → ((k : ℕ) → k < n → p k ≡ q k) → any_below n p ≡ any_below n q
unfolding any_below
any_same zero p q f = refl
any_same (suc n) p q f = rw (any_same n p q (λ k h. f k (omega arith)), f n (omega arith))

-- what does not hold of every number below n fails of one
pub all_fails : (n : ℕ) (p : ℕ → Bool) → all_below n p ≡ false → (k : ℕ) × (k < n) × (p k ≡ false)
unfolding all_below
all_fails zero p e = clash {b = true} refl e
all_fails (suc n) p e =
    split (all_below n p)
    (λ y. (n, omega arith, rw y at e))
    (λ y. let w = all_fails n p y in (w.0, omega (arith, w.1), w.2))
