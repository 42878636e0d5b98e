-- Sums over the numbers below a bound, and the number of a mask's bits.
-- Assumes nothing.
use Rattle.std.specs.Prelude.{ℕ, zero, suc, ◌+◌, ◌*◌, ◌≤◌, ◌<◌, ◌≡◌, refl, Bool, true, false, List, length}
use Rattle.std.proofs.Common.{arith, add-one, le_antisymm, add-zero, mul-suc, mul-add, mul-zero, sym, ap, ◌∙◌, length-append}
use Rattle.laws.specs.Booleans.{pick}
use Rattle.laws.specs.Gather.{gather}
use Rattle.laws.specs.Mask.{bit}

-- f 0 + f 1 + .. + f (n - 1)
unfoldable pub sum_below : ℕ → (ℕ → ℕ) → ℕ
sum_below zero f = 0
sum_below (suc n) f = sum_below n f + f n

-- how many of the n lowest bits the mask has
unfoldable pub bits_below : ℕ → ℕ → ℕ
bits_below n m = sum_below n (λ i. pick (bit m i) 1 0)

-- a loop that sums: its start, a turn, its end
pub sum_start : (f : ℕ → ℕ) → 0 ≡ sum_below 0 f
unfolding sum_below
sum_start f = refl

pub sum_more : (n : ℕ) (f : ℕ → ℕ) (s x : ℕ) → s ≡ sum_below n f → x ≡ f n → s + x ≡ sum_below (n + 1) f
unfolding sum_below
sum_more n f s x e h = rw (add-one, e, h)

pub sum_done : (k n : ℕ) (f : ℕ → ℕ) (s : ℕ) → k ≤ n → n ≤ k → s ≡ sum_below k f → s ≡ sum_below n f
sum_done k n f s l m e = rw (le_antisymm m l) e

-- terms of at most b each
pub sum_bound : (n b : ℕ) (f : ℕ → ℕ) → ((k : ℕ) → f k ≤ b) → sum_below n f ≤ b * n
unfolding sum_below
sum_bound zero b f h = omega arith
sum_bound (suc n) b f h = omega (arith, mul-suc b n, sum_bound n b f h, h n)

-- terms that are the same below n
pub sum_same : (n : ℕ) (f g : ℕ → ℕ) → ((k : ℕ) → k < n → f k ≡ g k) → sum_below n f ≡ sum_below n g
unfolding sum_below
sum_same zero f g h = refl
sum_same (suc n) f g h = rw (sum_same n f g (λ k l. h k (omega arith)), h n (omega arith))

-- the first term apart
pub sum_front : (n : ℕ) (f : ℕ → ℕ) → sum_below (suc n) f ≡ f 0 + sum_below n (λ k. f (suc k))
unfolding sum_below
sum_front zero f = omega arith
sum_front (suc n) f = omega (arith, sum_front n f)

-- a sum of sums of two
pub sum_both : (n : ℕ) (f g : ℕ → ℕ) → sum_below n (λ k. f k + g k) ≡ sum_below n f + sum_below n g
unfolding sum_below
sum_both zero f g = refl
sum_both (suc n) f g = omega (arith, sum_both n f g)

-- a multiple in each term
pub sum_times : (n w : ℕ) (f : ℕ → ℕ) → sum_below n (λ k. w * f k) ≡ w * sum_below n f
unfolding sum_below
sum_times zero w f = sym (mul-zero w)
sum_times (suc n) w f = rw (sum_times n w f) (sym (mul-add w (sum_below n f) (f n)))

pub sum_zero : (n : ℕ) → sum_below n (λ k. 0) ≡ 0
unfolding sum_below
sum_zero zero = refl
sum_zero (suc n) = rw (sum_zero n)

-- two sums in the other order
pub sum_swap : (n m : ℕ) (f : ℕ → ℕ → ℕ) → sum_below n (λ i. sum_below m (f i)) ≡ sum_below m (λ j. sum_below n (λ i. f i j))
unfolding sum_below
sum_swap zero m f = sym (sum_zero m)
sum_swap (suc n) m f = rw (sum_swap n m f) (sym (sum_both m (λ j. sum_below n (λ i. f i j)) (f n)))

-- a sum whose terms from m on are w more
sum_further : (w m : ℕ) (f : ℕ → ℕ) → sum_below (m + w) f ≡ sum_below m f + sum_below w (λ d. f (m + d))
unfolding sum_below
sum_further zero m f = rw (add-zero m) (sym (add-zero (sum_below m f)))
sum_further (suc w) m f = let e : m + suc w ≡ suc (m + w) = omega arith in rw (e, sum_further w m f) (omega arith)

-- a sum by groups of w
pub sum_groups : (w n : ℕ) (f : ℕ → ℕ) → sum_below n (λ k. sum_below w (λ d. f (w * k + d))) ≡ sum_below (w * n) f
unfolding sum_below
sum_groups w zero f = rw (mul-zero w)
sum_groups w (suc n) f = rw (mul-suc w n, sum_further w (w * n) f, sum_groups w n f)

-- the length of lists made one after the other
pub length_gathered : {A : Type 0} (n : ℕ) (f : ℕ → List A) → length (gather n f) ≡ sum_below n (λ k. length (f k))
unfolding gather sum_below
length_gathered zero f = refl
length_gathered (suc n) f = length-append (gather n f) (f n) ∙ ap (λ x. x + length (f n)) (length_gathered n f)

at_most_one : (b : Bool) → pick b 1 0 ≤ 1
at_most_one true = omega arith
at_most_one false = omega arith

pub bits_bound : (n m : ℕ) → bits_below n m ≤ n
unfolding bits_below
bits_bound n m = omega (arith, sum_bound n 1 (λ i. pick (bit m i) 1 0) (λ k. at_most_one (bit m k)))
