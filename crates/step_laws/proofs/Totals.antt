-- Sums that count: bounded terms, one term, the parties of a sheet, and pairs of one that has something and one that has not.
-- Assumes nothing.
use Rattle.laws.proofs.Prelude.{ℕ, zero, suc, ◌+◌, ◌*◌, ◌/◌, ◌≤◌, ◌<◌, ◌≡◌, refl, Bool, not, ◌&&◌, List, eqb, ltb, eqb-true, ltb-true, eq-eqb, ne_eqb, arith}
use Rattle.laws.proofs.Prelude.{eq-or-lt_of_le, le_of_suc-le-suc, mul-le-mul_left, pick, split, either, sum_below, sum_bound, sum_both, sum_swap}
use Rattle.position.proofs.Rules.{parties, place, party_at}
use Rattle.laws.specs.Sum.{sum_times}
use Rattle.sheet.specs.Field.{is_party}
use Rattle.sheet.proofs.Parties.{place_below, at_place}

-- terms that are no more than others, and at most w each
pub sum_le : (n : ℕ) (f g : ℕ → ℕ) → ((k : ℕ) → k < n → f k ≤ g k) → sum_below n f ≤ sum_below n g
unfolding sum_below
sum_le zero f g h = omega arith
sum_le (suc n) f g h = omega (arith, sum_le n f g (λ k l. h k (omega arith)), h n (omega arith))

pub sum_most : (n w : ℕ) (f : ℕ → ℕ) → ((k : ℕ) → k < n → f k ≤ w) → sum_below n f ≤ w * n
sum_most n w f h = omega (arith, sum_le n f (λ k. w) h, sum_bound n w (λ k. w) (λ k. omega arith))

pub sum_alike : (n w : ℕ) → sum_below n (λ k. w) ≡ w * n
unfolding sum_below
sum_alike zero w = omega arith
sum_alike (suc n) w = omega (arith, sum_alike n w)

sum_term : (n : ℕ) (f : ℕ → ℕ) (k : ℕ) → k < n → f k ≤ sum_below n f
unfolding sum_below
sum_term zero f k h = omega arith
sum_term (suc n) f k h =
    either (eq-or-lt_of_le (le_of_suc-le-suc h)) (λ e. rw e (omega arith)) (λ l. omega (arith, sum_term n f k l))

-- w at one number alone, and at each number below m
pub sum_one : (n x w : ℕ) → sum_below n (λ k. pick (eqb k x) w 0) ≤ w
unfolding sum_below
sum_one zero x w = omega arith
sum_one (suc n) x w =
    split (eqb n x)
    (λ e.
    let q = eqb-true n x e in
    let z = sum_most n 0 (λ k. pick (eqb k x) w 0) (λ k l. rw (ne_eqb k x (λ y. omega arith)) (omega arith)) in
    rw e (omega arith))
    (λ e. rw e (omega (arith, sum_one n x w)))

pub sum_first : (n m w : ℕ) → sum_below n (λ k. pick (ltb k m) w 0) ≤ w * m
unfolding sum_below
sum_first zero m w = omega arith
sum_first (suc n) m w =
    split (ltb n m)
    (λ e.
    let l : w * suc n ≤ w * m = mul-le-mul_left w (ltb-true n m e) in
    let z = sum_most n w (λ k. pick (ltb k m) w 0) (λ k j. split (ltb k m) (λ y. rw y (omega arith)) (λ y. rw y (omega arith))) in
    rw e (omega arith))
    (λ e. rw e (omega (arith, sum_first n m w)))

-- the tests that hold
pub sum_tests : (n : ℕ) (b : ℕ → Bool) → sum_below n (λ k. pick (b k) 1 0) ≤ n
sum_tests n b = omega (arith, sum_bound n 1 (λ k. pick (b k) 1 0) (λ k. split (b k) (λ y. rw y (omega arith)) (λ y. rw y (omega arith))))

-- the numbers that are parties', by the parties' places
module _ (s : List ℕ) (g : ℕ → Bool) where
  abbrev named : ℕ → ℕ → ℕ
  named d k = pick (eqb d (party_at k)) (pick (g (party_at k)) 1 0) 0

  by_place : (d : ℕ) → pick (is_party s d && g d) 1 0 ≤ sum_below (parties s) (named d)
  by_place d =
      split (is_party s d)
      (λ y.
      let e = at_place s d y in
      let w : named d (place d) ≡ pick (g d) 1 0 = rw (e, eq-eqb d d refl) in
      rw y (omega (arith, w, sum_term (parties s) (named d) (place d) (place_below s d y))))
      (λ y. rw y (omega arith))

  pub sum_parties : (n : ℕ) → sum_below n (λ d. pick (is_party s d && g d) 1 0) ≤ sum_below (parties s) (λ k. pick (g (party_at k)) 1 0)
  sum_parties n =
      omega (
        arith,
        sum_le n (λ d. pick (is_party s d && g d) 1 0) (λ d. sum_below (parties s) (named d)) (λ d l. by_place d),
        sum_swap n (parties s) named,
        sum_le (parties s) (λ k. sum_below n (λ d. named d k)) (λ k. pick (g (party_at k)) 1 0) (λ k l. sum_one n (party_at k) (pick (g (party_at k)) 1 0)),
      )

-- a product of two numbers is at most a quarter of their sum's square
pub quarter : (a b m : ℕ) → a + b ≤ m → a * b ≤ m * m / 4
quarter zero b m h = omega arith
quarter (suc a) zero m h = omega arith
quarter (suc a) (suc b) zero h = omega arith
quarter (suc a) (suc b) (suc zero) h = omega arith
quarter (suc a) (suc b) (suc (suc m)) h = omega (arith, quarter a b m (omega arith))

-- so are the pairs of one of n that has something and one that has not
module _ (n : ℕ) (h : ℕ → Bool) where
  abbrev has : ℕ → ℕ
  has k = pick (h k) 1 0

  abbrev has_not : ℕ → ℕ
  has_not k = pick (not (h k)) 1 0

  either_way : sum_below n has_not + sum_below n has ≤ n
  either_way =
      omega (
        arith,
        sum_both n has_not has,
        sum_most n 1 (λ k. has_not k + has k) (λ k l. split (h k) (λ y. rw y (omega arith)) (λ y. rw y (omega arith))),
      )

  pairs_of : (j : ℕ) → sum_below n (λ k. pick (h j && not (h k)) 1 0) ≤ sum_below n has_not * has j
  pairs_of j =
      split (h j)
      (λ y. rw y (omega arith))
      (λ y. rw y (omega (arith, sum_most n 0 (λ k. 0) (λ k l. omega arith))))

  pub pairs : sum_below n (λ j. sum_below n (λ k. pick (h j && not (h k)) 1 0)) ≤ n * n / 4
  pairs =
      omega (
        arith,
        sum_le n (λ j. sum_below n (λ k. pick (h j && not (h k)) 1 0)) (λ j. sum_below n has_not * has j) (λ j l. pairs_of j),
        sum_times n (sum_below n has_not) has,
        quarter (sum_below n has_not) (sum_below n has) n either_way,
      )
