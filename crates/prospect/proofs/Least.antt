-- The least height is reached where some height is.
-- Assumes nothing.
use Rattle.laws.proofs.Prelude.{ℕ, zero, suc, ◌<◌, ◌≡◌, refl, ◌∙◌, Bool, true, false, not, ◌&&◌, ◌||◌, ltb, leb, leb-true}
use Rattle.laws.proofs.Prelude.{leb-false, le-leb, lt-leb, lt-ltb, le-ltb, arith}
use Prim.Native.Nat.{min}
use native.Mathlib.Nat.{min-eq_left, min-eq_right, le_of_lt}
use Rattle.laws.specs.Booleans.{pick, split}
use Rattle.laws.specs.Below.{any_below}
use Rattle.laws.specs.Least.{least_below}

-- not reached yet
pub before_is : (off h : ℕ) → ltb off h ≡ not (leb h off)
before_is off h =
    split (leb h off)
    (λ y. rw (y, le-ltb off h (leb-true h off y)))
    (λ y. rw (y, lt-ltb off h (leb-false h off y)))

-- the lower of two is reached where one of them is
pub lower_reached : (a b off : ℕ) → leb (min a b) off ≡ (leb a off || leb b off)
lower_reached a b off =
    split (leb a b)
    (λ y.
    let l = leb-true a b y in
    rw (min-eq_left l)
    (split (leb a off)
    (λ z. rw z)
    (λ z. rw (z, lt-leb b off (omega (arith, l, leb-false a off z))))))
    (λ y.
    let l = leb-false a b y in
    rw (min-eq_right (le_of_lt l))
    (split (leb a off)
    (λ z. rw (z, le-leb b off (omega (arith, l, leb-true a off z))))
    (λ z. rw z)))

chosen : (d off : ℕ) → off < d → (on : Bool) (h : ℕ) → leb (pick on h d) off ≡ (on && leb h off)
chosen d off l true h = refl
chosen d off l false h = lt-leb d off l

pub least_tells : (p : ℕ → Bool) (f : ℕ → ℕ) (d off : ℕ) → off < d → (n : ℕ) → leb (least_below n p f d) off ≡ any_below n (λ k. p k && leb (f k) off)
unfolding least_below any_below
least_tells p f d off l zero = lt-leb d off l
least_tells p f d off l (suc n) =
    lower_reached (least_below n p f d) (pick (p n) (f n) d) off ∙ rw (least_tells p f d off l n, chosen d off l (p n) (f n))
