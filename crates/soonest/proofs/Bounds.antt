-- The greater of two.
-- Assumes nothing.
use Rattle.laws.proofs.Prelude.{ℕ, ◌≤◌, ltb, ltb-true, ltb-false, arith, split}
use Rattle.soonest.specs.Soonest.{greater}

pub greater_left : (a b : ℕ) → a ≤ greater a b
unfolding greater
greater_left a b = split (ltb a b) (λ y. rw y (omega (arith, ltb-true a b y))) (λ y. rw y (omega arith))

pub greater_right : (a b : ℕ) → b ≤ greater a b
unfolding greater
greater_right a b = split (ltb a b) (λ y. rw y (omega arith)) (λ y. rw y (omega (arith, ltb-false a b y)))

pub greater_le : (a b c : ℕ) → a ≤ c → b ≤ c → greater a b ≤ c
unfolding greater
greater_le a b c h k = split (ltb a b) (λ y. rw y k) (λ y. rw y h)

pub greater_mono : (a b c d : ℕ) → a ≤ c → b ≤ d → greater a b ≤ greater c d
greater_mono a b c d h k =
    let x = greater_left c d in
    let y = greater_right c d in
    greater_le a b (greater c d) (omega arith) (omega arith)
