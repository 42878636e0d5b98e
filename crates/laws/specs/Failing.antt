-- A numbered list of tests, and the number of the first that fails.
-- Assumes nothing.
use Rattle.std.specs.Prelude.{ℕ, ◌<◌, ◌≡◌, refl, Bool, true, false, not, ◌&&◌, List, [], ◌∷◌, ◌++◌, eqb, ltb}
use Rattle.std.proofs.Common.{sym, ap, ◌∙◌, eqb-true, ltb-true}
use Rattle.std.proofs.lemmas.Bool.{eqb-false, not-true, not-false}
use Rattle.laws.specs.Booleans.{pick, split, clash, and_parts}

-- the number of the first test that fails, 0 where none does
unfoldable pub first_failing : List (ℕ × Bool) → ℕ
first_failing [] = 0
first_failing (x ∷ xs) = pick x.1 (first_failing xs) x.0

-- a return of the code, where r is what its test answered: no test is left, this test fails, or it passes and a later one answers
pub none_left : 0 ≡ first_failing []
unfolding first_failing
none_left = refl

pub fails : (n : ℕ) (b r : Bool) (xs : List (ℕ × Bool)) → r ≡ b → not r ≡ true → n ≡ first_failing ((n, b) ∷ xs)
unfolding first_failing
fails n b r xs e h = rw (sym e ∙ not-true r h)

pub passes : (n a : ℕ) (b r : Bool) (xs : List (ℕ × Bool)) → r ≡ b → not r ≡ false → a ≡ first_failing xs → a ≡ first_failing ((n, b) ∷ xs)
unfolding first_failing
passes n a b r xs e h k = rw (sym e ∙ not-false r h) k

-- the same of a test that passes where the code's answer is no
pub fails_not : (n : ℕ) (b r : Bool) (xs : List (ℕ × Bool)) → r ≡ b → r ≡ true → n ≡ first_failing ((n, not b) ∷ xs)
unfolding first_failing
fails_not n b r xs e h = rw (sym e ∙ h)

pub passes_not : (n a : ℕ) (b r : Bool) (xs : List (ℕ × Bool)) → r ≡ b → r ≡ false → a ≡ first_failing xs → a ≡ first_failing ((n, not b) ∷ xs)
unfolding first_failing
passes_not n a b r xs e h k = rw (sym e ∙ h) k

-- the test with number k, true where the list has none
abbrev pub test_of : ℕ → List (ℕ × Bool) → Bool
test_of k [] = true
test_of k (x ∷ xs) = pick (eqb k x.0) x.1 (test_of k xs)

-- no test has number 0, which says that none failed
abbrev pub numbered : List (ℕ × Bool) → Bool
numbered [] = true
numbered (x ∷ xs) = ltb 0 x.0 && numbered xs

first : (b : Bool) (k r : ℕ) → ltb 0 k ≡ true → pick b r k ≡ 0 → (b ≡ true) × (r ≡ 0)
first true k r n h = (refl, h)
first false k r n h = clash n (ap (λ j. ltb 0 j) h)

-- where the answer is 0, the test with any number passed, whatever the order of the list
pub passed : (l : List (ℕ × Bool)) → numbered l ≡ true → first_failing l ≡ 0 → (k : ℕ) → test_of k l ≡ true
unfolding first_failing
passed [] n h k = refl
passed (x ∷ xs) n h k =
    let m = and_parts (ltb 0 x.0) (numbered xs) n in
    let g = first x.1 x.0 (first_failing xs) m.0 h in
    split (eqb k x.0) (λ e. rw e g.0) (λ e. rw e (passed xs m.1 g.1 k))

-- every number of the list is below m
abbrev pub numbers_below : ℕ → List (ℕ × Bool) → Bool
numbers_below m [] = true
numbers_below m (x ∷ xs) = ltb x.0 m && numbers_below m xs

pub answer_below : (m : ℕ) (l : List (ℕ × Bool)) → 0 < m → numbers_below m l ≡ true → first_failing l < m
unfolding first_failing
answer_below m [] z h = z
answer_below m (x ∷ xs) z h =
    let w = and_parts (ltb x.0 m) (numbers_below m xs) h in
    split x.1 (λ e. rw e (answer_below m xs z w.1)) (λ e. rw e (ltb-true x.0 m w.0))

-- tests that pass leave the answer to those behind them
pub passed_append : (a b : List (ℕ × Bool)) → numbered a ≡ true → first_failing a ≡ 0 → first_failing (a ++ b) ≡ first_failing b
unfolding first_failing
passed_append [] b n h = refl
passed_append (x ∷ xs) b n h =
    let m = and_parts (ltb 0 x.0) (numbered xs) n in
    let g = first x.1 x.0 (first_failing xs) m.0 h in
    rw g.0 (passed_append xs b m.1 g.1)

-- a test that fails leaves nothing to those behind it
pub failed_append : (a b : List (ℕ × Bool)) → (first_failing a ≡ 0 → ⊥) → first_failing (a ++ b) ≡ first_failing a
unfolding first_failing
failed_append [] b h = absurd (h refl)
failed_append (x ∷ xs) b h = split x.1 (λ e. rw e (failed_append xs b (λ z. h (rw e z)))) (λ e. rw e)

-- a list whose answer is 0 has a front whose answer is 0
pub front_passes : (a b : List (ℕ × Bool)) → first_failing (a ++ b) ≡ 0 → first_failing a ≡ 0
front_passes a b h =
    split (eqb (first_failing a) 0)
    (λ e. eqb-true (first_failing a) 0 e)
    (λ e. sym (failed_append a b (eqb-false (first_failing a) 0 e)) ∙ h)
