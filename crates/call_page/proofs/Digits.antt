-- Decimal digits: the last one and those before it, how many they are, and how they are made from the last one on.
-- Assumes nothing.
use Rattle.laws.proofs.Prelude.{ℕ, zero, suc, ◌-◌, ◌/◌, ◌%◌, ◌^◌, ◌≤◌, ◌<◌, ◌≡◌, refl, sym, ap, ◌∙◌, true, false, List, [], ◌∷◌, ◌++◌, append-nil, ltb, length, take}
use Rattle.laws.proofs.Prelude.{drop, set, length-append, length-set, length-drop, ltb-true, ltb-false, lt-ltb, le-ltb, arith, not-suc-le-zero, le_of_suc-le-suc}
use Rattle.laws.proofs.Prelude.{take_all, split}
use native.Mathlib.Nat.{pow-succ'}
use lib.ListN.{drop_of_length-le}
use lib.Seq.{append_snoc}
use Rattle.call_page.specs.Line.{digit, digits_in, digits}

-- a number of one digit, and of more
pub one_digit : (k x : ℕ) → ltb x 10 ≡ true → digits_in (suc k) x ≡ digit x ∷ []
unfolding digits_in
one_digit k x e = rw (e, digits_in)

pub more_digits : (k x : ℕ) → ltb x 10 ≡ false → digits_in (suc k) x ≡ digits_in k (x / 10) ++ (digit (x % 10) ∷ [])
unfolding digits_in
more_digits k x e = rw (e, digits_in)

-- as many as there are, whatever more is allowed
enough : (k m x : ℕ) → x < k → x < m → digits_in k x ≡ digits_in m x
enough zero m x h l = absurd (not-suc-le-zero h)
enough (suc k) zero x h l = absurd (not-suc-le-zero l)
enough (suc k) (suc m) x h l =
    split (ltb x 10)
    (λ y. one_digit k x y ∙ sym (one_digit m x y))
    (λ y.
    let t = ltb-false x 10 y in
    more_digits k x y ∙ ap (λ r. r ++ (digit (x % 10) ∷ [])) (enough k m (x / 10) (omega (arith, t)) (omega (arith, t))) ∙ sym (more_digits m x y))

pub digits_one : (x : ℕ) → x ≤ 9 → digits x ≡ digit x ∷ []
unfolding digits
digits_one x h = one_digit x x (lt-ltb x 10 (omega arith))

pub digits_more : (x : ℕ) → 9 < x → digits x ≡ digits (x / 10) ++ (digit (x % 10) ∷ [])
unfolding digits
digits_more x h =
    more_digits x x (le-ltb x 10 (omega arith))
    ∙ ap (λ r. r ++ (digit (x % 10) ∷ [])) (enough x (suc (x / 10)) (x / 10) (omega arith) (omega arith))

length_more : (x : ℕ) → 9 < x → length (digits x) ≡ suc (length (digits (x / 10)))
length_more x h = ap length (digits_more x h) ∙ length-append (digits (x / 10)) _ ∙ omega arith

-- at most k digits below 10 ^ k, and one at least
pub digits_few : (k x : ℕ) → x < 10 ^ suc k → length (digits x) ≤ suc k
digits_few zero x h = rw (digits_one x (omega arith)) (omega arith)
digits_few (suc k) x h =
    split (ltb x 10)
    (λ y. rw (digits_one x (omega (arith, ltb-true x 10 y))) (omega arith))
    (λ y.
    let t = ltb-false x 10 y in
    let p = pow-succ' 10 (suc k) in
    let l : x / 10 < 10 ^ suc k = omega (arith, p, h) in
    omega (arith, length_more x (omega (arith, t)), digits_few k (x / 10) l))

pub digits_some : (x : ℕ) → 1 ≤ length (digits x)
digits_some x =
    split (ltb x 10)
    (λ y. rw (digits_one x (omega (arith, ltb-true x 10 y))) (omega arith))
    (λ y. omega (arith, length_more x (omega (arith, ltb-false x 10 y))))

-- a store before what is kept
stored : (l : List ℕ) (j v : ℕ) → j < length l → drop j (set l j v) ≡ v ∷ drop (suc j) l
stored [] j v h = absurd (not-suc-le-zero h)
stored (y ∷ l) zero v h = refl
stored (y ∷ l) (suc j) v h = stored l j v (le_of_suc-le-suc h)

-- the digits of x are made from the last one on: those from place `at` of ten, behind those of the rest
pub record Made (x : ℕ) (made : List ℕ) (at rest : ℕ) : Type 0 where
  pub long : length made ≡ 10
  pub within : at ≤ 10
  pub few : length (digits x) ≤ 10
  pub is : digits rest ++ drop at made ≡ digits x

module _ (x : ℕ) (made : List ℕ) where
  pub made_none : length made ≡ 10 → x < 4294967296 → Made x made 10 x
  made_none e h =
      record {
        long = e;
        within = omega arith;
        few = digits_few 9 x (omega arith);
        is = ap (λ r. digits x ++ r) (drop_of_length-le made {i = 10} (omega arith)) ∙ append-nil (digits x);
      }

  module _ (at rest : ℕ) (m : Made x made at rest) where
    -- there are places for the digits that are left
    pub made_room : length (digits rest) ≤ at
    made_room =
        omega (arith, m.long, m.within, m.few, length-append (digits rest) (drop at made), ap length m.is, length-drop at made)

    kept : (v : ℕ) → 1 ≤ at → drop (at - 1) (set made (at - 1) v) ≡ v ∷ drop at made
    kept v h =
        let e : suc (at - 1) ≡ at = omega arith in
        stored made (at - 1) v (omega (arith, m.long, m.within)) ∙ ap (λ n. v ∷ drop n made) e

    pub made_long : (v : ℕ) → length (set made (at - 1) v) ≡ 10
    made_long v = length-set made (at - 1) v ∙ m.long

    pub made_more : (v : ℕ) → 9 < rest → v ≡ digit (rest % 10) → Made x (set made (at - 1) v) (at - 1) (rest / 10)
    made_more v h e =
        let k = kept v (omega (arith, made_room, digits_some rest)) in
        record {
          long = made_long v;
          within = omega (arith, m.within);
          few = m.few;
          is =
              rw (k, e)
              (sym (append_snoc (digits (rest / 10)) (digit (rest % 10)) (drop at made))
              ∙ ap (λ r. r ++ drop at made) (sym (digits_more rest h)) ∙ m.is);
        }

    -- the part from the first digit to the end
    pub made_all : (v : ℕ) → rest ≤ 9 → v ≡ digit rest → take (10 - (at - 1)) (drop (at - 1) (set made (at - 1) v)) ≡ digits x
    made_all v h e =
        take_all (10 - (at - 1)) (drop (at - 1) (set made (at - 1) v)) (omega (arith, made_long v, length-drop (at - 1) (set made (at - 1) v)))
        ∙ kept v (omega (arith, made_room, digits_some rest))
        ∙ rw e (ap (λ r. r ++ drop at made) (sym (digits_one rest h)) ∙ m.is)
