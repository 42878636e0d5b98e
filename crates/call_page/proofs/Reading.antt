-- Texts read back: blanks are trimmed, digits give their number, names their payee, never its height.
-- Assumes nothing.
use Rattle.laws.proofs.Prelude.{ℕ, zero, suc, ◌+◌, ◌-◌, ◌*◌, ◌/◌, ◌%◌, ◌≤◌, ◌<◌, ◌≡◌, refl, sym, ◌∙◌, Bool, true, false, ◌&&◌, List, [], ◌∷◌, ◌++◌, ◌⊎◌, eqb, ltb, length}
use Rattle.laws.proofs.Prelude.{eqb-true, ltb-true, ltb-false, ne_eqb, lt-ltb, arith, not-suc-le-zero, true≢false, split, either, and_parts, fails_by, all_below, every}
use Rattle.position.proofs.Rules.{never, unconfirmed}
use Rattle.laws.specs.Same.{same, same_equal, equal_same}
use Rattle.call_page.specs.Line.{blank, blanks, digit, digits_in, digits, column}
use Rattle.call_page.specs.Page.{alice_text, bob_text, carol_text, contract_text, dash_text, never_text, payee_text, height_text}
use Rattle.call_page.specs.Claim.{trimmed, number_from, payee_of, height_of}
use Rattle.call_page.proofs.Digits.{one_digit, more_digits}

-- a character from 0 to 9
is_digit : ℕ → Bool
is_digit c = ltb 47 c && ltb c 58

every_append : (f : ℕ → Bool) (a b : List ℕ) → every f a ≡ true → every f b ≡ true → every f (a ++ b) ≡ true
unfolding every
every_append f [] b h l = l
every_append f (x ∷ a) b h l =
    let w = and_parts (f x) (every f a) h in rw (w.0, every_append f a b w.1 l)

digit_is : (d : ℕ) → d < 10 → every is_digit (digit d ∷ []) ≡ true
unfolding every is_digit digit
digit_is d h = rw (lt-ltb 47 (48 + d) (omega arith), lt-ltb (48 + d) 58 (omega arith))

digits_are : (k x : ℕ) → every is_digit (digits_in k x) ≡ true
unfolding every digits_in
digits_are zero x = refl
digits_are (suc k) x =
    split (ltb x 10)
    (λ y. rw (one_digit k x y) (digit_is x (ltb-true x 10 y)))
    (λ y. rw (more_digits k x y) (every_append is_digit (digits_in k (x / 10)) (digit (x % 10) ∷ []) (digits_are k (x / 10)) (digit_is (x % 10) (omega arith))))

-- blanks before a text go, a digit stays
trimmed_blanks : (n : ℕ) (text : List ℕ) → trimmed (blanks n ++ text) ≡ trimmed text
unfolding trimmed blanks
trimmed_blanks zero text = refl
trimmed_blanks (suc n) text = trimmed_blanks n text

trimmed_digits : (l : List ℕ) → every is_digit l ≡ true → trimmed l ≡ l
unfolding trimmed every is_digit
trimmed_digits [] h = refl
trimmed_digits (x ∷ l) h =
    let w = and_parts (ltb 47 x && ltb x 58) (every is_digit l) h in
    let b = and_parts (ltb 47 x) (ltb x 58) w.0 in
    let big = ltb-true 47 x b.0 in
    rw (ne_eqb x blank (λ e. omega (arith, e, big)))

-- digits give their number
number_append : (n : ℕ) (a b : List ℕ) → number_from n (a ++ b) ≡ number_from (number_from n a) b
unfolding number_from
number_append n [] b = refl
number_append n (x ∷ a) b = number_append (10 * n + (x - 48)) a b

number_one : (n d : ℕ) → number_from n (digit d ∷ []) ≡ 10 * n + d
unfolding number_from digit
number_one n d = omega arith

number_in : (k x : ℕ) → x < k → number_from 0 (digits_in k x) ≡ x
number_in zero x h = absurd (not-suc-le-zero h)
number_in (suc k) x h =
    split (ltb x 10)
    (λ y. rw (one_digit k x y) (number_one 0 x ∙ omega arith))
    (λ y.
    let b = ltb-false x 10 y in
    let e = number_in k (x / 10) (omega (arith, b, h)) in
    rw (more_digits k x y) (number_append 0 (digits_in k (x / 10)) (digit (x % 10) ∷ []) ∙ rw e (number_one (x / 10) (x % 10) ∙ omega arith)))

-- the three sorts of text, each in a column
pub read_number_lem : (w x : ℕ) → number_from 0 (trimmed (column w (digits x))) ≡ x
unfolding column digits
read_number_lem w x =
    rw (trimmed_blanks (w - length (digits x)) (digits x), trimmed_digits (digits x) (digits_are (suc x) x)) (number_in (suc x) x (omega arith))

digits_not_never : (x : ℕ) → same (digits x) never_text ≡ false
unfolding digits every is_digit
digits_not_never x =
    fails_by (same (digits x) never_text)
    (λ e. let f : every is_digit never_text ≡ true = rw (same_equal (digits x) never_text e) at (digits_are (suc x) x) in true≢false (sym f))

pub read_height : (w x : ℕ) → height_of (trimmed (column w (height_text x))) ≡ x
unfolding column height_text height_of digits trimmed
read_height w x =
    split (eqb x never)
    (λ y. rw (y, trimmed_blanks (w - 5) never_text, equal_same never_text) (sym (eqb-true x never y)))
    (λ y. rw (y, trimmed_blanks (w - length (digits x)) (digits x), trimmed_digits (digits x) (digits_are (suc x) x), digits_not_never x) (number_in (suc x) x (omega arith)))

-- a payee that is a destination or nobody
pub read_payee : (w x : ℕ) → (x ≤ 3) ⊎ (x ≡ unconfirmed) → payee_of (trimmed (column w (payee_text x))) ≡ x
unfolding column payee_text payee_of trimmed same all_below
read_payee w zero h = rw (trimmed_blanks (w - 5) alice_text)
read_payee w (suc zero) h = rw (trimmed_blanks (w - 3) bob_text)
read_payee w (suc (suc zero)) h = rw (trimmed_blanks (w - 8) contract_text)
read_payee w (suc (suc (suc zero))) h = rw (trimmed_blanks (w - 5) carol_text)
read_payee w (suc (suc (suc (suc x)))) h =
    either h
    (λ l. absurd (omega (arith, l)))
    (λ e. rw (e, trimmed_blanks (w - 1) dash_text))
