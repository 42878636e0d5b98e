-- Four tests that must all hold: where one fails, and where the other three hold.
-- Assumes nothing.
use Rattle.laws.proofs.Prelude.{◌≡◌, refl, sym, Bool, true, false, ◌&&◌, and-false}

module _ (a b c d : Bool) where
  pub second_fails : b ≡ false → false ≡ (a && (b && (c && d)))
  second_fails e = rw e (sym (and-false a))

  pub third_fails : b ≡ true → c ≡ false → false ≡ (a && (b && (c && d)))
  third_fails e f = rw (e, f) (sym (and-false a))

  pub fourth_fails : b ≡ true → c ≡ true → d ≡ false → false ≡ (a && (b && (c && d)))
  fourth_fails e f g = rw (e, f, g) (sym (and-false a))

  pub first_left : b ≡ true → c ≡ true → d ≡ true → a ≡ (a && (b && (c && d)))
  first_left e f g = rw (e, f, g) (and_all a)
    where
      and_all : (x : Bool) → x ≡ (x && true)
      and_all true = refl
      and_all false = refl
