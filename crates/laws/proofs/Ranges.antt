-- `all` and `any` over the numbers below a bound, where the closure computes a test.
use Rattle.std.specs.Prelude.{ℕ, zero, suc, ◌+◌, ◌<◌, ◌≡◌, refl, Bool, true, false, ◌&&◌, ◌||◌, List}
use Rattle.std.specs.List.{list_all, list_any, range_with_len, FoldsTo}
use Rattle.std.specs.Iterator.{YieldsThen}
use Rattle.std.specs.Option.{MatchOption}
use Rattle.std.specs.Fn.{Called}
use denote.Param.Members.{Mut}
use Rattle.std.specs.declared.option.Option.{Option}
use Rattle.std.proofs.Common.{sym, ap, ◌∙◌, arith}
use Rattle.std.proofs.lemmas.Iterator.{YieldsList}
use Rattle.std.proofs.lemmas.Iterator.Search.{all_from_yields_List, any_from_yields_List}
use Rattle.laws.specs.Below.{all_below, any_below, all_first, any_first, all_same, any_same}

all_range : (a n : ℕ) (p : ℕ → Bool) → list_all p (range_with_len a n) ≡ all_below n (λ k. p (a + k))
unfolding all_below
all_range a zero p = refl
all_range a (suc n) p =
    let e : a + 0 ≡ a = omega arith in
    rw (all_first n (λ k. p (a + k)), e)
    (ap (λ b. p a && b) (all_range (a + 1) n p ∙ all_same n (λ k. p (a + 1 + k)) (λ k. p (a + suc k)) (λ k l. ap p (omega arith))))

any_range : (a n : ℕ) (p : ℕ → Bool) → list_any p (range_with_len a n) ≡ any_below n (λ k. p (a + k))
unfolding any_below
any_range a zero p = refl
any_range a (suc n) p =
    let e : a + 0 ≡ a = omega arith in
    rw (any_first n (λ k. p (a + k)), e)
    (ap (λ b. p a || b) (any_range (a + 1) n p ∙ any_same n (λ k. p (a + 1 + k)) (λ k. p (a + suc k)) (λ k l. ap p (omega arith))))

zero_first : (n : ℕ) (p : ℕ → Bool) (k : ℕ) → k < n → p (0 + k) ≡ p k
zero_first n p k l = ap p (omega arith)

module _ {S F : Type 0} {steps : S → Option ℕ → S → Type 0} {g : Mut F (ℕ × Unit {0}) Bool} {s : S} (n : ℕ) (p : ℕ → Bool) (u : S) (f : F) (r : Bool) where
  pub all_of_range : (xs : List ℕ) × (o : Option ℕ) × (j : F) × YieldsThen steps s xs o u × FoldsTo (λ a x b. Called g a (x, tt) true b) f xs j × MatchOption o (r ≡ true) (λ x. (r ≡ false) × ((h : F) × Called g j (x, tt) false h))
      → YieldsList steps (λ x. x) s (range_with_len 0 n) → ((x : ℕ) (b : Bool) (q : F) → Called g f (x, tt) b q → (q ≡ f) × (b ≡ p x)) → r ≡ all_below n p
  all_of_range w y k = all_from_yields_List p u f r w y k ∙ all_range 0 n p ∙ all_same n _ p (zero_first n p)

  pub any_of_range : (xs : List ℕ) × (o : Option ℕ) × (j : F) × YieldsThen steps s xs o u × FoldsTo (λ a x b. Called g a (x, tt) false b) f xs j × MatchOption o (r ≡ false) (λ x. (r ≡ true) × ((h : F) × Called g j (x, tt) true h))
      → YieldsList steps (λ x. x) s (range_with_len 0 n) → ((x : ℕ) (b : Bool) (q : F) → Called g f (x, tt) b q → (q ≡ f) × (b ≡ p x)) → r ≡ any_below n p
  any_of_range w y k = any_from_yields_List p u f r w y k ∙ any_range 0 n p ∙ any_same n _ p (zero_first n p)
