-- Recursion up a chain of falling numbers.
-- Assumes nothing.
use Prim.Native.Nat.{ℕ, zero, suc, ◌<◌}
use Rattle.std.specs.Prelude.{◌≡◌, Bool, true, false, ltb}
use Rattle.std.proofs.Math.Path.{refl, ap}
use Rattle.std.proofs.Common.{◌∙◌, ltb-true, not-suc-le-zero, arith}
use Rattle.laws.specs.Booleans.{pick}

module _ {A : Type 0} (up : ℕ → ℕ) (f : ℕ → A → A) (a : A) where
  -- at most k numbers of the chain
  unfoldable pub climb_in : ℕ → ℕ → A
  climb_in zero t = a
  climb_in (suc k) t = let above = climb_in k (up t) in f t (pick (ltb (up t) t) above a)

  -- f at t, over the same at `up t` where that is a lower number, else over a
  unfoldable pub climb : ℕ → A
  climb t = climb_in (suc t) t

  both_ways : (t : ℕ) (x y : A) → (up t < t → x ≡ y) → (b : Bool) → ltb (up t) t ≡ b → pick b x a ≡ pick b y a
  both_ways t x y h true e = h (ltb-true _ _ e)
  both_ways t x y h false e = refl

  enough : (k j t : ℕ) → t < k → t < j → climb_in k t ≡ climb_in j t
  unfolding climb_in
  enough zero j t l m = absurd (not-suc-le-zero l)
  enough (suc k) zero t l m = absurd (not-suc-le-zero m)
  enough (suc k) (suc j) t l m =
      ap (f t) (both_ways t _ _ (λ h. enough k j (up t) (omega arith) (omega arith)) (ltb (up t) t) refl)

  -- the recursion without its bound
  pub climb_step : (t : ℕ) → climb t ≡ f t (pick (ltb (up t) t) (climb (up t)) a)
  unfolding climb climb_in
  climb_step t = ap (f t) (both_ways t _ _ (λ h. enough t (suc (up t)) (up t) h (omega arith)) (ltb (up t) t) refl)

  same_way : (b : Bool) (x : A) → x ≡ a → pick b x a ≡ a
  same_way true x e = e
  same_way false x e = refl

  still : ((t : ℕ) → f t a ≡ a) → (k t : ℕ) → climb_in k t ≡ a
  unfolding climb_in
  still h zero t = refl
  still h (suc k) t = ap (f t) (same_way (ltb (up t) t) (climb_in k (up t)) (still h k (up t))) ∙ h t

  -- where no number of the chain changes a
  pub climb_still : ((t : ℕ) → f t a ≡ a) → (t : ℕ) → climb t ≡ a
  unfolding climb
  climb_still h t = still h (suc t) t
