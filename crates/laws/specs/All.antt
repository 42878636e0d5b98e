-- What holds of every element of a list.
-- Assumes nothing.
use Rattle.std.specs.Prelude.{ℕ, zero, suc, ◌≡◌, List, [], ◌∷◌, ◌++◌}
use Rattle.std.proofs.Common.{arith}
use Rattle.std.proofs.Math.Option.{Option, none, some}
use Rattle.std.proofs.Math.ListN.{get_elem?}

pub data All {A : Type 0} (P : A → Type 0) : List A → Type 0 where
  empty : All P []
  also : {x : A} {l : List A} → P x → All P l → All P (x ∷ l)

pub all_append : {A : Type 0} {P : A → Type 0} {a b : List A} → All P a → All P b → All P (a ++ b)
all_append empty r = r
all_append (also h t) r = also h (all_append t r)

pub all_weaken : {A : Type 0} {P Q : A → Type 0} → ((x : A) → P x → Q x) → {l : List A} → All P l → All Q l
all_weaken f empty = empty
all_weaken f (also {x = x} h t) = also (f x h) (all_weaken f t)

pub none_some : {A X : Type 0} {x : A} → ◌≡◌ {A = Option A} none (some x) → X
none_some h = let z : ◌≡◌ {A = ℕ} 0 1 = cc in absurd (omega arith)

pub some_same : {A : Type 0} {x y : A} → ◌≡◌ {A = Option A} (some x) (some y) → x ≡ y
some_same h = cc

-- at each place
pub all_place : {A : Type 0} {P : A → Type 0} {l : List A} → All P l → (i : ℕ) (x : A) → get_elem? l i ≡ some x → P x
all_place empty i x e = none_some e
all_place (also h t) zero x e = rw (some_same e) at h
all_place (also h t) (suc i) x e = all_place t i x e
