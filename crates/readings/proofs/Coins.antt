-- The coin of a transaction: its own number for an opening, its parent's coin for a spend; it stands above the transaction.
-- Assumes nothing.
use Rattle.laws.proofs.Prelude.{ℕ, zero, suc, ◌<◌, ◌≡◌, refl, sym, ◌∙◌, true, false, List, lt-ltb, arith, pick, split, climb_in, climb, climb_step}
use Rattle.sheet.specs.Field.{count, parent, opening}
use Rattle.sheet.specs.Checked.{Checked}
use Rattle.slots.proofs.Parents.{parent_lower, parent_below, parent_has}
use Rattle.slots.proofs.Ancestors.{Above, here, up}
use Rattle.ledger.specs.Coin.{coin_of}

pub coin_opening : (s : List ℕ) (t : ℕ) → opening s t ≡ true → coin_of s t ≡ t
unfolding coin_of
coin_opening s t o = climb_step (parent s) (λ k above. pick (opening s k) k above) t t ∙ rw o

module _ (s : List ℕ) (ok : Checked s) where
  -- an opening is reached before what the recursion starts from
  reached : (a b k t : ℕ) → t < k → t < count s
      → climb_in (parent s) (λ j above. pick (opening s j) j above) a k t ≡ climb_in (parent s) (λ j above. pick (opening s j) j above) b k t
  unfolding climb_in
  reached a b zero t h l = absurd (omega arith)
  reached a b (suc k) t h l =
      split (opening s t)
      (λ o. rw o)
      (λ o. let d = parent_lower ok t l o in rw (o, lt-ltb (parent s t) t d) (reached a b k (parent s t) (omega arith) (omega arith)))

  pub coin_spend : (t : ℕ) → t < count s → opening s t ≡ false → coin_of s t ≡ coin_of s (parent s t)
  unfolding coin_of climb
  coin_spend t l o =
      climb_step (parent s) (λ k above. pick (opening s k) k above) t t
      ∙ rw (o, lt-ltb (parent s t) t (parent_lower ok t l o)) (reached t (parent s t) (suc (parent s t)) (parent s t) (omega arith) (parent_below ok t l o))

  above_in : (a k t : ℕ) → t < k → t < count s → Above s (climb_in (parent s) (λ j above. pick (opening s j) j above) a k t) t
  unfolding climb_in
  above_in a zero t h l = absurd (omega arith)
  above_in a (suc k) t h l =
      split (opening s t)
      (λ o. rw o here)
      (λ o. let d = parent_lower ok t l o in rw (o, lt-ltb (parent s t) t d) (up d (above_in a k (parent s t) (omega arith) (omega arith))))

  pub coin_above : (t : ℕ) → t < count s → Above s (coin_of s t) t
  unfolding coin_of climb
  coin_above t l = above_in t (suc t) t (omega arith) l

  -- all of one line are of one coin
  pub coin_line : {x t : ℕ} → Above s x t → t < count s → coin_of s x ≡ coin_of s t
  coin_line here l = refl
  coin_line (up {t = t} h r) l = coin_line r (omega arith) ∙ sym (coin_spend t l (parent_has ok t l h))
