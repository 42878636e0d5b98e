-- Holders of coins: only the sheet's transactions count, and one of them ends the coin or none does.
-- Assumes nothing.
use Rattle.laws.proofs.Prelude.{ℕ, zero, suc, ◌+◌, ◌≤◌, ◌<◌, ◌≡◌, refl, sym, ap, ◌∙◌, Bool, ◌&&◌, List, ◌⊎◌, inl, inr, eqb, ltb, arith, le_antisymm, pick, split, either}
use Rattle.laws.proofs.Prelude.{any_same, bit, set_below, set_bit, climb_step}
use native.Mathlib.Numerals.{add-one}
use Rattle.sheet.specs.Field.{count, parent, opening}
use Rattle.ledger.specs.Coin.{nobody}
use Rattle.readings.specs.Holder.{confirmed_child, ends_coin, payee_below, holder}
use Rattle.readings.specs.Forms.Holder.{coin_from, coin_end}

payee_same : (n : ℕ) (f g : ℕ → Bool) (a b : ℕ → ℕ) → ((k : ℕ) → k < n → f k ≡ g k) → ((k : ℕ) → k < n → a k ≡ b k) → payee_below n f a ≡ payee_below n g b
unfolding payee_below
payee_same zero f g a b x y = refl
payee_same (suc n) f g a b x y =
    rw (x n (omega arith), y n (omega arith), payee_same n f g a b (λ k l. x k (omega arith)) (λ k l. y k (omega arith)))

-- two tests for what is confirmed, and two functions for the payees, that agree on the sheet's transactions
module _ (s : List ℕ) (f g : ℕ → Bool) (a b : ℕ → ℕ) (same : (k : ℕ) → k < count s → f k ≡ g k) (pays : (k : ℕ) → k < count s → a k ≡ b k) where
  child_same : (t : ℕ) → confirmed_child s f t ≡ confirmed_child s g t
  unfolding confirmed_child
  child_same t = any_same (count s) (λ k. eqb (parent s k) t && f k) (λ k. eqb (parent s k) t && g k) (λ k l. rw (same k l))

  ends_same : (coin t : ℕ) → t < count s → ends_coin s f coin t ≡ ends_coin s g coin t
  unfolding ends_coin
  ends_same coin t l = rw (same t l, child_same t)

  pub holder_same : (coin : ℕ) → holder s f a coin ≡ holder s g b coin
  unfolding holder
  holder_same coin = payee_same (count s) (ends_coin s f coin) (ends_coin s g coin) a b (ends_same coin) pays

-- one below n is the last that passes, whatever the payees are, or none passes
last_cases : (n : ℕ) (f : ℕ → Bool)
    → ((k : ℕ) × (k < n) × ((a : ℕ → ℕ) → payee_below n f a ≡ a k)) ⊎ ((a : ℕ → ℕ) → payee_below n f a ≡ nobody)
unfolding payee_below
last_cases zero f = inr (λ a. refl)
last_cases (suc n) f =
    split (f n)
    (λ y. inl (n, omega arith, λ a. rw y))
    (λ y.
    either (last_cases n f)
    (λ w. inl (w.0, omega (arith, w.1), λ a. rw y (w.2 a)))
    (λ w. inr (λ a. rw y (w a))))

-- the holder by the number of the transaction that ends the coin
module _ (s : List ℕ) (confirmed : ℕ → Bool) (a : ℕ → ℕ) (coin : ℕ) (few : count s ≤ 32) where
  pub end_found : coin_end s confirmed coin < 32 → (coin_end s confirmed coin < count s) × (holder s confirmed a coin ≡ a (coin_end s confirmed coin))
  unfolding coin_end holder
  end_found h =
      either (last_cases (count s) (ends_coin s confirmed coin))
      (λ w. (rw (w.2 (λ t. t)) w.1, rw (w.2 (λ t. t)) (w.2 a)))
      (λ w. absurd (omega (arith, h, w (λ t. t))))

  pub end_none : 32 ≤ coin_end s confirmed coin → holder s confirmed a coin ≡ nobody
  unfolding coin_end holder
  end_none h =
      either (last_cases (count s) (ends_coin s confirmed coin))
      (λ w. absurd (omega (arith, few, h, w.1, w.2 (λ t. t))))
      (λ w. w a)

-- the same over the set m of the confirmed, where r is that number
module _ (s : List ℕ) (f : ℕ → Bool) (a : ℕ → ℕ) (coin m r : ℕ) (few : count s ≤ 32) (is_set : m ≡ set_below (count s) f) (ends : r ≡ coin_end s (bit m) coin) where
  over_set : holder s (bit m) a coin ≡ holder s f a coin
  over_set = holder_same s (bit m) f a a (λ k l. ap (λ x. bit x k) is_set ∙ set_bit (count s) f few k l) (λ k l. refl) coin

  pub held_in : r < 32 → r < count s
  held_in h = rw ends (end_found s (bit m) a coin few (rw ends at h)).0

  pub held_by : r < 32 → a r ≡ holder s f a coin
  held_by h = ap a ends ∙ sym (end_found s (bit m) a coin few (rw ends at h)).1 ∙ over_set

  pub held_none : 32 ≤ r → nobody ≡ holder s f a coin
  held_none h = sym (end_none s (bit m) a coin few (rw ends at h)) ∙ over_set

-- the loop that finds it: its start, a turn, its end
pub end_start : (f : ℕ → Bool) → 255 ≡ payee_below 0 f (λ t. t)
unfolding payee_below
end_start f = refl

pub end_more : (n : ℕ) (f : ℕ → Bool) (m r : ℕ) → m ≡ payee_below n f (λ t. t) → r ≡ pick (f n) n m → r ≡ payee_below (n + 1) f (λ t. t)
unfolding payee_below
end_more n f m r e h = rw (add-one, h, e)

pub end_done : (k n : ℕ) (f : ℕ → Bool) (m : ℕ) → k ≤ n → n ≤ k → m ≡ payee_below k f (λ t. t) → m ≡ payee_below n f (λ t. t)
end_done k n f m l h e = rw (le_antisymm h l) e

-- the coin, a step up the sheet at a time
pub coin_step : (s : List ℕ) (first t : ℕ) → coin_from s first t ≡ pick (opening s t) t (pick (ltb (parent s t) t) (coin_from s first (parent s t)) first)
unfolding coin_from
coin_step s first t = climb_step (parent s) (λ k above. pick (opening s k) k above) first t
