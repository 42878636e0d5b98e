-- What the plain ledger takes, and what it keeps then.
-- Assumes nothing.
use Rattle.laws.proofs.Prelude.{ℕ, ◌<◌, ◌≡◌, refl, true, false, not, ◌&&◌, List, ◌∷◌, eqb, ltb, eqb-true, ltb-true, eq-eqb, lt-ltb, not-true, Option, none, some, split}
use Rattle.laws.proofs.Prelude.{clash, and_parts}
use Rattle.sheet.specs.Field.{parent, opening}
use Rattle.ledger.specs.Entry.{Entry}
use Rattle.ledger.specs.Coin.{coin_of}
use Rattle.ledger.specs.Ledger.{Kept, lock_from, fits, keep, enter}

module _ (s : List ℕ) (per_day : ℕ) (e : Entry) where
  -- "An opening needs none kept for its coin .. The lock .. must be below b."
  pub opening_fits : opening s e.transaction ≡ true → lock_from s per_day 0 e.transaction < e.block → fits s per_day none e ≡ true
  unfolding fits
  opening_fits o l = rw (o, lt-ltb (lock_from s per_day 0 e.transaction) e.block l)

  -- ".. a spend its parent's entry kept, in a block p. The lock .. must be below b."
  pub spend_fits : (last : Entry) → opening s e.transaction ≡ false → last.transaction ≡ parent s e.transaction
      → lock_from s per_day last.block e.transaction < e.block → fits s per_day (some last) e ≡ true
  unfolding fits
  spend_fits last o h l =
      rw (o, eq-eqb last.transaction (parent s e.transaction) h, lt-ltb (lock_from s per_day last.block e.transaction) e.block l)

  -- "Then the entry is kept in place of the coin's last one"
  pub enter_next : (l : List Entry) (kept : Kept) → fits s per_day (kept (coin_of s e.transaction)) e ≡ true → enter s per_day (e ∷ l) kept ≡ enter s per_day l (keep s e kept)
  unfolding enter
  enter_next l kept h = rw (h, enter)

module _ (s : List ℕ) (e : Entry) (kept : Kept) (coin : ℕ) where
  pub keep_own : eqb coin (coin_of s e.transaction) ≡ true → keep s e kept coin ≡ some e
  unfolding keep
  keep_own h = rw h

  pub keep_other : eqb coin (coin_of s e.transaction) ≡ false → keep s e kept coin ≡ kept coin
  unfolding keep
  keep_other h = rw h

-- what an entry that fits was found over: none, or its parent's entry
pub data Fit (s : List ℕ) (per_day : ℕ) (last : Option Entry) (e : Entry) : Type 0 where
  opens : last ≡ none → opening s e.transaction ≡ true → lock_from s per_day 0 e.transaction < e.block → Fit s per_day last e
  spends : (a : Entry) → last ≡ some a → opening s e.transaction ≡ false → a.transaction ≡ parent s e.transaction → lock_from s per_day a.block e.transaction < e.block → Fit s per_day last e

module _ (s : List ℕ) (per_day : ℕ) (e : Entry) where
  pub fits_says : (last : Option Entry) → fits s per_day last e ≡ true → Fit s per_day last e
  unfolding fits
  fits_says none h =
      let w = and_parts (opening s e.transaction) (ltb (lock_from s per_day 0 e.transaction) e.block) h in
      opens refl w.0 (ltb-true (lock_from s per_day 0 e.transaction) e.block w.1)
  fits_says (some a) h =
      let w = and_parts (not (opening s e.transaction)) (eqb a.transaction (parent s e.transaction) && ltb (lock_from s per_day a.block e.transaction) e.block) h in
      let v = and_parts (eqb a.transaction (parent s e.transaction)) (ltb (lock_from s per_day a.block e.transaction) e.block) w.1 in
      spends a refl (not-true (opening s e.transaction) w.0) (eqb-true a.transaction (parent s e.transaction) v.0) (ltb-true (lock_from s per_day a.block e.transaction) e.block v.1)

  refused : (l : List Entry) (kept : Kept) → fits s per_day (kept (coin_of s e.transaction)) e ≡ false → (enter s per_day (e ∷ l) kept).accepts ≡ false
  unfolding enter
  refused l kept h = rw (h, enter)

  -- a list that the ledger takes: its first entry fits, and the rest is taken over it
  pub enter_parts : (l : List Entry) (kept : Kept) → (enter s per_day (e ∷ l) kept).accepts ≡ true
      → (fits s per_day (kept (coin_of s e.transaction)) e ≡ true) × ((enter s per_day l (keep s e kept)).accepts ≡ true)
  enter_parts l kept h =
      split (fits s per_day (kept (coin_of s e.transaction)) e)
      (λ y. (y, rw (enter_next s per_day e l kept y) at h))
      (λ y. clash h (refused l kept y))
