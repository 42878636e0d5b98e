-- The words of `Once` by tests over a list's places, for computed examples.
-- Assumes nothing.
use Rattle.laws.proofs.Prelude.{ℕ, zero, suc, ◌<◌, ◌≡◌, refl, Bool, true, not, ◌&&◌, ◌||◌, List, [], ◌∷◌, eqb, ltb, leb, length, get_or, eqb-true, ltb-true, leb-true}
use Rattle.laws.proofs.Prelude.{eq-eqb, le-leb, arith, split, and_parts, none_some, some_same, all_below, any_below, all_at, any_found, any_some}
use Rattle.position.proofs.Rules.{count, parent, opening, Entry, coin_of, block_of, is_confirmed, lock_height_in}
use Rattle.position.specs.declared.Position.{Position}
use Rattle.claim_ledger.specs.Once.{Stands, OpenedOnce, SpentOnce, SpentAfter, NoEarlyLock}

-- the entry at a place
abbrev pub entry_at : List Entry → ℕ → Entry
entry_at l i = get_or l i (record { transaction = 0; destination = 0; block = 0 })

-- what stands at a place
pub place_low : (l : List Entry) (i : ℕ) (e : Entry) → Stands l i e → (i < length l) × (entry_at l i ≡ e)
place_low [] i e h = none_some h
place_low (x ∷ l) zero e h = (omega arith, some_same h)
place_low (x ∷ l) (suc i) e h = let w = place_low l i e h in (omega (arith, w.0), w.1)

pub place_at : (l : List Entry) (i : ℕ) → i < length l → Stands l i (entry_at l i)
place_at [] i h = absurd (omega arith)
place_at (x ∷ l) zero h = refl
place_at (x ∷ l) (suc i) h = place_at l i (omega arith)

-- no two entries pass the test together
unfoldable pub apart : (Entry → Entry → Bool) → List Entry → Bool
apart p l = all_below (length l) (λ i. all_below (length l) (λ j. not (p (entry_at l i) (entry_at l j)) || eqb i j))

apart_places : (p : Entry → Entry → Bool) (l : List Entry) → apart p l ≡ true
    → (i j : ℕ) (e f : Entry) → Stands l i e → Stands l j f → p e f ≡ true → i ≡ j
unfolding apart
apart_places p l h i j e f a b c =
    let v = place_low l i e a in
    let w = place_low l j f b in
    let row = all_at (length l) (λ k. all_below (length l) (λ m. not (p (entry_at l k) (entry_at l m)) || eqb k m)) h i v.0 in
    let cell = all_at (length l) (λ m. not (p (entry_at l i) (entry_at l m)) || eqb i m) row j w.0 in
    eqb-true i j (rw (v.1, w.1, c) at cell)

module _ (s : List ℕ) where
  -- both open one coin
  unfoldable pub open_both : Entry → Entry → Bool
  open_both e f = opening s e.transaction && (opening s f.transaction && eqb (coin_of s f.transaction) (coin_of s e.transaction))

  -- both spend one output
  unfoldable pub spend_both : Entry → Entry → Bool
  spend_both e f = not (opening s f.transaction) && eqb (parent s f.transaction) (parent s e.transaction)

  pub opened_by : (l : List Entry) → apart open_both l ≡ true → OpenedOnce s l
  unfolding open_both
  opened_by l h i j e f a b o n q =
      apart_places open_both l h i j e f a b (rw (o, n) (eq-eqb (coin_of s f.transaction) (coin_of s e.transaction) q))

  pub spent_by : (l : List Entry) → apart spend_both l ≡ true → SpentOnce s l
  unfolding spend_both
  spent_by l h i j e f a b o q =
      apart_places spend_both l h i j e f a b (rw o (eq-eqb (parent s f.transaction) (parent s e.transaction) q))

  -- the entry at place i is the parent's of the one at j, in no later block
  unfoldable pub parent_at : List Entry → ℕ → ℕ → Bool
  parent_at l j i = eqb (entry_at l i).transaction (parent s (entry_at l j).transaction) && leb (entry_at l i).block (entry_at l j).block

  -- the one at j is no spend, or its parent's stands before it
  unfoldable pub behind : List Entry → ℕ → Bool
  behind l j = opening s (entry_at l j).transaction || any_below j (parent_at l j)

  pub after_by : (l : List Entry) → all_below (length l) (behind l) ≡ true → SpentAfter s l
  unfolding behind parent_at
  after_by l h j f b o =
      let w = place_low l j f b in
      let v = any_some j (parent_at l j) (rw (w.1, o) at (all_at (length l) (behind l) h j w.0)) in
      let q = and_parts (eqb (entry_at l v.0).transaction (parent s (entry_at l j).transaction)) (leb (entry_at l v.0).block (entry_at l j).block) v.2 in (
        v.0,
        entry_at l v.0,
        v.1,
        place_at l v.0 (omega (arith, v.1, w.0)),
        rw w.1 at (eqb-true (entry_at l v.0).transaction (parent s (entry_at l j).transaction) q.0),
        rw w.1 at (leb-true (entry_at l v.0).block (entry_at l j).block q.1),
      )

  pub after_says : (l : List Entry) → SpentAfter s l → (j : ℕ) → j < length l → behind l j ≡ true
  unfolding behind parent_at
  after_says l h j b =
      split (opening s (entry_at l j).transaction)
      (λ o. rw o)
      (λ o.
      let w = h j (entry_at l j) (place_at l j b) o in
      let v = place_low l w.0 w.1 w.3 in
      rw o
      (any_found j w.0 (parent_at l j) w.2
      (rw (v.1, eq-eqb w.1.transaction (parent s (entry_at l j).transaction) w.4) (le-leb w.1.block (entry_at l j).block w.5))))

  pub locks_by : (u : List ℕ) (p : Position) → all_below (count s) (λ t. not (is_confirmed p t) || ltb (lock_height_in s u p t) (block_of p t)) ≡ true → NoEarlyLock s u p
  locks_by u p h t l c =
      ltb-true (lock_height_in s u p t) (block_of p t)
      (rw c at (all_at (count s) (λ k. not (is_confirmed p k) || ltb (lock_height_in s u p k) (block_of p k)) h t l))
