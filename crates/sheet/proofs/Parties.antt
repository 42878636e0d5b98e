-- Laws of parties: their number, their places and their numbers.
-- Assumes nothing.
use Rattle.laws.proofs.Prelude.{ℕ, ◌+◌, ◌-◌, ◌≤◌, ◌<◌, ◌≡◌, refl, true, false, not, List, [], ◌∷◌, eqb, ltb, lit≤, length, eqb-false, ltb-true, ltb-false, ne_eqb, lt-ltb}
use Rattle.laws.proofs.Prelude.{le-ltb, not-true, arith, split, and_parts}
use Rattle.sheet.specs.Field.{byte, parties, arrays, miner, place, party_at, is_party, start_keys}

-- two or three
pub parties_some : (s : List ℕ) → 2 ≤ parties s
unfolding parties
parties_some s = split (ltb (byte s 0) 128) (λ e. rw e (lit≤ tt)) (λ e. rw e (lit≤ tt))

pub parties_few : (s : List ℕ) → parties s ≤ 3
unfolding parties
parties_few s = split (ltb (byte s 0) 128) (λ e. rw e (lit≤ tt)) (λ e. rw e (lit≤ tt))

-- by the first byte: below 128 two, else three
pub parties_two : (s : List ℕ) → byte s 0 < 128 → parties s ≡ 2
unfolding parties
parties_two s h = rw (lt-ltb (byte s 0) 128 h)

pub parties_three : (s : List ℕ) → 128 ≤ byte s 0 → parties s ≡ 3
unfolding parties
parties_three s h = rw (le-ltb (byte s 0) 128 h)

pub parties_same : (s v : List ℕ) → byte v 0 ≡ byte s 0 → parties v ≡ parties s
unfolding parties
parties_same s v e = rw e

-- a sheet without bytes has two
pub parties_empty : (s : List ℕ) → length s ≡ 0 → parties s ≡ 2
unfolding parties
parties_empty [] h = refl
parties_empty (x ∷ l) h = omega (arith, h)

-- and no start mask
pub start_empty : (s : List ℕ) (x : ℕ) → length s ≡ 0 → start_keys s x ≡ 0
unfolding start_keys
start_empty [] x h = split (is_party [] x) (λ e. rw e refl) (λ e. rw e refl)
start_empty (y ∷ l) x h = omega (arith, h)

pub arrays_head : (s : List ℕ) → 5 ≤ arrays s
unfolding arrays
arrays_head s = omega (arith, parties_some s)

-- places and numbers
pub place_at : (k : ℕ) → place (party_at k) ≡ k
unfolding place party_at
place_at k =
    split (ltb k 2) (λ e. rw (e, e) refl)
    (λ e. let h = ltb-false k 2 e in rw (e, le-ltb (k + 1) 2 (omega arith)) (omega arith))

pub at_not_miner : (k : ℕ) → eqb (party_at k) miner ≡ false
unfolding party_at
at_not_miner k =
    split (ltb k 2) (λ e. let h = ltb-true k 2 e in rw e (ne_eqb k 2 (λ q. omega (arith, q))))
    (λ e. let h = ltb-false k 2 e in rw e (ne_eqb (k + 1) 2 (λ q. omega (arith, q))))

module _ (s : List ℕ) where
  party_parts : (x : ℕ) → is_party s x ≡ true → (eqb x miner ≡ false) × (place x < parties s)
  unfolding is_party
  party_parts x h =
      let w = and_parts (not (eqb x miner)) (ltb (place x) (parties s)) h in
      (not-true (eqb x miner) w.0, ltb-true (place x) (parties s) w.1)

  pub party_not_miner : (x : ℕ) → is_party s x ≡ true → eqb x miner ≡ false
  party_not_miner x h = (party_parts x h).0

  pub place_below : (x : ℕ) → is_party s x ≡ true → place x < parties s
  place_below x h = (party_parts x h).1

  -- the number of a party's place is its own
  pub at_place : (x : ℕ) → is_party s x ≡ true → party_at (place x) ≡ x
  unfolding party_at place
  at_place x h =
      split (ltb x 2) (λ e. rw (e, e) refl)
      (λ e.
      let n = eqb-false x 2 (party_not_miner x h) in
      let l = ltb-false x 2 e in
      rw (e, le-ltb (x - 1) 2 (omega (arith, n))) (omega (arith, n)))

  pub party_small : (x : ℕ) → is_party s x ≡ true → x < 4
  unfolding place
  party_small x h =
      split (ltb x 2) (λ e. let l = ltb-true x 2 e in omega arith)
      (λ e. let p = place_below x h in omega (arith, rw e at p, parties_few s))

  pub party_at_lem : (k : ℕ) → k < parties s → is_party s (party_at k) ≡ true
  unfolding is_party
  party_at_lem k h = rw (at_not_miner k, place_at k) (lt-ltb k (parties s) h)

  -- a place past the sheet's parties is nobody's
  pub party_none : (k : ℕ) → parties s ≤ k → is_party s (party_at k) ≡ false
  unfolding is_party
  party_none k h = rw (at_not_miner k, place_at k) (le-ltb k (parties s) h)

  pub party_miner : is_party s 2 ≡ false
  unfolding is_party
  party_miner = refl

  pub party_past : (x : ℕ) → 4 ≤ x → is_party s x ≡ false
  unfolding is_party place
  party_past x h =
      rw (ne_eqb x 2 (λ q. omega (arith, q)), le-ltb x 2 (omega arith)) (le-ltb (x - 1) (parties s) (omega (arith, parties_few s)))
