-- No entry of a list that the ledger takes, in order, is of an earlier block than its transaction's earliest.
-- Assumes nothing.
use Rattle.laws.proofs.Prelude.{ℕ, zero, suc, ◌+◌, ◌≤◌, ◌<◌, ◌≡◌, ◌∙◌, true, false, List, eqb, eqb-true, lt-ltb, le-ltb, arith, some, get_elem?, split, clash, All}
use Rattle.laws.proofs.Prelude.{all_place, climb_step}
use Rattle.position.proofs.Rules.{count, parent, lock_type, opening, Checked, LockPair, Entry, in_order, lock_from, ledger}
use native.Mathlib.Nat.{max-le, le-max_left, le-max_right}
use Rattle.sheet.specs.Checked
use Rattle.slots.proofs.Parents.{parent_lower}
use Rattle.ledger.proofs.Rising.{blocks_rise}
use Rattle.claim_blocks.specs.Words.{Before}
use Rattle.claim_blocks.proofs.Standing.{Founded, opens, spends}
use Rattle.claim_blocks.proofs.Entering.{taken_right}
use Rattle.endings.specs.Earliest.{earliest_from, earliest}

-- a later parent makes no earlier lock
pub lock_grows : (s : List ℕ) (per_day p q t : ℕ) → p ≤ q → lock_from s per_day p t ≤ lock_from s per_day q t
unfolding lock_from
lock_grows s per_day p q t h =
    split (eqb (lock_type s t) 0)
    (λ y. rw y (omega arith))
    (λ y. rw y (split (eqb (lock_type s t) 1) (λ z. rw z (omega arith)) (λ z. rw z (omega arith))))

module _ (s : List ℕ) (per_day : ℕ) (ok : Checked s) (t : ℕ) (l : t < count s) where
  -- an opening's lock is the same over any block
  same_lock : (p q : ℕ) → opening s t ≡ true → LockPair s t → lock_from s per_day p t ≡ lock_from s per_day q t
  unfolding lock_from
  same_lock p q o (Checked.none a b) = rw a
  same_lock p q o (Checked.absolute a b c) = rw a
  same_lock p q o (Checked.since a b c d) = clash o d

  pub opening_lock : (p q : ℕ) → opening s t ≡ true → lock_from s per_day p t ≡ lock_from s per_day q t
  opening_lock p q o = same_lock p q o (ok.entries t l).lock_pair_lem

  pub earliest_opening : opening s t ≡ true → earliest s per_day t ≡ earliest_from s per_day t 1
  unfolding earliest opening
  earliest_opening o =
      let e = eqb-true (parent s t) 255 o in
      climb_step (parent s) (earliest_from s per_day) 1 t ∙ rw (le-ltb (parent s t) t (omega (arith, ok.sized.few)))

  pub earliest_spend : opening s t ≡ false → earliest s per_day t ≡ earliest_from s per_day t (earliest s per_day (parent s t))
  unfolding earliest
  earliest_spend o = climb_step (parent s) (earliest_from s per_day) 1 t ∙ rw (lt-ltb (parent s t) t (parent_lower ok t l o))

  pub from_above : (above : ℕ) → above ≤ earliest_from s per_day t above
  unfolding earliest_from
  from_above above = le-max_left above (lock_from s per_day above t + 1)

  pub from_lock : (above : ℕ) → lock_from s per_day above t < earliest_from s per_day t above
  unfolding earliest_from
  from_lock above = omega (arith, le-max_right above (lock_from s per_day above t + 1))

  pub earliest_some : 1 ≤ earliest s per_day t
  earliest_some =
      split (opening s t)
      (λ o. rw (earliest_opening o) (omega (arith, from_lock 1)))
      (λ o. rw (earliest_spend o) (omega (arith, from_lock (earliest s per_day (parent s t)))))

  from_least : (above b : ℕ) → above ≤ b → lock_from s per_day above t < b → earliest_from s per_day t above ≤ b
  unfolding earliest_from
  from_least above b h m = max-le h (omega arith)

  pub least_opening : (b : ℕ) → opening s t ≡ true → lock_from s per_day 0 t < b → earliest s per_day t ≤ b
  least_opening b o h = rw (earliest_opening o) (from_least 1 b (omega arith) (rw (opening_lock 1 0 o) h))

  pub least_spend : (p b : ℕ) → opening s t ≡ false → earliest s per_day (parent s t) ≤ p → p ≤ b → lock_from s per_day p t < b → earliest s per_day t ≤ b
  least_spend p b o h m k =
      rw (earliest_spend o) (from_least (earliest s per_day (parent s t)) b (omega arith) (omega (arith, lock_grows s per_day (earliest s per_day (parent s t)) p t h)))

module _ (s : List ℕ) (per_day : ℕ) (ok : Checked s) (l : List Entry) (low : All (λ e. e.transaction < count s) l) (o : in_order l ≡ true) (a : (ledger s per_day l).accepts ≡ true) where
  abbrev Least : ℕ → Type 0
  Least n = (j : ℕ) (f : Entry) → j < n → get_elem? l j ≡ some f → earliest s per_day f.transaction ≤ f.block

  least_by : (n : ℕ) → Least n → (j : ℕ) (f : Entry) → j < suc n → get_elem? l j ≡ some f → Founded s per_day (Before l j) f → earliest s per_day f.transaction ≤ f.block
  least_by n rest j f b k (opens y m) = least_opening s per_day ok f.transaction (all_place low j f k) f.block y m
  least_by n rest j f b k (spends e m y p h) =
      let i = rest m.place e (omega (arith, m.earlier)) m.stands in
      least_spend s per_day ok f.transaction (all_place low j f k) e.block f.block y (rw p at i)
      (blocks_rise l o m.place j e f m.earlier m.stands k) h

  least_in : (n : ℕ) → Least n
  least_in zero j f b k = absurd (omega arith)
  least_in (suc n) j f b k = least_by n (least_in n) j f b k (taken_right s per_day ok l low a j f k).based

  pub none_earlier : (j : ℕ) (f : Entry) → get_elem? l j ≡ some f → earliest s per_day f.transaction ≤ f.block
  none_earlier j f k = least_in (suc j) j f (omega arith) k
