-- The parents of a set: those of its members below a number, and one member more; those of all transactions.
-- Assumes nothing.
use Rattle.laws.proofs.Prelude.{ℕ, ◌+◌, ◌≤◌, ◌<◌, ◌≡◌, refl, sym, ap, ◌∙◌, Bool, true, false, ◌&&◌, ◌||◌, and-false, List, eqb, eqb-true, eqb-false, eq-eqb, ne_eqb}
use Rattle.laws.proofs.Prelude.{arith, le_antisymm, or-false, split, all_below, all_at, any_below, any_same, no_bit, bit, joined, bit_joined}
use Rattle.laws.specs.Below.{any_next}
use Rattle.sheet.specs.Field.{count, parent}
use Rattle.sheet.specs.Check.{has_child}
use Rattle.sheet.specs.Forms.Parents.{child_there, is_parent_below, Parents, ParentAdded}

module _ (s : List ℕ) (member : ℕ → Bool) where
  -- no member, or a parent that no set has: nothing is added
  pub added_none : (k m : ℕ) → member k ≡ false → ParentAdded s member k m m
  unfolding child_there
  added_none k m e = record { at = λ p l. rw e (sym (or-false (bit m p))) }

  pub added_far : (k m : ℕ) → 32 ≤ parent s k → ParentAdded s member k m m
  unfolding child_there
  added_far k m h =
      record { at = λ p l. rw (ne_eqb p (parent s k) (λ e. omega (arith, e)), and-false (member k)) (sym (or-false (bit m p))) }

  pub added_one : (k m r : ℕ) → member k ≡ true → parent s k < 32 → r ≡ joined m true (parent s k) → ParentAdded s member k m r
  unfolding child_there
  added_one k m r e h f =
      record { at = λ p l. rw (f, e) (bit_joined m true (parent s k) p h l) }

  -- a loop's start, its turns and its end
  pub parents_start : Parents s member 0 0
  unfolding is_parent_below any_below
  parents_start = record { at = λ p l. no_bit p }

  pub parents_more : (n m r : ℕ) → Parents s member n m → ParentAdded s member n m r → Parents s member (n + 1) r
  unfolding is_parent_below
  parents_more n m r h a =
      record { at = λ p l. a.at p l ∙ ap (λ b. b || child_there s member p n) (h.at p l) ∙ sym (any_next n (child_there s member p)) }

  pub parents_done : (k n r : ℕ) → k ≤ n → n ≤ k → Parents s member k r → Parents s member n r
  parents_done k n r l m h = rw (le_antisymm m l) h

-- one test over the bits of a full word
full_bits : all_below 32 (bit 4294967295) ≡ true
unfolding all_below bit
full_bits = refl

module _ (s : List ℕ) where
  -- every transaction is in the full set
  pub all_members : (n r : ℕ) → n ≤ 32 → Parents s (bit 4294967295) n r → Parents s (λ k. true) n r
  unfolding is_parent_below child_there
  all_members n r l h =
      record {
        at = λ p m.
            h.at p m
            ∙ any_same n (child_there s (bit 4294967295) p) (child_there s (λ k. true) p)
            (λ k i. ap (λ b. b && eqb p (parent s k)) (all_at 32 (bit 4294967295) full_bits k (omega arith)));
      }

  -- the parents of all are those that have a child
  pub parent_child : (r t : ℕ) → t < 32 → Parents s (λ k. true) (count s) r → bit r t ≡ has_child s t
  unfolding has_child is_parent_below child_there
  parent_child r t l h =
      h.at t l
      ∙ any_same (count s) (child_there s (λ k. true) t) (λ k. eqb (parent s k) t)
      (λ k m.
      split (eqb t (parent s k))
      (λ e. e ∙ sym (eq-eqb (parent s k) t (sym (eqb-true t (parent s k) e))))
      (λ e. e ∙ sym (ne_eqb (parent s k) t (λ q. eqb-false t (parent s k) e (sym q)))))
