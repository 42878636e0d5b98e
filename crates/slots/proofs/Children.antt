-- A child of a transaction in a set, looked for above the transaction itself.
-- Assumes nothing.
use Rattle.laws.proofs.Prelude.{ℕ, ◌+◌, ◌<◌, ◌≡◌, sym, false, ◌&&◌, and-false, List, eqb, eqb-true, eqb-false, eq-eqb, ne_eqb, arith, split, any_below, any_same, any_all_false, bit}
use Rattle.sheet.specs.Field.{count, parent}
use Rattle.sheet.specs.Checked.{Checked}
use Rattle.sheet.specs.Forms.Parents.{child_there, is_parent_below}
use Rattle.slots.proofs.Parents.{child_spends, parent_lower}

module _ (s : List ℕ) (m p : ℕ) where
  -- none up to the transaction itself
  pub no_child_before : Checked s → p < count s → any_below (p + 1) (λ k. bit m k && eqb (parent s k) p) ≡ false
  no_child_before ok l =
      any_all_false (p + 1) (λ k. bit m k && eqb (parent s k) p)
      (λ k h.
      rw (ne_eqb (parent s k) p (λ e. omega (arith, h, e, parent_lower ok k (omega (arith, h, l)) (child_spends ok k (omega (arith, e, l)))))) (and-false (bit m k)))

  -- read from the child's side
  pub child_among : (n : ℕ) → any_below n (λ k. bit m k && eqb (parent s k) p) ≡ is_parent_below s (bit m) n p
  unfolding is_parent_below child_there
  child_among n =
      any_same n (λ k. bit m k && eqb (parent s k) p) (λ k. bit m k && eqb p (parent s k))
      (λ k l.
      split (eqb (parent s k) p)
      (λ y. rw (y, eq-eqb p (parent s k) (sym (eqb-true (parent s k) p y))))
      (λ y. rw (y, ne_eqb p (parent s k) (λ e. eqb-false (parent s k) p y (sym e)))))
