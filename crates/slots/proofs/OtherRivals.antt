-- Rivals but oneself: they come after the parent; and where no member of a set has one, nobody has another rival in the set.
-- Assumes nothing.
use Rattle.std.specs.List.{list_any, range_with_len}
use Rattle.slots.proofs.AnyAbove.{any_above}
use Rattle.laws.proofs.Prelude.{ℕ, ◌+◌, ◌-◌, ◌≤◌, ◌<◌, ◌≡◌, sym, ◌∙◌, Bool, true, false, not, ◌&&◌, and-false, List, eqb, eqb-true, eqb-false, ne_eqb, not-true, arith, split}
use Rattle.laws.proofs.Prelude.{clash, fails_by, and_parts, any_below, any_found, any_none, any_all_false, set_below, none_set}
use Rattle.sheet.specs.Field.{count, parent, opening}
use Rattle.sheet.specs.Checked.{Checked}
use Rattle.slots.specs.Conflict.{conflict, conflict_in, other_conflict_in}
use Rattle.slots.specs.Forms.Conflict.{found_in}
use Rattle.slots.specs.Forms.HasConflicts.{has_conflicts_in}
use Rattle.slots.proofs.Conflicts.{conflict_parent, conflict_opening, siblings_conflict, conflict_sym, same_opening, some_in}
use Rattle.slots.proofs.Parents.{parent_lower}

-- k is a rival of t but t itself
unfoldable pub other_rival : List ℕ → ℕ → ℕ → Bool
other_rival s t k = conflict s k t && (not (eqb k t) && true)

-- where `up` is the parent of t
module _ (s : List ℕ) (t up : ℕ) (e : up ≡ parent s t) where
  -- after it these are its other children
  pub rival_above : (k : ℕ) → count s ≤ 32 → k < count s → up < k → (not (eqb k t) && eqb (parent s k) up) ≡ other_rival s t k
  unfolding other_rival opening
  rival_above k few l a =
      split (eqb k t)
      (λ y. rw (y, and-false (conflict s k t)))
      (λ y.
      split (eqb (parent s k) up)
      (λ z.
      let f = eqb-true (parent s k) up z in
      let o : opening s k ≡ false = ne_eqb (parent s k) 255 (λ q. omega (arith, q, few, l, a, f)) in
      rw (y, z, siblings_conflict s k t o (f ∙ e)))
      (λ z.
      let w : conflict s k t ≡ false = fails_by (conflict s k t) (λ c. eqb-false (parent s k) up z (conflict_parent s k t c ∙ sym e)) in
      rw (y, z, w)))

  -- none up to the parent, since a child comes after it; for an opening none at all
  pub none_before : Checked s → t < count s → any_below (up + 1) (other_rival s t) ≡ false
  unfolding other_rival
  none_before ok l =
      any_all_false (up + 1) (other_rival s t)
      (λ k b.
      fails_by (other_rival s t k)
      (λ y.
      let w = and_parts (conflict s k t) (not (eqb k t) && true) y in
      let d = eqb-false k t (not-true (eqb k t) (and_parts (not (eqb k t)) true w.1).0) in
      split (opening s t)
      (λ o. d (conflict_opening s k t o w.0))
      (λ o.
      let same = conflict_parent s k t w.0 in
      let h = parent_lower ok t l o in
      let i = parent_lower ok k (omega (arith, b, e, h, l)) (same_opening s k t same ∙ o) in
      omega (arith, i, same, b, e))))

  -- looked for after the parent
  pub other_after : Checked s → t < count s → (n : ℕ) → n ≡ count s
      → list_any (λ k. not (eqb k t) && eqb (parent s k) up) (range_with_len (up + 1) (n - (up + 1))) ≡ other_conflict_in s (λ j. true) t
  unfolding other_rival other_conflict_in conflict_in
  other_after ok l n f =
      rw f (any_above (other_rival s t) (λ k. not (eqb k t) && eqb (parent s k) up) (up + 1) (count s) (none_before ok l) (λ k i j. rival_above k ok.sized.few j (omega (arith, i))))

-- where no member has a rival but itself, nobody has another rival in the set
module _ (s : List ℕ) (member : ℕ → Bool) (h : has_conflicts_in s member ≡ false) where
  no_conflicts : (t : ℕ) → t < count s → other_conflict_in s member t ≡ false
  unfolding other_conflict_in has_conflicts_in conflict_in
  no_conflicts t l =
      fails_by (other_conflict_in s member t)
      (λ y.
      let w = some_in s (λ k. not (eqb k t) && member k) t y in
      let k = w.0 in
      let c = and_parts (not (eqb k t)) (member k) w.3 in
      let d : eqb t k ≡ false = ne_eqb t k (λ q. eqb-false k t (not-true (eqb k t) c.0) (sym q)) in
      let rival : other_conflict_in s (λ j. true) k ≡ true =
      any_found (count s) t (λ j. conflict s j k && (not (eqb j k) && true)) l (rw (conflict_sym s k t w.2, d)) in
      clash {b = member k && other_conflict_in s (λ j. true) k} (rw (c.1, rival)) (any_none (count s) (λ j. member j && other_conflict_in s (λ i. true) j) h k w.1))

  pub no_conflicts_none : 0 ≡ set_below (count s) (found_in s member true)
  unfolding found_in
  no_conflicts_none = sym (none_set (count s) (found_in s member true) no_conflicts)
