-- The rivals by their parents, of one transaction and of a whole set, are those of the rule.
-- Assumes nothing.
use Rattle.laws.proofs.Prelude.{ℕ, ◌<◌, ◌≡◌, sym, ◌∙◌, Bool, true, false, ◌&&◌, List, eqb, eqb-true, eq-eqb, ne_eqb, arith, split, clash, fails_by, and_parts, any_found}
use Rattle.laws.proofs.Prelude.{any_all_false, any_same, bit}
use mathlib.Core.Bool.{and_comm}
use Rattle.sheet.specs.Field.{count, parent, opening}
use Rattle.sheet.specs.Forms.Parents.{child_there, is_parent_below, Parents}
use Rattle.slots.specs.Conflict.{conflict, conflict_in}
use Rattle.slots.proofs.Conflicts.{conflict_self, conflict_siblings, conflict_opening}

module _ (s : List ℕ) (member : ℕ → Bool) (t : ℕ) where
  -- a member rivals itself
  pub by_self : t < count s → member t ≡ true → true ≡ conflict_in s member t
  unfolding conflict_in
  by_self l e = sym (any_found (count s) t (λ k. conflict s k t && member k) l (rw (conflict_self s t, e)))

  -- "an opening rivals only itself"
  pub by_opening : member t ≡ false → parent s t ≡ 255 → false ≡ conflict_in s member t
  unfolding conflict_in opening
  by_opening out q =
      sym
      (any_all_false (count s) (λ k. conflict s k t && member k)
      (λ k l.
      fails_by (conflict s k t && member k)
      (λ y.
      let w = and_parts (conflict s k t) (member k) y in
      clash (rw (conflict_opening s k t (eq-eqb (parent s t) 255 q) w.0) at w.1) out)))

  pub answer_opening : t < count s → opening s t ≡ true → member t ≡ conflict_in s member t
  unfolding opening
  answer_opening l o =
      split (member t) (λ e. e ∙ by_self l e) (λ e. e ∙ by_opening e (eqb-true (parent s t) 255 o))

  -- the rivals of one that is no opening are the children of `up`, its parent
  pub answer_child : (up : ℕ) → opening s t ≡ false → up ≡ parent s t → is_parent_below s member (count s) up ≡ conflict_in s member t
  unfolding is_parent_below conflict_in child_there
  answer_child up o e =
      any_same (count s) (child_there s member up) (λ k. conflict s k t && member k)
      (λ k l. rw (e, conflict_siblings s k t o) (and_comm (member k) (eqb (parent s t) (parent s k))))

  -- where `parents` are those of the members
  pub answer_parent : (parents up : ℕ) → Parents s member (count s) parents → up ≡ parent s t → up < 32 → bit parents up ≡ conflict_in s member t
  unfolding opening
  answer_parent parents up h e l = h.at up l ∙ answer_child up (ne_eqb (parent s t) 255 (λ q. omega (arith, q, e, l))) e
