-- What the marks tell of each transaction.
-- Assumes nothing.
use Rattle.laws.proofs.Prelude.{ℕ, ◌≤◌, ◌<◌, ◌≡◌, ◌∙◌, List, Bool, true, false, not, ◌&&◌, eqb, get_or, eqb-true, lt-ltb, not-true}
use Rattle.laws.specs.Booleans.{split, and_parts}
use Rattle.laws.specs.Below.{any_below}
use Rattle.laws.specs.Mask.{bit}
use Rattle.laws.specs.Sets.{set_below, set_bit}
use Rattle.sheet.specs.Field.{count, parent, opening}
use Rattle.sheet.specs.Setup.{per_day, stealth}
use Rattle.sheet.specs.Checked.{Checked}
use Rattle.slots.specs.Destination.{destinations}
use Rattle.slots.specs.Conflict.{conflict}
use Rattle.slots.proofs.Parents.{parent_lower}
use Rattle.position.specs.declared.Position.{Position}
use Rattle.position.specs.Position.{block_of}
use Rattle.soonest.specs.Soonest.{soonest_parent}
use Rattle.attainable.specs.Attainable.{waits_for}
use Rattle.slack.specs.Beaten.{lock_beside, waits_before}
use Rattle.prospect.specs.declared.Marks.{Marks}
use Rattle.prospect.specs.Forms.Marks.{Marked}
use Rattle.prospect.specs.Forms.Tables.{Sound, waits_in}

-- a member of a set that is read, where the set is known
pub mark : (s : List ℕ) → Checked s → (set : ℕ) (test : ℕ → Bool) → set ≡ set_below (count s) test → (t : ℕ) → t < count s → bit set t ≡ test t
mark s ok set test e t l = rw e (set_bit (count s) test ok.sized.few t l)

module _ (s u : List ℕ) (p : Position) (x : ℕ) (m : Marks) (ok : Checked s) (is : Marked s u p x m) where
  -- the numbers are small enough
  pub sound : stealth u ≤ 1 → Sound m
  sound flag =
      record {
        few = rw is.count_is ok.sized.few;
        flag = rw is.stealth_is flag;
        low = λ t l. (is.locks.each t (rw is.count_is at l)).small;
      }

  -- two rivals have one soonest block of the parent
  same_parent : (t r : ℕ) → t < count s → r < count s → conflict s r t ≡ true
      → soonest_parent s (per_day u) (block_of p) p.mined r ≡ soonest_parent s (per_day u) (block_of p) p.mined t
  unfolding conflict soonest_parent opening
  same_parent t r l h e =
      split (eqb r t)
      (λ y. rw (eqb-true r t y))
      (λ y.
      let w = and_parts (not (opening s r)) (eqb (parent s r) (parent s t)) (rw y at e) in
      let q : parent s r ≡ parent s t = eqb-true (parent s r) (parent s t) w.1 in
      let o : opening s r ≡ false = not-true (opening s r) w.0 in
      let a : parent s r < r = parent_lower ok r h o in
      let b : parent s t < t = parent_lower ok t l (rw (← q) o) in
      rw (lt-ltb (parent s r) r a, lt-ltb (parent s t) t b, q))

  -- the lock height of a rival
  pub rival_lock : (t r : ℕ) → t < count s → r < count s → conflict s r t ≡ true → get_or m.lock r 0 ≡ lock_beside s u p t r
  unfolding lock_beside
  rival_lock t r l h e = (is.locks.each r h).is ∙ rw (same_parent t r l h e)

  -- what waits before t
  pub waits_in_lem : (t r : ℕ) → t < count s → r < count s → waits_in m t r ≡ waits_before p x t r
  unfolding waits_in waits_before
  waits_in_lem t r l h =
      split (eqb r t)
      (λ y.
      let e : r ≡ t = eqb-true r t y in
      rw y (mark s ok m.apart (λ k. any_below destinations (λ d. not (eqb d x) && waits_for p k d)) is.apart_is t l ∙ rw e))
      (λ y. rw y (mark s ok m.waits (λ k. any_below destinations (waits_for p k)) is.waits_is r h))
