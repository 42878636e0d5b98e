-- A deadline by the parent: the rivals are its children, and an opening has none but itself. Without a lock of another rival there is none.
-- Assumes nothing.
use Rattle.laws.proofs.Prelude.{ℕ, ◌≤◌, ◌<◌, ◌≡◌, sym, ap, ◌∙◌, Bool, true, false, not, ◌&&◌, List, eqb, ltb, eqb-true, ltb-true, not-false, arith, pick, split}
use Rattle.laws.proofs.Prelude.{and_parts, fails_by, least_below, least_start, bit, set_below, set_bit, set_same}
use Rattle.laws.specs.Least.{least_upto}
use Rattle.sheet.specs.Field.{count, parent, lock_type, opening}
use Rattle.sheet.specs.LockHeight.{never, lock_height}
use Rattle.slots.specs.Conflict.{conflict, other_conflict_in}
use Rattle.slots.specs.Deadline.{deadline}
use Rattle.slots.specs.Forms.Conflict.{found_in}
use Rattle.slots.specs.Forms.Expiring.{has_lock, expiring_set, deadline_by}
use Rattle.slots.proofs.Conflicts.{conflict_siblings, conflict_opening, none_in}
use Rattle.slots.proofs.ConflictSets.{conflict_in_same}

-- what a turn finds, where `up` is the parent of t
pub rival_turn : (s : List ℕ) (d b own up k t h : ℕ) → opening s t ≡ false → up ≡ parent s t
    → h ≡ pick (eqb up (parent s k) && ltb own (lock_height s d (λ j. b) k)) (lock_height s d (λ j. b) k) never
    → h ≡ pick (conflict s k t && ltb own (lock_height s d (λ j. b) k)) (lock_height s d (λ j. b) k) never
rival_turn s d b own up k t h o e f = f ∙ rw (e, conflict_siblings s k t o)

least_none : (n : ℕ) (p : ℕ → Bool) (f : ℕ → ℕ) (d : ℕ) → ((k : ℕ) → k < n → p k ≡ false) → least_below n p f d ≡ d
least_none n p f d h = least_upto p f d 0 n (omega arith) (λ k a l. h k l) ∙ sym (least_start p f d)

pub deadline_opening : (s : List ℕ) (d : ℕ) (block : ℕ → ℕ) (t : ℕ) → opening s t ≡ true → never ≡ deadline s d block t
unfolding deadline
deadline_opening s d block t o =
    sym
    (least_none (count s)
    (λ k. conflict s k t && ltb (lock_height s d block t) (lock_height s d block k))
    (lock_height s d block) never
    (λ k i.
    fails_by (conflict s k t && ltb (lock_height s d block t) (lock_height s d block k))
    (λ y.
    let w = and_parts (conflict s k t) _ y in
    let l : lock_height s d block t < lock_height s d block t =
    ltb-true _ _ (rw (conflict_opening s k t o w.0) at w.1) in
    omega (arith, l))))

-- a height of 0 is above none
no_lock : (s : List ℕ) (d : ℕ) (block : ℕ → ℕ) (k : ℕ) → has_lock s k ≡ false → lock_height s d block k ≡ 0
unfolding has_lock lock_height
no_lock s d block k h = rw (not-false (eqb (lock_type s k) 0) h)

-- no lock is above itself
deadline_unlocked : (s : List ℕ) (d : ℕ) (block : ℕ → ℕ) (t : ℕ) → other_conflict_in s (has_lock s) t ≡ false → deadline s d block t ≡ never
unfolding deadline other_conflict_in
deadline_unlocked s d block t none =
    least_none (count s)
    (λ k. conflict s k t && ltb (lock_height s d block t) (lock_height s d block k))
    (lock_height s d block) never
    (λ k i.
    fails_by (conflict s k t && ltb (lock_height s d block t) (lock_height s d block k))
    (λ y.
    let w = and_parts (conflict s k t) _ y in
    let l : lock_height s d block t < lock_height s d block k = ltb-true _ _ w.1 in
    let out : (not (eqb k t) && has_lock s k) ≡ false = none_in s (λ j. not (eqb j t) && has_lock s j) t none k i w.0 in
    split (eqb k t)
    (λ e. let m : lock_height s d block t < lock_height s d block t = rw (eqb-true k t e) at l in omega (arith, m))
    (λ e. let m : lock_height s d block t < 0 = rw (no_lock s d block k (rw e at out)) at l in omega (arith, m))))

-- the set as the code makes it, and those outside it
module _ (s : List ℕ) (few : count s ≤ 32) where
  pub expiring_by : set_below (count s) (found_in s (bit (set_below (count s) (has_lock s))) true) ≡ expiring_set s
  unfolding expiring_set found_in other_conflict_in
  expiring_by =
      set_same (count s) (other_conflict_in s (bit (set_below (count s) (has_lock s)))) (other_conflict_in s (has_lock s))
      (λ t l.
      conflict_in_same s (λ k. not (eqb k t) && bit (set_below (count s) (has_lock s)) k) (λ k. not (eqb k t) && has_lock s k) t
      (λ k i. ap (λ b. not (eqb k t) && b) (set_bit (count s) (has_lock s) few k i)))

  pub deadline_unexpiring : (d : ℕ) (block : ℕ → ℕ) (t : ℕ) → t < count s → bit (expiring_set s) t ≡ false → deadline s d block t ≡ never
  unfolding expiring_set
  deadline_unexpiring d block t l h =
      deadline_unlocked s d block t (sym (set_bit (count s) (other_conflict_in s (has_lock s)) few t l) ∙ h)

  pub deadline_by_lem : (d since t : ℕ) → t < count s → deadline_by s d (expiring_set s) since t ≡ deadline s d (λ k. since) t
  unfolding deadline_by
  deadline_by_lem d since t l =
      split (bit (expiring_set s) t) (λ y. rw y) (λ y. rw y (sym (deadline_unexpiring d (λ k. since) t l y)))
