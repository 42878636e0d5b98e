-- The bumps that are owed are those of the pool that wait outside the block and can have a deadline, and the soonest deadline is one of theirs.
-- Assumes nothing.
use Rattle.laws.proofs.Prelude.{ℕ, ◌+◌, ◌-◌, ◌≤◌, ◌<◌, ◌≡◌, refl, sym, ap, ◌∙◌, Bool, true, false, ◌&&◌, and-false, List, eqb, ltb, length, ne_eqb, arith}
use Rattle.laws.proofs.Prelude.{and-true, bit_and, pick, split, any_below, any_same, any_all_false, least_below, least_start, least_more, least_same, bit, bit_and_lem, no_bit}
use Rattle.laws.proofs.Prelude.{set_bit, bit_outside}
use Prim.Native.Nat.{min}
use Rattle.laws.specs.Least.{least_upto}
use Rattle.sheet.specs.Field.{count}
use Rattle.sheet.specs.Setup.{per_day}
use Rattle.sheet.specs.LockHeight.{never}
use Rattle.slots.specs.Deadline.{deadline}
use Rattle.slots.specs.Forms.Expiring.{expiring_set}
use Rattle.slots.proofs.Walks.{Gap}
use Rattle.slots.proofs.Deadlines.{deadline_unexpiring}
use Rattle.steps.specs.declared.View.{View}
use Rattle.position.specs.declared.Position.{Position}
use Rattle.position.specs.Position.{in_pool, in_block, block_of, deadline_in}
use Rattle.position.specs.Owed.{waiting, owed, any_owed}
use Rattle.position.specs.Forms.View.{view_below, since_in}
use Rattle.position.specs.Forms.Owed.{due_in, soonest_in, soonest_due}
use Rattle.position.proofs.SendTests.{deadline_parent, since_parent_lem}

-- none is due outside the set
module _ (s : List ℕ) (d : ℕ) (p : Position) (m among : ℕ) where
  no_member : (t : ℕ) → bit among t ≡ false → due_in s d p m among t ≡ false
  unfolding due_in
  no_member t e = rw e

-- going through the set: the soonest deadline
module _ (s : List ℕ) (d : ℕ) (p : Position) (m among : ℕ) where
  abbrev height : ℕ → ℕ
  height t = deadline s d (λ k. since_in s p t) t

  unfoldable pub soonest_below : ℕ → ℕ
  soonest_below t = least_below t (λ j. bit among j && ltb m (height j)) height never

  outside : (j : ℕ) → bit among j ≡ false → (bit among j && ltb m (height j)) ≡ false
  outside j e = rw e

  pub soonest_first : never ≡ soonest_below 0
  unfolding soonest_below
  soonest_first = least_start (λ j. bit among j && ltb m (height j)) height never

  soonest_upto : (n t k : ℕ) → Gap among t n k → soonest_below t ≡ soonest_below k
  unfolding soonest_below
  soonest_upto n t k g =
      sym (least_upto (λ j. bit among j && ltb m (height j)) height never t k g.low (λ j a l. outside j (g.none j a l)))

  -- where h is its deadline, a what counts of it, and o the lower of this and the best before
  pub soonest_next : (n t k h a best o : ℕ) → Gap among t n k → bit among k ≡ true → best ≡ soonest_below t → h ≡ height k
      → a ≡ pick (ltb m h) h never → o ≡ min best a → o ≡ soonest_below (k + 1)
  unfolding soonest_below
  soonest_next n t k h a best o g i e c w x =
      let y : a ≡ pick (bit among k && ltb m (height k)) (height k) never = rw (i, ← c) w in
      least_more k (λ j. bit among j && ltb m (height j)) height never best a o (e ∙ soonest_upto n t k g) y x

  pub soonest_done : (n t best : ℕ) → Gap among t n n → n ≡ count s → best ≡ soonest_below t → best ≡ soonest_in s d p m among
  unfolding soonest_below soonest_in
  soonest_done n t best g l e = (e ∙ soonest_upto n t n g) ∙ ap soonest_below l

  pub soonest_none : among ≡ 0 → never ≡ soonest_in s d p m among
  unfolding soonest_in
  soonest_none z =
      least_start (λ j. bit among j && ltb m (height j)) height never
      ∙ sym (least_upto (λ j. bit among j && ltb m (height j)) height never 0 (count s) (omega arith) (λ j a l. outside j (rw z (no_bit j))))

never_never : (b : Bool) → pick b never never ≡ never
never_never true = refl
never_never false = refl

-- where v is the view that the code found
module _ (s u : List ℕ) (p : Position) (v : View) (few : count s ≤ 32) (slots : length p.slots ≡ 32) (e : v ≡ view_below s (count s) p) (word : v.block < 4294967296) (mined : v.mined < 65536) where
  -- the set that the code looks through
  abbrev among : ℕ
  among = bit_and (bit_and v.pool (4294967295 - v.block)) v.expiring

  among_bit : (t : ℕ) → t < count s → bit among t ≡ (waiting p t && bit (expiring_set s) t)
  unfolding view_below waiting
  among_bit t l =
      rw (bit_and_lem (bit_and v.pool (4294967295 - v.block)) v.expiring t, bit_and_lem v.pool (4294967295 - v.block) t, bit_outside v.block t word (omega arith))
      (rw (e, set_bit (count s) (in_pool p) few t l, set_bit (count s) (in_block p) few t l))

  mined_is : v.mined ≡ p.mined
  unfolding view_below
  mined_is = rw e

  never_outside : (t : ℕ) → t < count s → bit (expiring_set s) t ≡ false → deadline_in s u p t ≡ never
  unfolding deadline_in
  never_outside t l h = deadline_unexpiring s few (per_day u) (block_of p) t l h

  -- no block is at never
  unexpiring : (t : ℕ) → t < count s → bit (expiring_set s) t ≡ false → eqb (p.mined + 1) (deadline_in s u p t) ≡ false
  unexpiring t l h =
      rw (never_outside t l h)
      (ne_eqb (p.mined + 1) never (λ q. omega (arith, q, mined, mined_is)))

  due_owed : (t : ℕ) → t < count s → due_in s (per_day u) p v.mined among t ≡ owed s u p t
  unfolding due_in owed
  due_owed t l =
      rw (among_bit t l, since_parent_lem s p slots t, deadline_parent s u p t, mined_is)
      (split (bit (expiring_set s) t)
      (λ y. rw (y, and-true (waiting p t)))
      (λ y. rw (y, and-false (waiting p t), unexpiring t l y) (sym (and-false (waiting p t)))))

  pub any_due_owed : (d : ℕ) (b : Bool) → d ≡ per_day u → b ≡ any_below (count s) (due_in s d p v.mined among) → b ≡ any_owed s u p
  unfolding any_owed
  any_due_owed d b f a = (a ∙ rw f) ∙ any_same (count s) (due_in s (per_day u) p v.mined among) (owed s u p) due_owed

  pub none_owed : among ≡ 0 → false ≡ any_owed s u p
  none_owed z =
      any_due_owed (per_day u) false refl
      (sym
      (any_all_false (count s) (due_in s (per_day u) p v.mined among)
      (λ k l. no_member s (per_day u) p v.mined among k (rw z (no_bit k)))))

  due_soonest : (t : ℕ) → t < count s
      → pick (bit among t && ltb v.mined (deadline s (per_day u) (λ k. since_in s p t) t)) (deadline s (per_day u) (λ k. since_in s p t) t) never
      ≡ pick (waiting p t && ltb p.mined (deadline_in s u p t)) (deadline_in s u p t) never
  due_soonest t l =
      rw (among_bit t l, since_parent_lem s p slots t, deadline_parent s u p t, mined_is)
      (split (bit (expiring_set s) t)
      (λ y. rw (y, and-true (waiting p t)))
      (λ y. rw (y, and-false (waiting p t), never_outside t l y) (sym (never_never (waiting p t && ltb p.mined never)))))

  all_soonest : soonest_in s (per_day u) p v.mined among ≡ soonest_due s u p
  unfolding soonest_in soonest_due
  all_soonest =
      least_same (count s)
      (λ t. bit among t && ltb v.mined (deadline s (per_day u) (λ k. since_in s p t) t))
      (λ t. waiting p t && ltb p.mined (deadline_in s u p t))
      (λ t. deadline s (per_day u) (λ k. since_in s p t) t) (deadline_in s u p) never due_soonest

  pub soonest_all : (d r : ℕ) → d ≡ per_day u → r ≡ soonest_in s d p v.mined among → r ≡ soonest_due s u p
  soonest_all d r f h = (h ∙ ap (λ (x : ℕ). soonest_in s x p v.mined among) f) ∙ all_soonest

  pub none_soonest : among ≡ 0 → never ≡ soonest_due s u p
  none_soonest z = soonest_all (per_day u) never refl (soonest_none s (per_day u) p v.mined among z)
