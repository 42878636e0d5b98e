-- A mined block and a bump over sets are those of the rules.
-- Assumes nothing.
use Rattle.laws.proofs.Prelude.{ℕ, zero, suc, ◌+◌, ◌≤◌, ◌<◌, ◌≡◌, refl, sym, ap, ◌∙◌, Bool, true, false, not, ◌&&◌, ◌||◌, List, [], ◌∷◌, eqb, ltb, get_or, eqb-true}
use Rattle.laws.proofs.Prelude.{ltb-false, arith, bit_or, bit_or_lem, no_bit, split, or_neither, rewrite_first, bit, set_below, set_bit}
use mathlib.Core.Bool.{and_assoc}
use Rattle.sheet.specs.Field.{count}
use Rattle.slots.specs.Conflict.{conflict_in, other_conflict_in}
use Rattle.slots.specs.Forms.Conflict.{found_in}
use Rattle.slots.specs.Ancestry.{in_ancestry, is_self_or_ancestor, meets_conflict, meets_other}
use Rattle.slots.specs.Invalidated.{invalidated}
use Rattle.slots.specs.Forms.Line.{line_set}
use Rattle.slots.proofs.ConflictSets.{conflict_in_same}
use Rattle.slots.proofs.AncestrySets.{in_ancestry_same}
use Rattle.slots.proofs.LineSets.{line_bit}
use Rattle.readings.specs.Forms.Report.{dead_in}
use Rattle.position.specs.declared.Position.{Position}
use Rattle.slots.specs.Slot.{empty_slot, standing}
use Rattle.steps.specs.declared.View.{View}
use Rattle.steps.specs.Mined.{confirm_entry}
use Rattle.steps.proofs.Unmoved.{pool_out, block_out}
use Rattle.position.specs.Position.{slot, in_pool, in_block}
use Rattle.position.specs.Owed.{waiting, enters}
use Rattle.position.specs.Effect.{leaves_pool, mine_slot, leaves_block, bump_slot}
use Rattle.position.specs.Forms.View.{view_below}
use Rattle.steps.specs.Forms.Blocks.{conflicted_in, mined_slot, displaced_in, bumped_slot, enters_in}
use Rattle.position.proofs.NoEntries.{out_of_block}

-- two rules that agree at what stands at each place
rewrite_at : {A : Type 0} (n : ℕ) (f g : ℕ → A → A) (l : List A) (d : A) → ((i : ℕ) → i < n → f i (get_or l i d) ≡ g i (get_or l i d)) → rewrite_first n f l ≡ rewrite_first n g l
unfolding rewrite_first
rewrite_at zero f g l d h = refl
rewrite_at (suc n) f g [] d h = refl
rewrite_at (suc n) f g (x ∷ l) d h = rw (h 0 (omega arith), rewrite_at n (λ i. f (suc i)) (λ i. g (suc i)) l d (λ i m. h (suc i) (omega arith)))

confirm_out : (s : List ℕ) (b t : ℕ) (p : Position) → in_block p t ≡ false → confirm_entry s b t (slot p t) ≡ slot p t
unfolding confirm_entry in_block
confirm_out s b t p h = rw h

-- the line meets the set of those with a rival in the set e where it meets a rival of a member of e
set_meets : (s : List ℕ) (e : ℕ) (member : ℕ → Bool) (t : ℕ) → count s ≤ 32 → t < count s → ((k : ℕ) → k < count s → bit e k ≡ member k)
    → in_ancestry s (bit (set_below (count s) (found_in s (bit e) false))) t ≡ meets_conflict s member t
unfolding found_in meets_conflict
set_meets s e member t few l h =
    in_ancestry_same s (bit (set_below (count s) (found_in s (bit e) false))) (conflict_in s member) t
    (λ k m. set_bit (count s) (found_in s (bit e) false) few k (omega arith) ∙ conflict_in_same s (bit e) member k h)

-- the same with a rival other than the member
pub set_meets_other : (s : List ℕ) (e : ℕ) (member : ℕ → Bool) (t : ℕ) → count s ≤ 32 → t < count s → ((k : ℕ) → k < count s → bit e k ≡ member k)
    → in_ancestry s (bit (set_below (count s) (found_in s (bit e) true))) t ≡ meets_other s member t
unfolding found_in meets_other other_conflict_in
set_meets_other s e member t few l h =
    in_ancestry_same s (bit (set_below (count s) (found_in s (bit e) true))) (other_conflict_in s member) t
    (λ k m. set_bit (count s) (found_in s (bit e) true) few k (omega arith)
    ∙ conflict_in_same s (λ j. not (eqb j k) && bit e j) (λ j. not (eqb j k) && member j) k (λ j i. ap (λ b. not (eqb j k) && b) (h j i)))

-- dead over the set e of the confirmed and the set of those whose other rival is confirmed
pub set_dead : (s : List ℕ) (e : ℕ) (member : ℕ → Bool) (t : ℕ) → count s ≤ 32 → t < count s → ((k : ℕ) → k < count s → bit e k ≡ member k)
    → dead_in s e (set_below (count s) (found_in s (bit e) true)) t ≡ invalidated s member t
unfolding dead_in invalidated
set_dead s e member t few l h = rw (h t l, set_meets_other s e member t few l h)

-- where something waits outside the block
mined_among : (s : List ℕ) (p : Position) (b m : ℕ) → count s ≤ 32 → b ≡ (view_below s (count s) p).block
    → m ≡ set_below (count s) (found_in s (bit (view_below s (count s) p).block) true)
    → (t : ℕ) → t < count s → mined_slot s (p.mined + 1) b m t (slot p t) ≡ mine_slot s p t (slot p t)
unfolding mined_slot mine_slot leaves_pool view_below
mined_among s p b m few f e t l =
    rw (f, e, set_bit (count s) (in_block p) few t l, set_meets_other s (set_below (count s) (in_block p)) (in_block p) t few l (set_bit (count s) (in_block p) few)) refl

-- where the whole pool is in the block nobody else leaves it, whatever the set
module _ (s : List ℕ) (p : Position) (b : ℕ) (few : count s ≤ 32) (f : b ≡ (view_below s (count s) p).block)
    (whole : bit_or (view_below s (count s) p).pool (view_below s (count s) p).block ≡ (view_below s (count s) p).block) where
  pool_in_block : (t : ℕ) → t < count s → in_block p t ≡ false → (slot p t).pool ≡ 0
  unfolding view_below in_pool standing
  pool_in_block t l h =
      let pool = set_below (count s) (in_pool p) in
      let block = set_below (count s) (in_block p) in
      let w : bit block t ≡ (bit pool t || bit block t) = ap (λ x. bit x t) (sym whole) ∙ bit_or_lem pool block t in
      let n : bit pool t ≡ false = (or_neither (bit pool t) (bit block t) (sym w ∙ set_bit (count s) (in_block p) few t l ∙ h)).0 in
      let z : ltb 0 (slot p t).pool ≡ false = sym (set_bit (count s) (in_pool p) few t l) ∙ n in
      omega (arith, ltb-false 0 (slot p t).pool z)

  mined_alone : (m t : ℕ) → t < count s → mined_slot s (p.mined + 1) b m t (slot p t) ≡ mine_slot s p t (slot p t)
  unfolding mined_slot mine_slot leaves_pool view_below
  mined_alone m t l =
      split (in_block p t)
      (λ y. rw (f, set_bit (count s) (in_block p) few t l, y))
      (λ y.
      let a = pool_in_block t l y in
      let c = confirm_out s (p.mined + 1) t p y in
      rw (c) (sym (pool_out (bit b t || in_ancestry s (bit m) t) (slot p t) a) ∙ pool_out (in_block p t || meets_other s (in_block p) t) (slot p t) a))

-- where v is the view that the code found
module _ (s : List ℕ) (p : Position) (v : View) (m : ℕ) (few : count s ≤ 32) (e : v ≡ view_below s (count s) p) (h : m ≡ conflicted_in s v) where
  pub mined_at : (t : ℕ) → t < count s → mined_slot s (p.mined + 1) v.block m t (slot p t) ≡ mine_slot s p t (slot p t)
  unfolding conflicted_in
  mined_at t l =
      let b = ap (λ (x : View). x.block) e in
      split (eqb (bit_or v.pool v.block) v.block)
      (λ y. mined_alone s p v.block few b (rw e at (eqb-true (bit_or v.pool v.block) v.block y)) m t l)
      (λ y. mined_among s p v.block m few b ((h ∙ rw y refl) ∙ ap (λ (x : View). set_below (count s) (found_in s (bit x.block) true)) e) t l)

  pub mined_right : rewrite_first (count s) (mined_slot s (p.mined + 1) v.block m) p.slots ≡ rewrite_first (count s) (mine_slot s p) p.slots
  unfolding slot
  mined_right = rewrite_at (count s) (mined_slot s (p.mined + 1) v.block m) (mine_slot s p) p.slots empty_slot mined_at

-- those that enter
enters_bit : (s : List ℕ) (p : Position) (t k : ℕ) → count s ≤ 32 → t < count s → k < count s
    → bit (set_below (count s) (enters_in (view_below s (count s) p) (line_set s t))) k ≡ enters s p t k
unfolding enters_in view_below enters waiting
enters_bit s p t k few l m =
    set_bit (count s) (enters_in (view_below s (count s) p) (line_set s t)) few k m
    ∙ rw (set_bit (count s) (in_pool p) few k m, set_bit (count s) (in_block p) few k m, line_bit s t k (omega arith) (omega arith))
    (sym (and_assoc (in_pool p k) (not (in_block p k)) (is_self_or_ancestor s k t)))

module _ (s : List ℕ) (p : Position) (v : View) (t e m : ℕ) (few : count s ≤ 32) (l : t < count s) (f : v ≡ view_below s (count s) p)
    (g : e ≡ set_below (count s) (enters_in v (line_set s t))) (h : m ≡ displaced_in s v e) where
  entering_at : (k : ℕ) → k < count s → bit e k ≡ enters s p t k
  entering_at k i =
      (ap (λ x. bit x k) g ∙ ap (λ (w : View). bit (set_below (count s) (enters_in w (line_set s t))) k) f) ∙ enters_bit s p t k few l i

  bumped_among : m ≡ set_below (count s) (found_in s (bit e) false) → (k : ℕ) → k < count s → bumped_slot s e m k (slot p k) ≡ bump_slot s p t k (slot p k)
  unfolding bumped_slot bump_slot leaves_block
  bumped_among z k i = rw (z, entering_at k i, set_meets s e (enters s p t) k few i entering_at)

  -- nobody leaves an empty block, whatever the set
  bumped_alone : v.block ≡ 0 → (k : ℕ) → k < count s → bumped_slot s e m k (slot p k) ≡ bump_slot s p t k (slot p k)
  unfolding bumped_slot bump_slot
  bumped_alone z k i =
      let a = out_of_block s p v few f k i (rw z (no_bit k)) in
      split (enters s p t k)
      (λ y. rw (entering_at k i, y))
      (λ y. rw (entering_at k i, y) (sym (block_out (in_ancestry s (bit m) k) (slot p k) a) ∙ block_out (leaves_block s (enters s p t) k) (slot p k) a))

  bumped_at : (k : ℕ) → k < count s → bumped_slot s e m k (slot p k) ≡ bump_slot s p t k (slot p k)
  unfolding displaced_in
  bumped_at =
      split (eqb v.block 0)
      (λ y. bumped_alone (eqb-true v.block 0 y))
      (λ y. bumped_among (h ∙ rw y refl))

  pub bumped_right : rewrite_first (count s) (bumped_slot s e m) p.slots ≡ rewrite_first (count s) (bump_slot s p t) p.slots
  unfolding slot
  bumped_right = rewrite_at (count s) (bumped_slot s e m) (bump_slot s p t) p.slots empty_slot bumped_at
