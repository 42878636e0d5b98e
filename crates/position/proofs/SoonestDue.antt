-- The soonest deadline ahead of those that wait outside the block: a bump is owed where the next block is it, and an empty block leaves it.
-- Assumes nothing.
use Rattle.laws.proofs.Prelude.{ℕ, ◌+◌, ◌≤◌, ◌<◌, ◌≡◌, refl, sym, ap, ◌∙◌, Bool, true, false, ◌&&◌, List, [], ◌∷◌, eqb, ltb, get_or, eqb-true, eqb-false, ltb-true}
use Rattle.laws.proofs.Prelude.{ltb-false, lt-ltb, le-ltb, eq-eqb, ne_eqb, not-true, arith, pick, split, clash, and_parts, first_failing, passed, any_found, any_some}
use Rattle.laws.proofs.Prelude.{any_none, least_same, least_le, least_from}
use Rattle.laws.specs.Least.{least_reached}
use Rattle.sheet.specs.Field.{count}
use Rattle.sheet.specs.LockHeight.{never}
use Rattle.sheet.specs.Checked.{Checked}
use Rattle.sheet.specs.Refusal.{accepted}
use Rattle.slots.specs.declared.Destination.{Destination}
use Rattle.slots.specs.declared.Step.{Step}
use Rattle.slots.specs.declared.Step.TheVariants.{Share, Give, SendToPool, HandToMiner, Include, Mine, Bump}
use Rattle.steps.specs.declared.View.{View}
use Rattle.steps.specs.Decode.{step_bytes}
use Rattle.steps.specs.Forms.Mining.{still_due, mine_tests_in}
use Rattle.position.specs.declared.Position.{Position}
use Rattle.position.specs.Position.{slot, in_pool, in_block, block_of, deadline_in}
use Rattle.position.specs.Owed.{waiting, owed, any_owed}
use Rattle.position.specs.declared.Stepped.{Stepped}
use Rattle.position.specs.Tests.{mine_tests}
use Rattle.position.specs.StepRefusal.{tests, step_refusal}
use Rattle.position.specs.Effect.{with_mined, effect}
use Rattle.position.specs.Play.{FourBytes, decode_bytes, step}
use Rattle.position.specs.Forms.Owed.{soonest_due, due_before, DueKnown}
use Rattle.position.specs.Forms.View.{view_below}
use Rattle.position.proofs.Decoding.{decodes}
use Rattle.position.proofs.EmptyBlocks.{mine_empty}
use Rattle.position.proofs.MineTests.{mine_answer}
use Rattle.position.proofs.StepCases.{StepCase, taken, turned_down, step_case}

module _ (s u : List ℕ) (p : Position) where
  abbrev ahead : ℕ → Bool
  ahead t = waiting p t && ltb p.mined (deadline_in s u p t)

  -- an empty block
  after : Position
  after = with_mined (p.mined + 1) p

  same_waiting : (k : ℕ) → waiting after k ≡ waiting p k
  unfolding after with_mined waiting in_pool in_block slot
  same_waiting k = refl

  same_deadline : (k : ℕ) → deadline_in s u after k ≡ deadline_in s u p k
  unfolding after with_mined deadline_in block_of slot
  same_deadline k = refl

  turn : (k : ℕ) → owed s u p k ≡ false
      → pick (waiting after k && ltb after.mined (deadline_in s u after k)) (deadline_in s u after k) never ≡ pick (ahead k) (deadline_in s u p k) never
  unfolding owed after with_mined
  turn k o =
      let d = deadline_in s u p k in
      rw (same_waiting k, same_deadline k)
      (split (waiting p k)
      (λ w.
      let n = eqb-false (p.mined + 1) d (rw w at o) in
      split (ltb (p.mined + 1) d)
      (λ y. rw (w, y, lt-ltb p.mined d (omega (arith, ltb-true (p.mined + 1) d y))) refl)
      (λ y. rw (w, y, le-ltb p.mined d (omega (arith, ltb-false (p.mined + 1) d y, n))) refl))
      (λ w. rw w refl))

  pub due_kept : any_owed s u p ≡ false → soonest_due s u (with_mined (p.mined + 1) p) ≡ soonest_due s u p
  unfolding soonest_due any_owed after
  due_kept none =
      least_same (count s) (λ t. waiting after t && ltb after.mined (deadline_in s u after t)) ahead (deadline_in s u after) (deadline_in s u p) never
      (λ k l. turn k (any_none (count s) (owed s u p) none k l))

-- a bump is owed where the next block is it
module _ (s u : List ℕ) (p : Position) (small : p.mined < 65536) where
  -- no member is before the next block
  low : p.mined + 1 ≤ soonest_due s u p
  unfolding soonest_due
  low =
      least_from (ahead s u p) (deadline_in s u p) never (p.mined + 1) (count s) (omega arith)
      (λ k l e. omega (arith, ltb-true p.mined (deadline_in s u p k) (and_parts (waiting p k) (ltb p.mined (deadline_in s u p k)) e).1))

  owed_soonest : any_owed s u p ≡ true → p.mined + 1 ≡ soonest_due s u p
  unfolding any_owed owed soonest_due
  owed_soonest h =
      let w = any_some (count s) (owed s u p) h in
      let y = and_parts (waiting p w.0) (eqb (p.mined + 1) (deadline_in s u p w.0)) w.2 in
      let e : p.mined + 1 ≡ deadline_in s u p w.0 = eqb-true (p.mined + 1) (deadline_in s u p w.0) y.1 in
      let a : ahead s u p w.0 ≡ true = rw y.0 (lt-ltb p.mined (deadline_in s u p w.0) (omega (arith, e))) in
      let m = least_le (ahead s u p) (deadline_in s u p) never (count s) w.0 w.1 a in
      omega (arith, e, m, low)

  soonest_owed : p.mined + 1 ≡ soonest_due s u p → any_owed s u p ≡ true
  unfolding any_owed owed soonest_due
  soonest_owed h =
      let w = least_reached (ahead s u p) (deadline_in s u p) never (count s) (omega (arith, h)) in
      any_found (count s) w.0 (owed s u p) w.1
      (rw (and_parts (waiting p w.0) (ltb p.mined (deadline_in s u p w.0)) w.2).0 (eq-eqb (p.mined + 1) (deadline_in s u p w.0) (h ∙ sym w.3)))

-- where v is the view, due the deadline and b the answer that the code found
next_due : (s u : List ℕ) (p : Position) (v : View) (n due : ℕ) (b : Bool) → v.mined < 65536 → v ≡ view_below s n p → due ≡ soonest_due s u p → b ≡ eqb (v.mined + 1) due → b ≡ any_owed s u p
unfolding view_below
next_due s u p v n due b small f e h =
    let m : v.mined ≡ p.mined = rw f in
    let l : p.mined < 65536 = rw m at small in
    h ∙ rw (m, e)
    (split (any_owed s u p)
    (λ y. rw y (eq-eqb (p.mined + 1) (soonest_due s u p) (owed_soonest s u p l y)))
    (λ y. rw y (ne_eqb (p.mined + 1) (soonest_due s u p) (λ z. clash (soonest_owed s u p l z) y))))

-- the tests of a block by it, where any and r are what the code found
pub mine_found : (s u : List ℕ) (p : Position) → Checked s → (v : View) (due : ℕ) (any : Bool) (r : ℕ) → v ≡ view_below s (count s) p → due ≡ soonest_due s u p
    → (any ≡ eqb (v.mined + 1) due) × (v.mined < 65536) → r ≡ first_failing (mine_tests_in v any) → r ≡ first_failing (mine_tests s u p)
mine_found s u p ok v due any r e f a h = mine_answer s u p ok v any r e (next_due s u p v (count s) due any a.1 e f a.0) h

-- where the step that was read from the bytes is a block
pub mine_due : (s u : List ℕ) (p : Position) (due k a t d party n : ℕ) (to : Destination) (x : Step) → x ≡ Mine party n to → step_bytes x ≡ k ∷ a ∷ t ∷ d ∷ [] → due ≡ due_before s u p k → due ≡ soonest_due s u p
unfolding step_bytes due_before
mine_due s u p due k a t d party n to x e w h =
    let j : 6 ≡ k = ap (λ (l : List ℕ). get_or l 0 0) (rw e at w) in
    h ∙ rw (← j) refl

-- a step of four bytes, where r is what the code got from it
module _ (s u : List ℕ) (p : Position) (v : View) (few : count s ≤ 32) (e : v ≡ view_below s (count s) p) where
  -- kind 6, with nothing in the block
  mined : (x : Step) → get_or (step_bytes x) 0 0 ≡ 6 → step_refusal s u p x ≡ accepted → v.block ≡ 0 → soonest_due s u (effect s p x) ≡ soonest_due s u p
  unfolding step_bytes effect step_refusal tests mine_tests
  mined (Share a t to) k h z = absurd (omega (arith, k))
  mined (Give a t to) k h z = absurd (omega (arith, k))
  mined (SendToPool a t to) k h z = absurd (omega (arith, k))
  mined (HandToMiner a t to) k h z = absurd (omega (arith, k))
  mined (Include a t to) k h z = absurd (omega (arith, k))
  mined (Mine a t to) k h z =
      rw (mine_empty s p few (rw e at z)) (due_kept s u p (not-true (any_owed s u p) (passed _ refl h 20)))
  mined (Bump a t to) k h z = absurd (omega (arith, k))

  module _ (b : FourBytes) (r : Stepped) (f : r ≡ step s u p b) (z : r.refusal ≡ 0) (due known : ℕ) (g : due ≡ due_before s u p b.kind) (h : known ≡ still_due b.kind v.block due) where
    kept : eqb b.kind 6 ≡ true → v.block ≡ 0 → soonest_due s u r.position ≡ soonest_due s u p
    unfolding decode_bytes
    kept k o = by (step_case s u p b)
      where
        by : StepCase s u p b → soonest_due s u r.position ≡ soonest_due s u p
        by (taken x d i a q) =
            let w = (decodes s u b.kind b.party b.transaction b.destination x d).bytes in
            let j : get_or (step_bytes x) 0 0 ≡ b.kind = ap (λ (l : List ℕ). get_or l 0 0) w in
            rw (f, q) (mined x (j ∙ eqb-true b.kind 6 k) a o)
        by (turned_down n m q) = clash (eq-eqb n 0 (sym (ap (λ (y : Stepped). y.refusal) (f ∙ q)) ∙ z)) m

    -- what is known after it
    pub known_after : DueKnown s u r.position known
    unfolding still_due due_before
    known_after n =
        split (eqb b.kind 6 && eqb v.block 0)
        (λ y.
        let w = and_parts (eqb b.kind 6) _ y in
        let a : known ≡ due = rw y at h in
        let d : due ≡ soonest_due s u p = rw w.0 at g in
        a ∙ d ∙ sym (kept w.0 (eqb-true v.block 0 w.1)))
        (λ y. absurd (n (rw y at h)))
