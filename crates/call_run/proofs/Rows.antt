-- A row of steps with its counts and its view: what is left of it, what it is without them, and with the counts.
-- Assumes nothing.
use Rattle.laws.proofs.Prelude.{ℕ, ◌+◌, ◌*◌, ◌≤◌, ◌<◌, ◌≡◌, refl, sym, ◌∙◌, Bool, true, false, List, [], ◌∷◌, eqb, length, eqb-true, eq-eqb, ne_eqb, pick, split, removed}
use Rattle.position.proofs.Rules.{accepted, step_field, count, Fit, Step, Option, Some, None, View, slot, FourBytes, journal_steps, decode_bytes}
use Rattle.position.specs.declared.Position.{Position}
use Rattle.position.specs.declared.Stepped.{Stepped}
use Rattle.position.specs.declared.Ran.{Ran}
use Rattle.position.proofs.Rules.{take_step, take_decoded, step, run_from, step_at, view_below}
use Rattle.steps.specs.Forms.View.{view_after, view_passed}
use Rattle.position.specs.Forms.Seen.{changed_set, lowest}
use Rattle.position.proofs.SeenAfter.{seen_none, seen_one}
use Rattle.position.proofs.StepCases.{refused_same}
use Rattle.dated.specs.declared.Dated.{Dated}
use Rattle.dated.specs.Dated.{noted, dated_step, dated_run_from, DatedRun}
use Rattle.dated.proofs.Stepping as dated
use Rattle.call_run.specs.declared.row.RowRan.{RowRan}
use Rattle.call_run.specs.Forms.Row.{noted_if, stopped_at, run_row}
use Rattle.call_run.proofs.Groups.{groups_from, groups_all, groups_next, groups_none}
use Rattle.position.proofs.RowSteps.{run_next, run_stops, run_ends}

module _ (asked : Bool) (s u : List ℕ) where
  -- a row by its first step
  row_next : (b : FourBytes) (bs : List FourBytes) (c : ℕ) (p : Position) (counts : List ℕ) → eqb (step s u p b).refusal accepted ≡ true
      → run_row asked s u (b ∷ bs) c p counts ≡ run_row asked s u bs (c + 1) (step s u p b).position (noted_if asked s u (step s u p b).position counts)
  unfolding run_row
  row_next b bs c p counts h = rw (h, run_row)

  row_stops : (b : FourBytes) (bs : List FourBytes) (c : ℕ) (p : Position) (counts : List ℕ) → eqb (step s u p b).refusal accepted ≡ false
      → run_row asked s u (b ∷ bs) c p counts ≡ stopped_at s (step s u p b).refusal c p counts
  unfolding run_row
  row_stops b bs c p counts h = rw (h, run_row)

  row_ends : (c : ℕ) (p : Position) (counts : List ℕ) → run_row asked s u [] c p counts ≡ stopped_at s accepted c p counts
  unfolding run_row
  row_ends c p counts = refl

  -- the view is that of the position
  row_view : (bs : List FourBytes) (c : ℕ) (p : Position) (counts : List ℕ) → (run_row asked s u bs c p counts).view ≡ view_below s (count s) (run_row asked s u bs c p counts).position
  unfolding stopped_at
  row_view [] c p counts = rw (row_ends c p counts) refl
  row_view (b ∷ bs) c p counts =
      split (eqb (step s u p b).refusal accepted)
      (λ e. rw (row_next b bs c p counts e) (row_view bs (c + 1) (step s u p b).position (noted_if asked s u (step s u p b).position counts)))
      (λ e. rw (row_stops b bs c p counts e) refl)

  -- the same of what the code found
  pub view_found : (bs : List FourBytes) (c : ℕ) (p : Position) (counts : List ℕ) (r : RowRan) → r ≡ run_row asked s u bs c p counts → r.view ≡ view_below s (count s) r.position
  view_found bs c p counts r e = rw e (row_view bs c p counts)

-- without counts and view
abbrev pub ran_of : RowRan → Ran
ran_of r = record { refusal = r.refusal; accepted = r.accepted; position = r.position }

pub row_ran : (asked : Bool) (s u : List ℕ) (bs : List FourBytes) (c : ℕ) (p : Position) (counts : List ℕ) → ran_of (run_row asked s u bs c p counts) ≡ run_from s u bs c p
unfolding stopped_at
row_ran asked s u [] c p counts = rw (row_ends asked s u c p counts, run_ends s u c p) refl
row_ran asked s u (b ∷ bs) c p counts =
    split (eqb (step s u p b).refusal accepted)
    (λ e.
    rw (row_next asked s u b bs c p counts e, run_next s u b bs c p e)
    (row_ran asked s u bs (c + 1) (step s u p b).position (noted_if asked s u (step s u p b).position counts)))
    (λ e. rw (row_stops asked s u b bs c p counts e, run_stops s u b bs c p e) refl)

-- with the counts that were asked for
abbrev pub dated_of : RowRan → DatedRun
dated_of r = record { refusal = r.refusal; accepted = r.accepted; dated = record { position = r.position; opened = r.opened } }

pub row_dated : (s u : List ℕ) (bs : List FourBytes) (c : ℕ) (p : Position) (counts : List ℕ)
    → dated_of (run_row true s u bs c p counts) ≡ dated_run_from s u bs c (record { position = p; opened = counts })
unfolding stopped_at noted_if
row_dated s u [] c p counts = rw (row_ends true s u c p counts, dated.run_ends s u c (record { position = p; opened = counts })) refl
row_dated s u (b ∷ bs) c p counts =
    let d : Dated = record { position = p; opened = counts } in
    split (eqb (step s u p b).refusal accepted)
    (λ e.
    let t = dated.step_taken s u d b e in
    let n : eqb (dated_step s u d b).refusal accepted ≡ true = rw t refl in
    rw (row_next true s u b bs c p counts e, dated.run_next s u b bs c d n, t)
    (row_dated s u bs (c + 1) (step s u p b).position (noted s u (step s u p b).position counts)))
    (λ e.
    let t = dated.step_refused s u d b e in
    let n : eqb (dated_step s u d b).refusal accepted ≡ false = rw t e in
    rw (row_stops true s u b bs c p counts e, dated.run_stops s u b bs c d n, t) refl)

module _ (asked : Bool) (s u j : List ℕ) where
  -- what is left to do of the journal: its steps from step k on, after k accepted ones
  unfoldable pub left_from : ℕ → Position → List ℕ → RowRan
  left_from k p counts = run_row asked s u (groups_from j k) k p counts

  pub left_all : (p : Position) (counts : List ℕ) → left_from 0 p counts ≡ run_row asked s u (journal_steps j) 0 p counts
  unfolding left_from
  left_all p counts = rw (groups_all j)

  module _ (k : ℕ) (p : Position) (counts : List ℕ) (w : RowRan) (a : left_from k p counts ≡ w) where
    -- a turn, where r is what came back of step k, and w the whole: it goes on, or it stops
    module _ (h : 4 * k + 4 ≤ length j) (r : Stepped) (f : r ≡ step s u p (step_at j (4 * k))) where
      pub left_on : (o : List ℕ) → r.refusal ≡ 0 → o ≡ noted_if asked s u r.position counts → left_from (k + 1) r.position o ≡ w
      unfolding left_from
      left_on o z g =
          let b = step_at j (4 * k) in
          let e = rw (groups_next j k h) at a in
          rw (g, f) (sym (row_next asked s u b (groups_from j (k + 1)) k p counts (eq-eqb (step s u p b).refusal 0 (rw f at z))) ∙ e)

      pub left_stopped : (v : View) → v ≡ view_below s (count s) p → (r.refusal ≡ 0 → ⊥) → record { refusal = r.refusal; accepted = k; position = r.position; opened = counts; view = v } ≡ w
      unfolding left_from stopped_at
      left_stopped v g z =
          let b = step_at j (4 * k) in
          let e = rw (groups_next j k h) at a in
          let n = ne_eqb (step s u p b).refusal 0 (rw f at z) in
          rw (g, f, refused_same s u p b n) (sym (row_stops asked s u b (groups_from j (k + 1)) k p counts n) ∙ e)

    -- no step is left
    pub left_ended : (v : View) → v ≡ view_below s (count s) p → length j < 4 * k + 4 → record { refusal = 0; accepted = k; position = p; opened = counts; view = v } ≡ w
    unfolding left_from stopped_at
    left_ended v g h = let e = rw (groups_none j k h) at a in rw g (sym (row_ends asked s u k p counts) ∙ e)

-- a step of four bytes, where d is what was decoded
module _ (s u : List ℕ) (p : Position) (b : FourBytes) (d : Option Step) (f : d ≡ decode_bytes s u b) where
  -- it is matched, and r is what came back from the method of its kind
  pub matched : (x y : Step) (r : Stepped) (q : Position) (n : ℕ) → d ≡ Some x → x ≡ y → r ≡ take_step s u p y → q ≡ r.position → n ≡ r.refusal
      → ◌≡◌ {A = Stepped} (record { refusal = n; position = q }) (step s u p b)
  unfolding step take_decoded
  matched x y r q n g e h i k = rw (i, k, h, ← f, g, e) refl

  -- it is none
  pub unread : d ≡ None → ◌≡◌ {A = Stepped} (record { refusal = step_field; position = p }) (step s u p b)
  unfolding step take_decoded
  unread g = rw (← f, g) refl

-- the view after an accepted step that changed one slot or none
pub seen_few : (s u : List ℕ) (p : Position) (v : View) → Fit s u → v ≡ view_below s (count s) p → (b : FourBytes) (r : Stepped) → r ≡ step s u p b → r.refusal ≡ 0
    → (members at : ℕ) → members ≡ changed_set v b.kind b.transaction → at ≡ lowest members → removed members at ≡ 0
    → pick (eqb members 0) (view_passed v r.position.mined r.position.keys) (view_after v at (slot r.position at) r.position.mined r.position.keys) ≡ view_below s (count s) r.position
seen_few s u p v fit e b r f z members at d i h =
    split (eqb members 0)
    (λ y. rw y (seen_none s u p v fit e b r f z members d (eqb-true members 0 y)))
    (λ y. rw y (seen_one s u p v fit e b r f z members d at i h))
