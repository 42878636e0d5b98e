-- The answer of commit, case by case, and what an answer of 0 says.
-- Assumes nothing.
use Rattle.laws.proofs.Prelude.{ℕ, ◌+◌, ◌-◌, ◌≤◌, ◌<◌, ◌≡◌, refl, sym, ap, ◌∙◌, Bool, true, false, List, [], ◌∷◌, ◌++◌, append-nil, eqb, leb, lit<, length, get_or, take}
use Rattle.laws.proofs.Prelude.{drop, set, length-drop, eqb-true, eqb-false, leb-true, eq-eqb, ne_eqb, le-leb, lt-leb, arith, take_all, drop-drop, split, and_parts}
use Rattle.laws.proofs.Prelude.{first_failing, over, stores_over}
use Rattle.position.proofs.Rules.{accepted, buffer_short, step, run}
use Rattle.position.specs.declared.Ran.{Ran}
use lib.ListN.{drop_of_length-le}
use borrow.Rule.Slice.PartMut.{put_mid}
use Rattle.sheet.specs.Refusal.{count_stale}
use Rattle.call_ask.specs.Ask.{length_right, open_run, step_count, step_of, step_number, own}
use Rattle.call_ask.specs.Commit.{length_within, commit_run, commit_tests, committed, commit_answer}
use Rattle.call_ask.proofs.Own.{own_passes, own_fails, own_parts}
use Rattle.call_ask.proofs.Opens.{opened_right, opened_run, opened_counts, open_bounds}
use Rattle.call_ask.proofs.Asks.{number_none, number_below}

-- the journal's run, where the length is beyond the buffer or not
module _ (s u buffer : List ℕ) (n : ℕ) (r : Ran) where
  pub run_beyond : length buffer < n → r ≡ open_run s u false buffer → r ≡ commit_run s u buffer n
  unfolding commit_run length_within
  run_beyond h e = rw (lt-leb n (length buffer) h, take_all n buffer (omega arith)) e

  pub run_within : n ≤ length buffer → (right : Bool) → right ≡ length_right n → r ≡ open_run s u right (take n buffer) → r ≡ commit_run s u buffer n
  unfolding commit_run length_within
  run_within h right l e = rw (le-leb n (length buffer) h, ← l) e

-- four bytes, one after the other, over a front
pub four_stores : (b l : List ℕ) → length b ≡ 4 → set (set (set (set l 0 (get_or b 0 0)) 1 (get_or b 1 0)) 2 (get_or b 2 0)) 3 (get_or b 3 0) ≡ over b l
four_stores [] l h = absurd (omega arith)
four_stores (k ∷ []) l h = absurd (omega arith)
four_stores (k ∷ a ∷ []) l h = absurd (omega arith)
four_stores (k ∷ a ∷ t ∷ []) l h = absurd (omega arith)
four_stores (k ∷ a ∷ t ∷ d ∷ []) l h = stores_over (k ∷ a ∷ t ∷ d ∷ []) l
four_stores (k ∷ a ∷ t ∷ d ∷ x ∷ b) l h = absurd (omega arith)

-- over the front of the part from n on
pub over_front : (b l : List ℕ) → length b ≤ length l → over b l ≡ b ++ drop (length b) l
unfolding over
over_front [] l h = refl
over_front (x ∷ b) [] h = absurd (omega arith)
over_front (x ∷ b) (y ∷ l) h = ap (λ r. x ∷ r) (over_front b l (omega arith))

pub part_written : (b buffer : List ℕ) (n k : ℕ) → length b ≡ 4 → n + 4 ≤ length buffer → k ≡ length buffer - n
    → (ys : List ℕ) → ys ≡ over b (take k (drop n buffer)) → put_mid n k buffer ys ≡ committed b buffer n
unfolding committed
part_written b buffer n k f h e ys o =
    let a : length (drop n buffer) ≤ k = omega (arith, length-drop n buffer) in
    let g : length b ≤ length (drop n buffer) = omega (arith, length-drop n buffer) in
    rw (o, take_all k (drop n buffer) a, drop_of_length-le (drop n buffer) a, append-nil, over_front b (drop n buffer) g, f, drop-drop 4 n buffer)

module _ (s u b : List ℕ) (c : ℕ) (buffer : List ℕ) (n : ℕ) where
  abbrev ran : Ran
  ran = commit_run s u buffer n

  abbrev pub number : ℕ
  number = first_failing (commit_tests s u ran b c buffer n)

  abbrev last : List (ℕ × Bool)
  last = (buffer_short, leb (n + 4) (length buffer)) ∷ []

  abbrev of_step : ℕ
  of_step = step_number s u ran.position b

  -- the tests one after another
  number_refused : (ran.refusal ≡ 0 → ⊥) → number ≡ ran.refusal
  unfolding commit_tests
  number_refused h = own_fails ran.refusal ((count_stale, eqb c (step_count (take n buffer))) ∷ own of_step ∷ last) h

  number_counted : ran.refusal ≡ 0 → (t : Bool) → eqb c (step_count (take n buffer)) ≡ t → number ≡ first_failing ((count_stale, t) ∷ own of_step ∷ last)
  unfolding commit_tests
  number_counted z t e = own_passes ran.refusal ((count_stale, eqb c (step_count (take n buffer))) ∷ own of_step ∷ last) z ∙ rw e

  pub number_stale : ran.refusal ≡ 0 → (c ≡ step_count (take n buffer) → ⊥) → number ≡ count_stale
  unfolding first_failing
  number_stale z h = number_counted z false (ne_eqb c (step_count (take n buffer)) h)

  number_step : ran.refusal ≡ 0 → c ≡ step_count (take n buffer) → number ≡ first_failing (own of_step ∷ last)
  unfolding first_failing
  number_step z e = number_counted z true (eq-eqb c (step_count (take n buffer)) e)

  number_last : ran.refusal ≡ 0 → c ≡ step_count (take n buffer) → of_step ≡ 0 → (t : Bool) → leb (n + 4) (length buffer) ≡ t → number ≡ first_failing ((buffer_short, t) ∷ [])
  number_last z e f t g = number_step z e ∙ own_passes of_step last f ∙ rw g

  -- the returns of the code, where r is the run that it found and x the step's number
  module _ (r : Ran) (e : r ≡ ran) where
    pub by_journal : (r.refusal ≡ 0 → ⊥) → r.refusal ≡ number
    by_journal h = rw e (sym (number_refused (λ z. h (rw e z))))

    module _ (z : r.refusal ≡ 0) where
      counted : r.accepted ≡ step_count (take n buffer)
      unfolding commit_run
      counted = opened_counts s u (take n buffer) (length_within buffer n) r e z

      pub by_count : (c ≡ r.accepted → ⊥) → count_stale ≡ number
      by_count h = sym (number_stale (rw e at z) (λ f. h (f ∙ sym counted)))

      module _ (f : c ≡ r.accepted) (x : ℕ) (g : x ≡ step_number s u r.position b) where
        pub by_step : (x ≡ 0 → ⊥) → x ≡ number
        by_step h =
            let y : x ≡ of_step = rw e at g in
            y ∙ sym (number_step (rw e at z) (f ∙ counted) ∙ own_fails of_step last (λ w. h (y ∙ w)))

        pub by_room : x ≡ 0 → length buffer < n + 4 → buffer_short ≡ number
        unfolding first_failing
        by_room y l = sym (number_last (rw e at z) (f ∙ counted) (sym (rw e at g) ∙ y) false (lt-leb (n + 4) (length buffer) l))

        pub by_none : x ≡ 0 → n + 4 ≤ length buffer → 0 ≡ number
        unfolding first_failing
        by_none y l = sym (number_last (rw e at z) (f ∙ counted) (sym (rw e at g) ∙ y) true (le-leb (n + 4) (length buffer) l))

  -- the journal was run: it stands within the buffer
  pub run_stands : (r : Ran) → r ≡ ran → r.refusal ≡ 0 → (n ≤ length buffer) × (length_right n ≡ true)
  unfolding commit_run length_within
  run_stands r e z =
      let w = and_parts (leb n (length buffer)) (length_right n) (opened_right s u (take n buffer) (length_within buffer n) (rw e at z)) in
      (leb-true n (length buffer) w.0, w.1)

  -- the two answers
  pub answer_no : (number ≡ 0 → ⊥) → commit_answer s u b c buffer n ≡ record { refusal = number; count = 0; buffer = buffer }
  unfolding commit_answer
  answer_no h = rw (ne_eqb number 0 h, commit_answer)

  pub answer_yes : number ≡ 0 → commit_answer s u b c buffer n ≡ record { refusal = accepted; count = 0; buffer = committed b buffer n }
  unfolding commit_answer
  answer_yes z = rw (eq-eqb number 0 z, commit_answer)

  pub answer_number : (commit_answer s u b c buffer n).refusal ≡ number
  answer_number =
      split (eqb number 0)
      (λ e. let z = eqb-true number 0 e in rw (answer_yes z, z))
      (λ e. rw (answer_no (eqb-false number 0 e)))

  -- what an answer of 0 says
  pub record Pass : Type 0 where
    pub within : n ≤ length buffer
    pub right : length_right n ≡ true
    pub runs : ran ≡ run s u (take n buffer)
    pub whole : ran.refusal ≡ 0
    pub count : c ≡ step_count (take n buffer)
    pub four : length b ≡ 4
    pub passes : (step s u ran.position (step_of b)).refusal ≡ 0
    pub room : n + 4 ≤ length buffer

  first_stale : first_failing ((count_stale, eqb c (step_count (take n buffer))) ∷ own of_step ∷ last) ≡ 0
      → (c ≡ step_count (take n buffer)) × (first_failing (own of_step ∷ last) ≡ 0)
  unfolding first_failing
  first_stale h =
      split (eqb c (step_count (take n buffer)))
      (λ e. (eqb-true c (step_count (take n buffer)) e, rw e at h))
      (λ e. absurd (eqb-false count_stale 0 refl (rw e at h)))

  first_short : first_failing last ≡ 0 → n + 4 ≤ length buffer
  unfolding first_failing
  first_short h =
      split (leb (n + 4) (length buffer))
      (λ e. leb-true (n + 4) (length buffer) e)
      (λ e. absurd (eqb-false buffer_short 0 refl (rw e at h)))

  pub pass : number ≡ 0 → Pass
  unfolding commit_tests commit_run
  pass h =
      let one = own_parts ran.refusal ((count_stale, eqb c (step_count (take n buffer))) ∷ own of_step ∷ last) h in
      let two = first_stale one.1 in
      let three = own_parts of_step last two.1 in
      let own = number_none s u ran.position b three.0 in
      let stands = run_stands ran refl one.0 in
      record {
        within = stands.0;
        right = stands.1;
        runs = opened_run s u (take n buffer) (length_within buffer n) one.0;
        whole = one.0;
        count = two.0;
        four = own.0;
        passes = own.1;
        room = first_short three.1;
      }

  ran_small : ran.refusal < 33
  unfolding commit_run
  ran_small = (open_bounds s u (take n buffer) (length_within buffer n)).0

  last_small : first_failing last < 36
  unfolding first_failing
  last_small = split (leb (n + 4) (length buffer)) (λ e. rw e (lit< tt)) (λ e. rw e (lit< tt))

  number_small : number < 36
  number_small =
      split (eqb ran.refusal 0)
      (λ e.
      let z = eqb-true ran.refusal 0 e in
      split (eqb c (step_count (take n buffer)))
      (λ f.
      let k = eqb-true c (step_count (take n buffer)) f in
      split (eqb of_step 0)
      (λ g. rw (number_step z k, own_passes of_step last (eqb-true of_step 0 g)) last_small)
      (λ g. rw (number_step z k, own_fails of_step last (eqb-false of_step 0 g)) (omega (arith, number_below s u ran.position b))))
      (λ f. rw (number_stale z (eqb-false c (step_count (take n buffer)) f)) (lit< tt)))
      (λ e. rw (number_refused (eqb-false ran.refusal 0 e)) (omega (arith, ran_small)))

  -- the number of a commit is one of the refusals to 35
  pub commit_below : (commit_answer s u b c buffer n).refusal < 36
  commit_below = rw answer_number number_small
