-- What the answers of ask and commit say of each other, of run and of the open steps.
-- Assumes nothing.
use Rattle.laws.proofs.Prelude.{ℕ, ◌+◌, ◌%◌, ◌≤◌, ◌<◌, ◌≡◌, refl, sym, ap, ◌∙◌, true, false, ◌&&◌, List, ◌++◌, append_assoc, eqb, ltb, leb, length, take, drop}
use Rattle.laws.proofs.Prelude.{length-append, length-drop, eqb-true, eqb-false, ltb-true, ltb-false, eq-eqb, lt-ltb, le-ltb, le-leb, arith, drop_at, length-take-le}
use Rattle.laws.proofs.Prelude.{pick, split, and_parts}
use Rattle.position.proofs.Rules.{accepted, journal_length, buffer_short, run}
use lib.Seq.{take-append_seam, take_at}
use Rattle.call_run.proofs.Calls.{sheet_passes, setup_passes, journal_whole}
use Rattle.call_run.proofs.Runs.{run_checked}
use Rattle.step_laws.proofs.Theorems.{open_exact}
use Rattle.sheet.specs.Refusal.{count_stale}
use Rattle.call_ask.specs.Ask.{length_right, open_run, step_count, step_of, step_number, ask_answer}
use Rattle.call_ask.specs.Commit.{length_within, commit_run, committed, commit_answer}
use Rattle.call_ask.specs.Claim.{CommitAsAsked, Passed, NotTwice, Open, AskExact}
use Rattle.call_ask.proofs.Opens.{open_right, open_wrong, opened_right, opened_run, run_counts, by_length}
use Rattle.call_ask.proofs.Asks.{opened, asked_refused, asked_passed, number_four, number_none}
use Rattle.call_ask.proofs.Commits.{by_journal, by_count, by_step, by_room, by_none, answer_no, answer_yes, answer_number, number, pass}
use Rattle.call_ask.proofs.Appended.{one_more, whole, run_appended}

-- commit with ask's count, on a buffer that starts with the journal
module _ (s u j rest b : List ℕ) where
  abbrev before : List ℕ
  before = j ++ rest

  same_run : opened s u j b ≡ commit_run s u before (length j)
  unfolding commit_run length_within
  same_run =
      rw (take-append_seam j rest, le-leb (length j) (length before) (omega (arith, length-append j rest)))

  -- ask's count is the journal's where the journal is accepted
  same_count : (opened s u j b).refusal ≡ 0 → (opened s u j b).accepted ≡ step_count j
  same_count z = let e = opened_run s u j (length_right (length j)) z in rw e (run_counts s u j (rw e at z))

  abbrev asked : ℕ
  asked = step_number s u (opened s u j b).position b

  -- the number with the journal's count, by the step's number and the room
  with_count : (opened s u j b).refusal ≡ 0 → number s u b (step_count j) before (length j) ≡ pick (eqb asked accepted && ltb (length rest) 4) buffer_short asked
  with_count z =
      split (eqb asked 0)
      (λ e.
      let y = eqb-true asked 0 e in
      split (ltb (length rest) 4)
      (λ f.
      let l = ltb-true (length rest) 4 f in
      rw (e, f)
      (sym (by_room s u b (step_count j) before (length j) (opened s u j b) same_run z (sym (same_count z)) asked refl y
      (omega (arith, length-append j rest, l)))))
      (λ f.
      let l = ltb-false (length rest) 4 f in
      rw (e, f)
      (sym (by_none s u b (step_count j) before (length j) (opened s u j b) same_run z (sym (same_count z)) asked refl y
      (omega (arith, length-append j rest, l)))
      ∙ sym y)))
      (λ e.
      rw e
      (sym (by_step s u b (step_count j) before (length j) (opened s u j b) same_run z (sym (same_count z)) asked refl (eqb-false asked 0 e))))

pub commit_as_asked : CommitAsAsked
commit_as_asked s u j rest b =
    split (eqb (opened s u j b).refusal 0)
    (λ e.
    let z = eqb-true (opened s u j b).refusal 0 e in
    rw (asked_passed s u j b z, answer_number s u b (step_count j) (j ++ rest) (length j)) (with_count s u j rest b z))
    (λ e.
    let h = eqb-false (opened s u j b).refusal 0 e in
    let c = (opened s u j b).accepted in
    rw (asked_refused s u j b h, answer_number s u b c (j ++ rest) (length j), e)
    (sym (by_journal s u b c (j ++ rest) (length j) (opened s u j b) (same_run s u j rest b) h)))

-- a commit that passed
module _ (s u b : List ℕ) (c : ℕ) (buffer : List ℕ) (n : ℕ) (h : (commit_answer s u b c buffer n).refusal ≡ accepted) where
  abbrev j : List ℕ
  j = take n buffer

  none : number s u b c buffer n ≡ 0
  none = sym (answer_number s u b c buffer n) ∙ h

  -- its buffer, and the longer journal
  pub written : (commit_answer s u b c buffer n).buffer ≡ committed b buffer n
  written = rw (answer_yes s u b c buffer n none)

  long : length j ≡ n
  long = length-take-le n buffer (pass s u b c buffer n none).within

  front : length (j ++ b) ≡ n + 4
  front = omega (arith, length-append j b, long, (pass s u b c buffer n none).four)

  regroup : committed b buffer n ≡ (j ++ b) ++ drop (n + 4) buffer
  unfolding committed
  regroup = sym (append_assoc j b (drop (n + 4) buffer))

  longer : take (n + 4) (committed b buffer n) ≡ j ++ b
  longer = rw regroup (take_at (j ++ b) (drop (n + 4) buffer) (n + 4) front)

  kept : drop (n + 4) (committed b buffer n) ≡ drop (n + 4) buffer
  kept = rw regroup (drop_at (j ++ b) (drop (n + 4) buffer) (n + 4) front)

  same_long : length (committed b buffer n) ≡ length buffer
  same_long =
      rw regroup
      (omega (arith, length-append (j ++ b) (drop (n + 4) buffer), length-drop (n + 4) buffer, front, (pass s u b c buffer n none).room))

  accepts : (run s u j).refusal ≡ 0
  accepts = let w = pass s u b c buffer n none in rw (← w.runs) w.whole

  counts : (run s u j).accepted ≡ c
  counts = run_counts s u j accepts ∙ sym (pass s u b c buffer n none).count

  below : (n % 4 ≡ 0) × (n < 65536)
  unfolding length_right
  below =
      let w = and_parts (eqb (n % 4) 0) (ltb n 65536) (pass s u b c buffer n none).right in
      (eqb-true (n % 4) 0 w.0, ltb-true n 65536 w.1)

  pub appended : ((run s u (j ++ b)).refusal ≡ 0) × ((run s u (j ++ b)).accepted ≡ (run s u j).accepted + 1)
  appended =
      let w = pass s u b c buffer n none in
      run_appended s u j b accepts w.four (omega (arith, long, below.0, below.1)) (rw (← w.runs) w.passes)

  pub more : step_count (j ++ b) ≡ c + 1
  more =
      let w = pass s u b c buffer n none in
      one_more j b (whole s u j b accepts w.four) w.four ∙ ap (λ k. k + 1) (sym w.count)

  pub passed : Passed s u b c buffer n (commit_answer s u b c buffer n).buffer
  passed =
      rw written
      record {
        before = accepts;
        counted = counts;
        journal = longer;
        accepts = rw longer appended.0;
        longer = rw longer (appended.1 ∙ ap (λ k. k + 1) counts);
        whole = rw longer more;
        beyond = kept;
        long = same_long;
      }

  -- a second one
  module _ (b' : List ℕ) where
    abbrev after : List ℕ
    after = committed b buffer n

    within : leb (n + 4) (length after) ≡ true
    within = le-leb (n + 4) (length after) (omega (arith, same_long, (pass s u b c buffer n none).room))

    four : (n + 4) % 4 ≡ 0
    four = omega (arith, below.0)

    room_run : n + 4 < 65536 → run s u (j ++ b) ≡ commit_run s u after (n + 4)
    unfolding commit_run length_within length_right
    room_run l =
        rw (within, longer, eq-eqb ((n + 4) % 4) 0 four, lt-ltb (n + 4) 65536 l) (open_right s u (j ++ b))

    stale : n + 4 < 65536 → count_stale ≡ number s u b' c after (n + 4)
    stale l =
        by_count s u b' c after (n + 4) (run s u (j ++ b)) (room_run l) appended.0
        (λ e. omega (arith, e, appended.1, counts))

    full_run : 65536 ≤ n + 4 → open_run s u false (j ++ b) ≡ commit_run s u after (n + 4)
    unfolding commit_run length_within length_right
    full_run l = rw (within, longer, eq-eqb ((n + 4) % 4) 0 four, le-ltb (n + 4) 65536 l)

    full_number : (open_run s u false (j ++ b)).refusal ≡ journal_length
    full_number =
        let k = run_checked s u j accepts in
        rw (← (open_wrong s u (j ++ b)))
        (sym (by_length s u 0 0 (sym (sheet_passes s u j k)) refl (sym (setup_passes s u j k)) refl))

    full : 65536 ≤ n + 4 → journal_length ≡ number s u b' c after (n + 4)
    full l =
        sym full_number
        ∙ by_journal s u b' c after (n + 4) (open_run s u false (j ++ b)) (full_run l)
        (λ z. eqb-false journal_length 0 refl (sym full_number ∙ z))

    again : number s u b' c after (n + 4) ≡ pick (ltb (n + 4) 65536) count_stale journal_length
    again =
        split (ltb (n + 4) 65536)
        (λ e. rw e (sym (stale (ltb-true (n + 4) 65536 e))))
        (λ e. rw e (sym (full (ltb-false (n + 4) 65536 e))))

    refused : number s u b' c after (n + 4) ≡ 0 → ⊥
    refused z =
        split (ltb (n + 4) 65536)
        (λ e. eqb-false count_stale 0 refl (stale (ltb-true (n + 4) 65536 e) ∙ z))
        (λ e. eqb-false journal_length 0 refl (full (ltb-false (n + 4) 65536 e) ∙ z))

    pub second : ((commit_answer s u b' c after (n + 4)).refusal ≡ pick (ltb (n + 4) 65536) count_stale journal_length)
        × ((commit_answer s u b' c after (n + 4)).buffer ≡ after)
    second = (answer_number s u b' c after (n + 4) ∙ again, rw (answer_no s u b' c after (n + 4) refused))

pub not_twice : NotTwice
not_twice s u b c buffer n h b' = rw (written s u b c buffer n h) (second s u b c buffer n h b')

-- ask answers 0 exactly for an open step
module _ (s u j b : List ℕ) where
  to_open : (ask_answer s u j b).refusal ≡ accepted → Open s u j b
  unfolding length_right
  to_open h =
      split (eqb (opened s u j b).refusal 0)
      (λ e.
      let z = eqb-true (opened s u j b).refusal 0 e in
      let f = opened_run s u j (length_right (length j)) z in
      let x = number_none s u (opened s u j b).position b (rw (asked_passed s u j b z) at h) in
      let l = and_parts (eqb (length j % 4) 0) (ltb (length j) 65536) (opened_right s u j (length_right (length j)) z) in
      let y : (run s u j).refusal ≡ accepted = rw (← f) z in
      record {
        accepts = y;
        room = ltb-true (length j) 65536 l.1;
        four = x.0;
        listed = (open_exact s u (run s u j).position (step_of b) (sheet_passes s u j (run_checked s u j y))).0 (rw (← f) x.1);
      })
      (λ e. let n = eqb-false (opened s u j b).refusal 0 e in absurd (n (rw (asked_refused s u j b n) at h)))

  from_open : Open s u j b → (ask_answer s u j b).refusal ≡ accepted
  unfolding length_right
  from_open o =
      let k = run_checked s u j o.accepts in
      let l : length_right (length j) ≡ true = rw (eq-eqb (length j % 4) 0 (journal_whole s u j k).0, lt-ltb (length j) 65536 o.room) in
      let f : opened s u j b ≡ run s u j = rw l (sym (open_right s u j)) in
      let z : (opened s u j b).refusal ≡ 0 = rw f o.accepts in
      let x = (open_exact s u (run s u j).position (step_of b) (sheet_passes s u j k)).1 o.listed in
      rw (asked_passed s u j b z, f) (sym (number_four s u (run s u j).position b o.four) ∙ x)

pub ask_exact : AskExact
ask_exact s u j b = (to_open s u j b, from_open s u j b)
