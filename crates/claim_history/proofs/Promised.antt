-- The promise, for each return of the code.
-- Assumes nothing.
use Rattle.laws.proofs.Prelude.{ℕ, ◌*◌, ◌≤◌, ◌<◌, ◌≡◌, refl, sym, ap, ◌∙◌, List, length, take, arith, over, take_over}
use Rattle.position.proofs.Rules.{buffer_short, count, sheet_refusal, conduct, setup_refusal, row_width, holder_in, start, FourBytes, journal_steps, accepted_of, run}
use Rattle.position.specs.declared.Position.{Position}
use Rattle.sheet.proofs.Theorems.{setup_checked}
use Rattle.dated.specs.Report.{report_answer}
use Rattle.dated.proofs.ReportAnswers.{rows_after, rows_length, report_as}
use Rattle.position.proofs.Passing.{passed_whole}
use Rattle.step_laws.proofs.Journals.{journal_length_lem}
use Rattle.claim_ledger.specs.Claim.{position_of, report_of}
use Rattle.claim_ledger.proofs.Theorems.{agreement, played_as_journal}
use Rattle.claim_careful.specs.Claim.{Safe}
use Rattle.claim_careful.proofs.Theorems.{careful}
use Rattle.claim_history.specs.declared.Outcome.{Outcome}
use Rattle.claim_history.specs.Promise.{accepted_bytes, history_number, nobodies, holders, reported_holders, rows, Demand3}
use Rattle.claim_history.proofs.Entries.{written_entries}
use Rattle.claim_history.proofs.Numbers.{by_sheet, by_setup, by_accepted, by_report, by_none}

-- conduct 2 takes "the SASwap sheet for that number of blocks"
kept_safe : (s u : List ℕ) → setup_refusal s u ≡ 0 → conduct u ≡ 2 → (bs : List FourBytes) → Safe s u bs
kept_safe s u k c bs =
    let e = (setup_checked s u k).sheet_fits (omega (arith, c)) in
    rw e (careful u (rw e at k) c bs)

-- nothing played: n is the number
unplayed_promise : (s u j a o : List ℕ) (n : ℕ) (r : Outcome) → n ≡ history_number s u (journal_steps j) a o → (n ≡ 0 → ⊥)
    → r ≡ record { number = n; report = 0; position = start s; held = nobodies; reported = nobodies } → Demand3 s u j a o r a o
unplayed_promise s u j a o n r e z f =
    rw f
    (record {
      number = e;
      unplayed = λ y. record { position = refl; report = refl; held = refl; reported = refl; accepted_kept = refl; report_kept = refl };
      exact = λ y. absurd (z y);
      agreed = λ y. absurd (z y);
      guarded = λ y. absurd (z y);
    })

-- what was played: c accepted steps, with room for their bytes in a
module _ (s u j a : List ℕ) (c : ℕ) (q : c ≡ length (accepted_of s u (journal_steps j) (start s))) where
  abbrev bytes : List ℕ
  bytes = accepted_bytes s u (journal_steps j)

  bytes_length : length bytes ≡ 4 * c
  bytes_length = journal_length_lem (accepted_of s u (journal_steps j) (start s)) ∙ ap (λ n. 4 * n) (sym q)

  bytes_short : length a < 4 * c → length a < length bytes
  bytes_short l = rw bytes_length l

  module _ (m : 4 * c ≤ length a) where
    pub bytes_room : length bytes ≤ length a
    bytes_room = rw bytes_length m

    -- the accepted steps are the part of the buffer that was written
    part_written : (a' : List ℕ) → a' ≡ over bytes a → take (4 * c) a' ≡ bytes
    part_written a' e = rw (e, ← bytes_length) (take_over bytes a bytes_room)

    pub part_length : (a' : List ℕ) → a' ≡ over bytes a → 4 * c ≡ length (take (4 * c) a')
    part_length a' e = sym (ap length (part_written a' e) ∙ bytes_length)

-- the returns of the code
module _ (s u j a o : List ℕ) where
  abbrev bs : List FourBytes
  bs = journal_steps j

  -- x and y are what it found of the sheet and of the setup
  pub sheet_refused : (x : ℕ) (r : Outcome) → x ≡ sheet_refusal s → (x ≡ 0 → ⊥) → r ≡ record { number = x; report = 0; position = start s; held = nobodies; reported = nobodies }
      → Demand3 s u j a o r a o
  sheet_refused x r e z f = unplayed_promise s u j a o x r (e ∙ by_sheet s u bs a o (λ y. z (e ∙ y))) z f

  module _ (h : sheet_refusal s ≡ 0) where
    pub setup_refused : (y : ℕ) (r : Outcome) → y ≡ setup_refusal s u → (y ≡ 0 → ⊥) → r ≡ record { number = y; report = 0; position = start s; held = nobodies; reported = nobodies }
        → Demand3 s u j a o r a o
    setup_refused y r e z f = unplayed_promise s u j a o y r (e ∙ by_setup s u bs a o h (λ w. z (e ∙ w))) z f

    module _ (k : setup_refusal s u ≡ 0) (c : ℕ) (q : c ≡ length (accepted_of s u bs (start s))) where
      pub accepted_short : (r : Outcome) → length a < 4 * c → r ≡ record { number = buffer_short; report = 0; position = start s; held = nobodies; reported = nobodies } → Demand3 s u j a o r a o
      accepted_short r l f = unplayed_promise s u j a o buffer_short r (by_accepted s u bs a o h k (bytes_short s u j a c q l)) (λ z. omega (arith, z)) f

      module _ (m : 4 * c ≤ length a) where
        pub report_short : (r : Outcome) → length o < row_width * count s → r ≡ record { number = buffer_short; report = 0; position = start s; held = nobodies; reported = nobodies } → Demand3 s u j a o r a o
        report_short r l f = unplayed_promise s u j a o buffer_short r (by_report s u bs a o h k (bytes_room s u j a c q m) l) (λ z. omega (arith, z)) f

        module _ (l : row_width * count s ≤ length o) where
          -- the report of the accepted steps answers 0 where they are no more than a journal may have
          answers : length (accepted_bytes s u bs) ≤ 65536 → (report_of s u bs o).refusal ≡ 0
          answers b =
              let w = run s u (accepted_bytes s u bs) in
              let rows = rows_after s u (accepted_bytes s u bs) in
              rw
              (report_as s u (accepted_bytes s u bs) o, passed_whole w rows o 0 (rw (played_as_journal s u h k bs b)) (rw (rows_length s u (accepted_bytes s u bs)) l))

          -- p is the position, a' and o' are the buffers that were written, g is the report's answer, hs and rs are the holders that were read
          pub played_promise : (p : Position) (g : ℕ) (a' o' hs rs : List ℕ) → p ≡ position_of s u bs → a' ≡ over (accepted_bytes s u bs) a
              → g ≡ (report_answer s u (take (4 * c) a') o).refusal → o' ≡ (report_answer s u (take (4 * c) a') o).buffer
              → hs ≡ holders s (holder_in s p) → rs ≡ reported_holders g s (rows s o')
              → Demand3 s u j a o (record { number = 0; report = g; position = p; held = hs; reported = rs }) a' o'
          played_promise p g a' o' hs rs x y v w i k' =
              let e = part_written s u j a c q m a' y in
              let v' : g ≡ (report_of s u bs o).refusal = v ∙ rw e in
              let w' : o' ≡ (report_of s u bs o).buffer = w ∙ rw e in
              let d = agreement s u h k bs in
              record {
                number = by_none s u bs a o h k (bytes_room s u j a c q m) l;
                unplayed = λ z. absurd (z refl);
                exact = λ _. record { position = x; accepted_written = y; report = v'; report_written = w'; report_answers = λ b. v' ∙ answers b; held = i; reported = k' };
                agreed = λ _.
                    record {
                      accepts = d.accepts;
                      ordered = d.ordered;
                      position = rw x d.position;
                      report = λ z. rw w' (d.report o (sym v' ∙ z));
                      written = rw (bytes_length s u j a c q, e) (written_entries s u bs);
                    };
                guarded = λ _ t.
                    let f = kept_safe s u k t bs in
                    record { secrets = rw x f.secrets; position = rw x f.position; ledger = f.ledger; report = λ z. rw w' (f.report o (sym v' ∙ z)) };
              }
