-- What ask and commit say of each other, of run and of the list of open steps.
-- Assumes nothing.
use Rattle.std.specs.Prelude.{ℕ, ◌+◌, ◌<◌, ◌≡◌, ◌&&◌, eqb, ltb, length, take, drop}
use mathlib.Core.List.{List, Memᴰ, ◌++◌}
use Rattle.laws.specs.Booleans.{pick}
use Rattle.sheet.specs.Refusal.{accepted, journal_length, buffer_short, count_stale}
use Rattle.position.specs.Play.{run}
use Rattle.position.specs.Open.{list_steps}
use Rattle.call_ask.specs.Ask.{step_count, step_of, ask_answer}
use Rattle.call_ask.specs.Commit.{commit_answer}

-- "Commit answers a number: with sheet, setup, step and journal as in ask and ask's count given, it is ask's, 25 aside.": on a buffer that
-- starts with the journal j it is 25 exactly where ask's is 0 and fewer than four bytes are left
abbrev pub CommitAsAsked : Type 0
CommitAsAsked =
    (s u j rest b : List ℕ)
    → let asked = ask_answer s u j b in
    (commit_answer s u b asked.count (j ++ rest) (length j)).refusal
    ≡ pick (eqb asked.refusal accepted && ltb (length rest) 4) buffer_short asked.refusal

-- a commit that passed, with the buffer before and after
pub record Passed (s u b : List ℕ) (c : ℕ) (buffer : List ℕ) (n : ℕ) (after : List ℕ) : Type 0 where
  -- the journal of n bytes was accepted whole, and has c steps
  pub before : (run s u (take n buffer)).refusal ≡ accepted
  pub counted : (run s u (take n buffer)).accepted ≡ c
  -- the journal of n + 4 bytes is that one with the step behind it, and run accepts it whole, one step longer
  pub journal : take (n + 4) after ≡ take n buffer ++ b
  pub accepts : (run s u (take (n + 4) after)).refusal ≡ accepted
  pub longer : (run s u (take (n + 4) after)).accepted ≡ c + 1
  pub whole : step_count (take (n + 4) after) ≡ c + 1
  -- the bytes beyond it are as they were
  pub beyond : drop (n + 4) after ≡ drop (n + 4) buffer
  pub long : length after ≡ length buffer

abbrev pub CommitRuns : Type 0
CommitRuns =
    (s u b : List ℕ) (c : ℕ) (buffer : List ℕ) (n : ℕ)
    → (commit_answer s u b c buffer n).refusal ≡ accepted
    → Passed s u b c buffer n (commit_answer s u b c buffer n).buffer

-- "After a commit that passed, a second on the same count, with the length the first one left, can't pass.": whatever its step, it gets 35,
-- or 24 where the journal is now at 65,536 bytes, and changes nothing
abbrev pub NotTwice : Type 0
NotTwice =
    (s u b : List ℕ) (c : ℕ) (buffer : List ℕ) (n : ℕ)
    → (commit_answer s u b c buffer n).refusal ≡ accepted
    → (b' : List ℕ)
    → let after = (commit_answer s u b c buffer n).buffer in
    ((commit_answer s u b' c after (n + 4)).refusal ≡ pick (ltb (n + 4) 65536) count_stale journal_length)
    × ((commit_answer s u b' c after (n + 4)).buffer ≡ after)

-- the journal is accepted and not yet full, and the step is four bytes that stand in the list of open steps after it
pub record Open (s u j b : List ℕ) : Type 0 where
  pub accepts : (run s u j).refusal ≡ accepted
  pub room : length j < 65536
  pub four : length b ≡ 4
  pub listed : Memᴰ (step_of b) (list_steps s u (run s u j).position)

-- "asks whether a step would pass": ask answers 0 exactly for an open step
abbrev pub AskExact : Type 0
AskExact =
    (s u j b : List ℕ)
    → ((ask_answer s u j b).refusal ≡ accepted → Open s u j b) × (Open s u j b → (ask_answer s u j b).refusal ≡ accepted)
