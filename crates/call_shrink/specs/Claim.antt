-- What the part that is written is, and that the rounds end.
-- Assumes nothing.
use Rattle.std.specs.Prelude.{ℕ, suc, ◌+◌, ◌*◌, ◌<◌, ◌≡◌, ◌⊎◌, length, take, drop}
use mathlib.Core.List.{List, [], ◌∷◌, ◌++◌, Sublistᴰ}
use Rattle.sheet.specs.Refusal.{accepted}
use Rattle.position.specs.Play.{FourBytes, journal_steps, journal_bytes, run}
use Rattle.position.specs.Answers.{Written}
use Rattle.call_shrink.specs.Shrink.{round, rounds, shrunk, shrink_answer}

-- a row that, run as a journal, "still runs up to" its last step "and gets the same number there"
pub record RunsUpTo (s u : List ℕ) (number : ℕ) (row : List FourBytes) : Type 0 where
  pub gets : (run s u (journal_bytes row)).refusal ≡ number
  pub at_last : (run s u (journal_bytes row)).accepted + 1 ≡ length row

-- the row without its step i
abbrev pub without : ℕ → List FourBytes → List FourBytes
without i row = take i row ++ drop (suc i) row

-- the few steps of a refused journal j
pub record Few (s u j : List ℕ) (part : List FourBytes) : Type 0 where
  -- "a part of the journal, steps in their old order, that ends with the refused step": steps from before the refused one, and this one
  pub before : List FourBytes
  pub refused : FourBytes
  pub ends : part ≡ before ++ (refused ∷ [])
  pub order : Sublistᴰ before (take (run s u j).accepted (journal_steps j))
  pub is_refused : drop (run s u j).accepted (journal_steps j) ≡ refused ∷ drop (suc (run s u j).accepted) (journal_steps j)
  -- "still runs up to it and gets the same number there"
  pub runs : RunsUpTo s u (run s u j).refusal part
  -- "Dropping one other step from the part must lose that."
  pub needed : (i : ℕ) → suc i < length part → RunsUpTo s u (run s u j).refusal (without i part) → ⊥

-- what the call wrote: the bytes of these steps, as many as it says
pub record WroteFew (s u j : List ℕ) (w : Written) : Type 0 where
  pub part : List FourBytes
  pub count : w.count ≡ length part
  pub bytes : take (4 * w.count) w.buffer ≡ journal_bytes part
  pub few : Few s u j part

abbrev pub FewWritten : Type 0
FewWritten = (s u j out : List ℕ) → (shrink_answer s u j out).refusal ≡ accepted → WroteFew s u j (shrink_answer s u j out)

-- "and repeat until a full round drops none": each round but the last drops a step, a further round on what is left drops none, and more
-- rounds than there are steps come to the same
abbrev pub RoundsEnd : Type 0
RoundsEnd =
    (s u : List ℕ) (number : ℕ) (row : List FourBytes)
    → ((round s u number row ≡ row) ⊎ (length (round s u number row) < length row))
    × (round s u number (shrunk s u number row) ≡ shrunk s u number row)
    × ((k : ℕ) → rounds s u number (length row + k) row ≡ shrunk s u number row)
