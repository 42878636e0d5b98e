-- What a desk's answer says of each swap, and of the others when one changes or all change places. To be believed beside Bundle.antt and
-- Desk.antt: how an entry is read, and what "apart" and "reordered" mean.
-- Assumes nothing.
use Rattle.std.specs.Prelude.{ℕ, ◌+◌, ◌*◌, ◌≤◌, ◌<◌, ◌≡◌, ◌⊎◌, List, length}
use Rattle.laws.specs.Little.{number_at}
use Rattle.sheet.specs.Refusal.{accepted}
use Rattle.sheet.specs.Field.{byte}
use Rattle.position.specs.Play.{run}
use Rattle.call_desk.specs.Bundle.{swaps, setup_of, length_of, start_of, journal_of}
use Rattle.call_desk.specs.Desk.{desk_answer}

-- "for each swap its number and then its accepted count, 4 bytes each": the two numbers of entry i in a buffer
abbrev pub number_of : List ℕ → ℕ → ℕ
number_of out i = number_at 4 out (8 * i)

abbrev pub count_of : List ℕ → ℕ → ℕ
count_of out i = number_at 4 out (8 * i + 4)

-- "The answers .. equal those of single run calls in the same order.": where the call answers 0, entry i of the buffer is the number and
-- the count of a run of the sheet, the i-th setup and the i-th journal
abbrev pub SingleRuns : Type 0
SingleRuns =
    (s b out : List ℕ)
    → (desk_answer s b out).refusal ≡ accepted
    → (i : ℕ)
    → i < swaps b
    → (number_of (desk_answer s b out).buffer i ≡ (run s (setup_of b i) (journal_of b i)).refusal)
    × (count_of (desk_answer s b out).buffer i ≡ (run s (setup_of b i) (journal_of b i)).accepted)

-- place p is none of the n places from a on
abbrev pub Beside : ℕ → ℕ → ℕ → Type 0
Beside a n p = (p < a) ⊎ (a + n ≤ p)

-- two bundles that differ in swap i's setup and journal alone, each byte of them any: the others are the same, the lengths among them
pub record SwapApart (b c : List ℕ) (i : ℕ) : Type 0 where
  pub long : length c ≡ length b
  pub others : (p : ℕ) → Beside (1 + 4 * i) 4 p → Beside (start_of b i) (length_of b i) p → byte c p ≡ byte b p

-- "A refusal in one swap doesn't touch the others.": then both calls answer the same number, and every byte beside the eight of entry i
-- is the same afterwards, whatever the swap gets
abbrev pub OthersKept : Type 0
OthersKept =
    (s b c out : List ℕ) (i : ℕ)
    → i < swaps b
    → SwapApart b c i
    → ((desk_answer s c out).refusal ≡ (desk_answer s b out).refusal)
    × ((p : ℕ) → Beside (8 * i) 8 p → byte (desk_answer s c out).buffer p ≡ byte (desk_answer s b out).buffer p)

-- the swaps of c are those of b in other places: swap k of c is swap σ k of b
pub record Reordered (b c : List ℕ) (σ : ℕ → ℕ) : Type 0 where
  pub count : swaps c ≡ swaps b
  pub within : (k : ℕ) → k < swaps b → σ k < swaps b
  pub setups : (k : ℕ) → k < swaps b → setup_of c k ≡ setup_of b (σ k)
  pub journals : (k : ℕ) → k < swaps b → journal_of c k ≡ journal_of b (σ k)

-- then, where both calls answer 0, entry k of the one is entry σ k of the other; of every σ, so of every permutation
abbrev pub EntriesFollow : Type 0
EntriesFollow =
    (s b c out more : List ℕ) (σ : ℕ → ℕ)
    → Reordered b c σ
    → (desk_answer s b out).refusal ≡ accepted
    → (desk_answer s c more).refusal ≡ accepted
    → (k : ℕ)
    → k < swaps b
    → (number_of (desk_answer s c more).buffer k ≡ number_of (desk_answer s b out).buffer (σ k))
    × (count_of (desk_answer s c more).buffer k ≡ count_of (desk_answer s b out).buffer (σ k))
