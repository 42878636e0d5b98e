-- What is proved of the open steps, of every position that steps lead to, and of the order of a send's tests.
-- Assumes nothing.
use Rattle.laws.proofs.Prelude.{ℕ, ◌≤◌, ◌≡◌, refl, List, eqb, length, List-as-Memᴰ, pick}
use Rattle.position.proofs.Rules.{accepted, parties, count, signatures, sheet_refusal, conduct, setup_refusal, Step, slot_count, start, FourBytes, step, run, play}
use Rattle.position.specs.declared.Position.{Position}
use Rattle.position.proofs.Rules.{open_steps, listed_before, paying_first}
use Rattle.laws.specs.Members.{Rising}
use Rattle.sheet.proofs.Theorems.{sheet_checked, setup_checked}
use Rattle.position.specs.Open.{list_steps}
use Rattle.step_laws.specs.Wellformed.{Wellformed}
use Rattle.step_laws.specs.ListBound.{most_open}
use Rattle.step_laws.specs.OlderOrder.{older_paying_first, SameButBoth, older_run, SameRun}
use Rattle.step_laws.proofs.ListedBytes
use Rattle.step_laws.proofs.ListSize
use Rattle.step_laws.proofs.Wellformeds
use Rattle.step_laws.proofs.OlderOrders
use Rattle.step_laws.proofs.OlderRuns

-- Four bytes are accepted as a step on a position if and only if they stand in the list for that position.
pub open_exact : (s u : List ℕ) (p : Position) (b : FourBytes) → sheet_refusal s ≡ 0 → ((step s u p b).refusal ≡ accepted → List-as-Memᴰ b (list_steps s u p)) × (List-as-Memᴰ b (list_steps s u p) → (step s u p b).refusal ≡ accepted)
open_exact s u p b h = (ListedBytes.accepted_listed s u p b (sheet_checked s h), ListedBytes.listed_accepted s u p b)

-- The list rises by actor, kind, transaction and destination: each step stands before every later one.
pub list_rises : (s u : List ℕ) (p : Position) → Rising (listed_before s) (list_steps s u p)
list_rises = ListedBytes.list_rises

-- It has at most (P² + 2P)·n + ⌊P²/4⌋·m + 1 steps for P parties, n transactions and m signatures, and P first shares more where the conduct is not open.
pub list_few : (s u : List ℕ) (p : Position) → count s ≤ slot_count → signatures s ≤ slot_count
    → length (open_steps s u p) ≤ most_open (parties s) (count s) (signatures s) (pick (eqb (conduct u) 0) 0 1)
list_few = ListSize.list_few

-- So on every checked sheet with its setup it has at most what 32 transactions and 8 signatures give under open conduct.
pub list_most : (s u : List ℕ) (p : Position) → sheet_refusal s ≡ 0 → setup_refusal s u ≡ 0 → length (open_steps s u p) ≤ most_open (parties s) 32 8 0
list_most s u p h k = ListSize.list_most s u p (sheet_checked s h) (setup_checked s u k)

-- That is 265 for two parties, and 497 for three.
pub list_size : (s u : List ℕ) (p : Position) → sheet_refusal s ≡ 0 → setup_refusal s u ≡ 0
    → (parties s ≡ 2 → length (open_steps s u p) ≤ 265) × (parties s ≡ 3 → length (open_steps s u p) ≤ 497)
list_size s u p h k = ((λ e. rw e at (list_most s u p h k)), (λ e. rw e at (list_most s u p h k)))

-- By example, with that of the SASwap sheet under conduct 1 and 2.
pub most_open_lem : (most_open 2 32 8 0 ≡ 265) × (most_open 3 32 8 0 ≡ 497) × (most_open 2 15 4 1 ≡ 127)
most_open_lem = (refl, refl, refl)

-- The empty journal's position is well formed on a checked sheet.
pub wellformed_start : (s : List ℕ) → sheet_refusal s ≡ 0 → Wellformed s (start s)
wellformed_start s h = Wellformeds.wellformed_start s (sheet_checked s h)

-- A step of any four bytes, accepted or not, keeps a position well formed, whatever the setup.
pub wellformed_step : (s u : List ℕ) (p : Position) (b : FourBytes) → sheet_refusal s ≡ 0 → Wellformed s p → Wellformed s (step s u p b).position
wellformed_step s u p b h = Wellformeds.wellformed_step s u (sheet_checked s h) p b

-- So does every list of steps, refused ones passed over.
pub wellformed_play : (s u : List ℕ) (bs : List FourBytes) (p : Position) → sheet_refusal s ≡ 0 → Wellformed s p → Wellformed s (play s u bs p)
wellformed_play s u bs p h = Wellformeds.wellformed_play s u (sheet_checked s h) bs p

-- The position after a journal, refused or not, is well formed on a checked sheet.
pub wellformed_run : (s u j : List ℕ) → sheet_refusal s ≡ 0 → Wellformed s (run s u j).position
wellformed_run s u j h = Wellformeds.wellformed_run s u (sheet_checked s h) j

-- Slip 3: for every sheet, setup, position and step the answer by document 01's order and the present one are the same, but for a send
-- that met both 16 and 17, which got 16 and gets 17.
pub lock_before_signature : (s u : List ℕ) (p : Position) (x : Step) → SameButBoth s u p x
lock_before_signature = OlderOrders.same_but_both

-- Paying first, which asks whether a send would pass, says what it said.
pub paying_first_kept : (s u : List ℕ) (p : Position) (party t : ℕ) → older_paying_first s u p party t ≡ paying_first s u p party t
paying_first_kept = OlderOrders.paying_first_lem

-- A journal runs as far as it did and to the same position; its number is the one it got, or 17 for 16.
pub runs_as_far : (s u j : List ℕ) → SameRun (older_run s u j) (run s u j)
runs_as_far = OlderRuns.same_run
