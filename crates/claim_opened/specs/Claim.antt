-- What is claimed of the counts of document 02's Slip 9.
-- Assumes nothing.
use Rattle.std.specs.Prelude.{ℕ, ◌<◌, ◌≤◌, ◌≡◌, true, false, eqb}
use mathlib.Core.List.{List, [], ◌∷◌, Memᴰ}
use Rattle.laws.specs.Failing.{first_failing}
use Rattle.sheet.specs.Refusal.{accepted}
use Rattle.sheet.specs.Field.{count}
use Rattle.sheet.specs.LockHeight.{never}
use Rattle.position.specs.declared.Position.{Position}
use Rattle.position.specs.Position.{start}
use Rattle.position.specs.Play.{FourBytes, journal_steps, step, run_from, call_tests, run}
use Rattle.position.specs.Open.{open_steps}
use Rattle.dated.specs.declared.Dated.{Dated}
use Rattle.dated.specs.Opens.{opens}
use Rattle.dated.specs.Dated.{count_of, dated_step, dated_run_from, dated_run, forgotten}

-- "this count, on which nothing a step decides may depend": two positions that differ in their counts alone ..
abbrev pub SameButCounts : Dated → Dated → Type 0
SameButCounts d e = d.position ≡ e.position

-- .. refuse and accept the same steps with the same numbers, have the same open steps, and lead to such two again
pub record Undecided (s u : List ℕ) (d e : Dated) : Type 0 where
  pub numbers : (b : FourBytes) → (dated_step s u d b).refusal ≡ (dated_step s u e b).refusal
  pub open_steps_lem : open_steps s u d.position ≡ open_steps s u e.position
  pub onwards : (b : FourBytes) → SameButCounts (dated_step s u d b).dated (dated_step s u e b).dated

abbrev pub CountsDecideNothing : Type 0
CountsDecideNothing = (s u : List ℕ) (d e : Dated) → SameButCounts d e → Undecided s u d e

-- "Demand 2's position is the model's beside this count": without the counts a step, a row of steps and a journal are the model's
pub record Forgets (s u : List ℕ) : Type 0 where
  pub numbers : (d : Dated) (b : FourBytes) → (dated_step s u d b).refusal ≡ (step s u d.position b).refusal
  pub positions : (d : Dated) (b : FourBytes) → (dated_step s u d b).dated.position ≡ (step s u d.position b).position
  pub rows : (bs : List FourBytes) (c : ℕ) (d : Dated) → forgotten (dated_run_from s u bs c d) ≡ run_from s u bs c d.position
  pub journals : (j : List ℕ) → forgotten (dated_run s u j) ≡ run s u j

abbrev pub ModelBesideCounts : Type 0
ModelBesideCounts = (s u : List ℕ) → Forgets s u

-- "the empty journal's position and .. that after each accepted step": the positions along a row of steps from p on, up to the first
-- refused one
unfoldable pub along : List ℕ → List ℕ → List FourBytes → Position → List Position
along s u [] p = p ∷ []
along s u (b ∷ bs) p =
    p ∷ (elim (eqb (step s u p b).refusal accepted) [ true ↦ along s u bs (step s u p b).position | false ↦ [] ])

-- where c comes from: t was open in none of these positions, or c is the blocks mined in one that has it open
pub data Cause (s u : List ℕ) (t : ℕ) (ps : List Position) (c : ℕ) : Type 0 where
  never_open : c ≡ never → ((q : Position) → Memᴰ q ps → opens s u q t ≡ false) → Cause s u t ps c
  open_in : (q : Position) → Memᴰ q ps → opens s u q t ≡ true → c ≡ q.mined → Cause s u t ps c

-- "the count of blocks mined when it was first open": c is the least number of blocks mined in a position of these that has t open,
-- "2147483647 where never open"
pub record Least (s u : List ℕ) (t : ℕ) (ps : List Position) (c : ℕ) : Type 0 where
  pub cause : Cause s u t ps c
  pub least : (q : Position) → Memᴰ q ps → opens s u q t ≡ true → c ≤ q.mined

-- of each transaction, after every journal whose checks before any step pass, accepted whole or not
abbrev pub FirstOpen : Type 0
FirstOpen =
    (s u j : List ℕ) → first_failing (call_tests s u j) ≡ accepted → (t : ℕ) → t < count s
    → Least s u t (along s u (journal_steps j) (start s)) (count_of (dated_run s u j).dated t)

-- a count once set never changes, by no step and no row of steps, whatever the position
pub record Stays (s u : List ℕ) (t : ℕ) (d : Dated) : Type 0 where
  pub steps : (b : FourBytes) → count_of (dated_step s u d b).dated t ≡ count_of d t
  pub rows : (bs : List FourBytes) (c : ℕ) → count_of (dated_run_from s u bs c d).dated t ≡ count_of d t

abbrev pub CountsStay : Type 0
CountsStay = (s u : List ℕ) (t : ℕ) (d : Dated) → (count_of d t ≡ never → ⊥) → Stays s u t d
