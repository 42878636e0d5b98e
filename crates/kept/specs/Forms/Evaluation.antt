-- What is kept up to a height, over the tables of a prospect.
-- Assumes nothing.
use Rattle.std.specs.Prelude.{ℕ, zero, suc, ◌+◌, ◌*◌, ◌≤◌, ◌<◌, ◌≡◌, Bool, true, not, ◌&&◌, ◌||◌, List, eqb, ltb, leb, get_or}
use Rattle.std.specs.Int.Bits.{bit_and, bit_or}
use Rattle.laws.specs.Booleans.{pick}
use Rattle.laws.specs.Below.{any_below}
use Rattle.laws.specs.Least.{least_below}
use Rattle.laws.specs.Mask.{bit, union_below}
use Rattle.laws.specs.Sets.{joined, removed, set_below}
use Rattle.sheet.specs.LockHeight.{never}
use Rattle.soonest.specs.Soonest.{greater}
use Rattle.slack.specs.Kept.{longest}
use Rattle.kept.specs.declared.Prospect.{Prospect}
use Rattle.kept.specs.declared.kept.Aim.{Aim}

-- each bit of a is b's
unfoldable pub within : ℕ → ℕ → Bool
within a b = eqb (bit_and a b) a

-- those that stand and are unbeaten beside what is above t, where X knows this, up to a height
unfoldable pub clear_in : List ℕ → List ℕ → ℕ → ℕ → ℕ → ℕ → ℕ
clear_in lacks until n t know at = set_below n (λ k. within (get_or lacks k 0) know && ltb at (get_or until (32 * t + k) 0))

-- one that is aimed at has its line clear
unfoldable pub reaches_in : List ℕ → ℕ → ℕ → ℕ → Bool
reaches_in line n aims clear = any_below n (λ w. bit aims w && within (get_or line w 0) clear)

-- r, which beats t from the height `beat` on, neither comes for X only nor leaves a free line elsewhere, `secrets` being its own
unfoldable pub is_unmet_in : List ℕ → List ℕ → List ℕ → ℕ → Aim → ℕ → ℕ → ℕ → Bool
is_unmet_in lacks until line n a beat secrets r =
    leb beat a.off
    && (not (bit a.only r) && not (reaches_in line n a.aims (clear_in lacks until n a.t (bit_or a.know secrets) a.last)))

unfoldable pub unmet_in : List ℕ → List ℕ → List ℕ → List ℕ → List ℕ → ℕ → Aim → ℕ
unmet_in lacks until line secrets beat n a = set_below n (λ r. is_unmet_in lacks until line n a (get_or beat (32 * a.t + r) 0) (get_or secrets r 0) r)

-- those that must have a good child for t to be good: itself, which cannot help, where it fails
unfoldable pub needs_over : List ℕ → List ℕ → List ℕ → List ℕ → List ℕ → ℕ → Aim → ℕ → ℕ
needs_over lacks until line secrets beat n a fails =
    pick (ltb a.off fails) (unmet_in lacks until line secrets beat n a) (joined 0 true a.t)

unfoldable pub aim_in : Prospect → ℕ → ℕ → Aim
aim_in q off t =
    record {
      t = t;
      aims = get_or q.aims t 0;
      only = get_or q.only t 0;
      know = get_or q.known t 0;
      last = greater off (get_or q.ends t 0) + q.stealth;
      off = off;
    }

unfoldable pub needs_in : Prospect → ℕ → ℕ → ℕ
needs_in q off t =
    needs_over q.lacks q.until q.line q.secrets q.beat q.count (aim_in q off t) (get_or q.fails t 0)

-- the parents of the members of a set
unfoldable pub parents_in : List ℕ → ℕ → ℕ → ℕ
parents_in up n good = union_below n (λ c. pick (bit good c) (get_or up c 0) 0)

-- t is good, where a set tells the parents of the good ones so far
unfoldable pub good_in : ℕ → ℕ → ℕ → ℕ → Bool
good_in contract needs parents t = (not (bit contract t) || bit parents t) && within needs (removed parents t)

-- so many rounds, over what each transaction needs
unfoldable pub rounds_in : List ℕ → (ℕ → ℕ) → ℕ → ℕ → ℕ → ℕ
rounds_in up needs contract n zero = 0
rounds_in up needs contract n (suc k) =
    set_below n (λ t. good_in contract (needs t) (parents_in up n (rounds_in up needs contract n k)) t)

-- those that are good and have their parent confirmed or none
unfoldable pub reached_in : Prospect → ℕ → ℕ
reached_in q off = bit_and (rounds_in q.up (needs_in q off) q.contract q.count q.count) q.fixed

unfoldable pub kept_in : Prospect → ℕ → Bool
kept_in q off = q.paid || not (eqb (reached_in q off) 0)

-- those of a set that nothing beats
unfoldable pub sure_in : List ℕ → ℕ → ℕ → ℕ → ℕ
sure_in beat n found off = set_below n (λ t. bit found t && not (any_below n (λ r. leb (get_or beat (32 * t + r) 0) off)))

-- the lowest of a set, 255 if none
unfoldable pub lowest_in : ℕ → ℕ → ℕ
lowest_in n set = least_below n (bit set) (λ t. t) 255

-- what X counts on
unfoldable pub counted_in : Prospect → ℕ → ℕ
counted_in q off =
    let safe = lowest_in q.count (sure_in q.beat q.count (reached_in q off) off) in
    pick q.paid 255 (pick (eqb safe 255) (lowest_in q.count (reached_in q off)) safe)

-- the numbers of a prospect fit
pub record Bounded (q : Prospect) : Type 0 where
  pub few : q.count ≤ 32
  pub early : q.mined < 65536
  pub stealthy : q.stealth ≤ 1
  pub ending : (t : ℕ) → t < q.count → get_or q.ends t 0 ≤ never

-- kept for so many blocks
unfoldable pub kept_over : Prospect → ℕ → Bool
kept_over q k = kept_in q (q.mined + k)

-- what is kept for so many blocks, up to the longest outage that is asked for, is kept for fewer
abbrev pub Falls : Prospect → Type 0
Falls q = (k : ℕ) → k < longest → kept_over q (suc k) ≡ true → kept_over q k ≡ true
