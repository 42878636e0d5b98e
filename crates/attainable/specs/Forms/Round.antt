-- What can come, from what is read once, and what the functions answer.
-- Assumes nothing.
use Rattle.std.specs.Prelude.{ℕ, ◌-◌, ◌≡◌, Bool, false, ◌&&◌, ◌||◌, List, get_or}
use Rattle.std.specs.Int.Bits.{bit_and, bit_or}
use Rattle.laws.specs.Booleans.{pick}
use Rattle.laws.specs.Climb.{climb}
use Rattle.laws.specs.Mask.{bit, union_below}
use Rattle.laws.specs.Sets.{set_below}
use Rattle.sheet.specs.Field.{count, parent}
use Rattle.slots.specs.Ancestry.{has_parent}
use Rattle.position.specs.declared.Position.{Position}
use Rattle.attainable.specs.declared.Others.{Others}
use Rattle.attainable.specs.Attainable.{attainable, attainable_elsewhere}
use Rattle.attainable.specs.Forms.Others.{meets, Reads}

-- one of the lacks for the four destinations is met
unfoldable pub meets_one : ℕ → ℕ → ℕ → ℕ → ℕ → Bool
meets_one secrets a b c d = meets secrets c || (meets secrets a || (meets secrets b || meets secrets d))

-- the others can sign t for some destination with these secrets
unfoldable pub signs_in : Others → ℕ → ℕ → Bool
signs_in o secrets t = meets_one secrets (get_or o.alice t 0) (get_or o.bob t 0) (get_or o.contract t 0) (get_or o.carol t 0)

unfoldable pub signers : List ℕ → Others → ℕ → ℕ
signers s o secrets = set_below (count s) (signs_in o secrets)

-- those that are asked for or signed, and not gone
unfoldable pub can_of : List ℕ → Others → ℕ → ℕ → ℕ
can_of s o asked secrets = bit_and (bit_or asked (signers s o secrets)) (4294967295 - o.gone)

-- the line of t is in the set `can` up to an opening or a child of a confirmed one
unfoldable pub reach_in : List ℕ → ℕ → ℕ → ℕ → Bool
reach_in s confirmed can t = climb (parent s) (λ k above. bit can k && (has_parent s (bit confirmed) k || above)) false t

unfoldable pub reach_set : List ℕ → ℕ → ℕ → ℕ
reach_set s confirmed can = set_below (count s) (reach_in s confirmed can)

-- what t shows as a member of a set, by a table
unfoldable pub shown_at : List ℕ → ℕ → ℕ → ℕ
shown_at shows members t = pick (bit members t) (get_or shows t 0) 0

-- the secrets that the members of a set show
unfoldable pub shown_in : List ℕ → List ℕ → ℕ → ℕ
shown_in s shows members = union_below (count s) (shown_at shows members)

-- those that wait or that X sends; with a destination other than X
unfoldable pub asked_in : Others → ℕ → ℕ
asked_in o also = bit_or o.waits (bit_and also o.sends)

unfoldable pub asked_elsewhere : Others → ℕ → ℕ
asked_elsewhere o also = bit_or o.waits_elsewhere (bit_and also o.sends_elsewhere)

-- r is what can come without X, of every position and party of which the record was read
pub record Attains (s : List ℕ) (o : Others) (also r : ℕ) : Type 0 where
  pub is : (u : List ℕ) (p : Position) (x : ℕ) → Reads s u p x o → r ≡ attainable s u p x (bit also)

-- r is what can come with a destination other than X
pub record AttainsElsewhere (s : List ℕ) (o : Others) (also r : ℕ) : Type 0 where
  pub is : (u : List ℕ) (p : Position) (x : ℕ) → Reads s u p x o → r ≡ attainable_elsewhere s u p x (bit also)
