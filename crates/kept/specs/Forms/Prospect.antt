-- What each field of a prospect is, over the definitions of slack.
-- Assumes nothing.
use Rattle.std.specs.Prelude.{ℕ, ◌+◌, ◌*◌, ◌<◌, ◌≡◌, Bool, false, not, ◌&&◌, ◌||◌, List, eqb, ltb, leb, get_or}
use Rattle.laws.specs.Below.{any_below}
use Rattle.laws.specs.Sets.{set_below}
use Rattle.sheet.specs.Field.{count, parent, opening}
use Rattle.sheet.specs.Setup.{stealth}
use Rattle.sheet.specs.LockHeight.{never}
use Rattle.ledger.specs.Coin.{coin_of}
use Rattle.slots.specs.Destination.{is_payee, is_contract}
use Rattle.slots.specs.Ancestry.{is_self_or_ancestor}
use Rattle.position.specs.declared.Position.{Position}
use Rattle.position.specs.Position.{is_confirmed}
use Rattle.soonest.specs.Soonest.{greater}
use Rattle.attainable.specs.Attainable.{gone, secrets_of}
use Rattle.slack.specs.Beaten.{above, fixed, pooled, signs, any_late, stands, beats, last}
use Rattle.slack.specs.Kept.{known_at, comes_for_party, paid}
use Rattle.kept.specs.declared.Prospect.{Prospect}
use Rattle.kept.specs.Forms.Evaluation.{within, Bounded}

-- no height
abbrev pub none : ℕ
none = 4294967295

-- k stands, whatever X knows, and nothing beats it
unfoldable pub outlasts : List ℕ → List ℕ → Position → ℕ → ℕ → ℕ → ℕ → Bool
outlasts s u p x also off k =
    not (gone s p k)
    && ((is_contract s k || is_payee s k x)
    && ((not (eqb (stealth u) 0) || (pooled s p x k || not (any_late s u p x off k))) && not (any_below (count s) (beats s u p x also off k))))

-- the sets of a row
unfoldable pub parent_of : List ℕ → ℕ → ℕ
parent_of s t = set_below (count s) (λ r. not (opening s t) && eqb (parent s t) r)

unfoldable pub line_of : List ℕ → Position → ℕ → ℕ
line_of s p t = set_below (count s) (λ k. is_self_or_ancestor s k t && not (is_confirmed p k))

unfoldable pub aims_of : List ℕ → Position → ℕ → ℕ → ℕ
aims_of s p x t = set_below (count s) (λ w. not (eqb (coin_of s w) (coin_of s t)) && (is_payee s w x && not (is_confirmed p w)))

unfoldable pub only_of : List ℕ → List ℕ → Position → ℕ → ℕ → ℕ
only_of s u p x t = set_below (count s) (λ r. not (eqb r t) && comes_for_party s u p x t r)

-- what stands for t in each table
pub record SeenAt (s u : List ℕ) (p : Position) (x : ℕ) (q : Prospect) (t : ℕ) : Type 0 where
  pub up_is : get_or q.up t 0 ≡ parent_of s t
  pub line_is : get_or q.line t 0 ≡ line_of s p t
  pub aims_is : get_or q.aims t 0 ≡ aims_of s p x t
  pub only_is : get_or q.only t 0 ≡ only_of s u p x t
  pub known_is : get_or q.known t 0 ≡ known_at s p x t
  pub secrets_is : get_or q.secrets t 0 ≡ secrets_of s t
  pub lacks_tells : (know : ℕ) → within (get_or q.lacks t 0) know ≡ (signs s p x know t || pooled s p x t)
  pub fails_tells : (off : ℕ) → off < none → ltb off (get_or q.fails t 0) ≡ stands s u p x (known_at s p x t) off t
  pub ends_tells : (off : ℕ) → off + 1 < never → greater off (get_or q.ends t 0) + stealth u ≡ last s u p x (known_at s p x t) off t
  pub beat_tells : (r : ℕ) → r < count s → (off : ℕ) → off < none → leb (get_or q.beat (32 * t + r) 0) off ≡ beats s u p x 0 off t r
  pub until_tells : (k : ℕ) → k < count s → eqb (coin_of s k) (coin_of s t) ≡ false → (off : ℕ) → off < none
      → ltb off (get_or q.until (32 * t + k) 0) ≡ outlasts s u p x (above s p t) off k

-- q is what is read for the position p and the party x
pub record Seen (s u : List ℕ) (p : Position) (x : ℕ) (q : Prospect) : Type 0 where
  pub bounded : Bounded q
  pub count_is : q.count ≡ count s
  pub mined_is : q.mined ≡ p.mined
  pub stealth_is : q.stealth ≡ stealth u
  pub paid_is : q.paid ≡ paid s p x
  pub contract_is : q.contract ≡ set_below (count s) (is_contract s)
  pub fixed_is : q.fixed ≡ set_below (count s) (fixed s p)
  pub each : (t : ℕ) → t < count s → SeenAt s u p x q t
