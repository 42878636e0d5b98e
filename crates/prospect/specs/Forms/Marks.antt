-- What each field of the marks is, over the definitions of slack.
-- Assumes nothing.
use Rattle.std.specs.Prelude.{ℕ, ◌≤◌, ◌<◌, ◌≡◌, true, not, ◌&&◌, ◌||◌, List, eqb, get_or}
use Rattle.std.specs.Int.Bits.{bit_and}
use Rattle.laws.specs.Below.{any_below}
use Rattle.laws.specs.Mask.{bit}
use Rattle.laws.specs.Sets.{joined, removed, set_below}
use Rattle.sheet.specs.Field.{count}
use Rattle.sheet.specs.Setup.{stealth}
use Rattle.sheet.specs.LockHeight.{never}
use Rattle.ledger.specs.Coin.{coin_of}
use Rattle.slots.specs.Destination.{destinations, is_payee, is_contract}
use Rattle.slots.specs.Conflict.{conflict}
use Rattle.position.specs.declared.Position.{Position}
use Rattle.soonest.specs.Soonest.{since_locked}
use Rattle.soonest.specs.Forms.Table.{Filled}
use Rattle.attainable.specs.Attainable.{gone, waits_for}
use Rattle.slack.specs.Beaten.{above, fixed, runs, pooled, signs, lock_beside, comes_beside}
use Rattle.slack.specs.Kept.{known_at}
use Rattle.kept.specs.Forms.Prospect.{none}
use Rattle.prospect.specs.declared.Marks.{Marks}

-- h is the lock height of t
pub record OwnLock (s u : List ℕ) (p : Position) (t h : ℕ) : Type 0 where
  pub is : h ≡ lock_beside s u p t t
  pub small : h < none
  pub low : fixed s p t ≡ true → h ≤ never

-- m is what the position p tells for the party x
pub record Marked (s u : List ℕ) (p : Position) (x : ℕ) (m : Marks) : Type 0 where
  pub count_is : m.count ≡ count s
  pub stealth_is : m.stealth ≡ stealth u
  pub gone_is : m.gone ≡ set_below (count s) (gone s p)
  pub contract_is : m.contract ≡ set_below (count s) (is_contract s)
  pub payable_is : m.payable ≡ set_below (count s) (λ t. is_contract s t || is_payee s t x)
  pub pooled_is : m.pooled ≡ set_below (count s) (pooled s p x)
  pub signs_is : m.signs ≡ set_below (count s) (λ t. signs s p x (known_at s p x t) t)
  pub fixed_is : m.fixed ≡ set_below (count s) (fixed s p)
  pub runs_is : m.runs ≡ set_below (count s) (runs s u p x)
  pub since_is : m.since ≡ set_below (count s) (since_locked s)
  pub waits_is : m.waits ≡ set_below (count s) (λ t. any_below destinations (waits_for p t))
  pub apart_is : m.apart ≡ set_below (count s) (λ t. any_below destinations (λ d. not (eqb d x) && waits_for p t d))
  pub locks : Filled (OwnLock s u p) (count s) m.lock
  pub rivals_are : Filled (λ t v. v ≡ set_below (count s) (λ r. conflict s r t)) (count s) m.rivals
  pub above_are : Filled (λ t v. v ≡ above s p t) (count s) m.above
  pub foreign_are : Filled (λ t v. v ≡ set_below (count s) (λ k. not (eqb (coin_of s k) (coin_of s t)))) (count s) m.foreign

-- the members of come are the rivals of t that come beside it
pub record Comers (s u : List ℕ) (p : Position) (x also t come : ℕ) : Type 0 where
  pub tells : (r : ℕ) → r < count s → bit come r ≡ (conflict s r t && comes_beside s u p x also t r)

-- the rivals of t that come beside it, of what can come and what can come for another than X
unfoldable pub comers_in : Marks → ℕ → ℕ → ℕ → ℕ
comers_in m can elsewhere t =
    joined (removed (bit_and (get_or m.rivals t 0) can) t) (not (bit m.contract t) && bit elsewhere t) t
