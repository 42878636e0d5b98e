-- What an outage can cost: how soon a rival that is locked later can be confirmed, and what the verdict of an outage promises.
-- Assumes nothing.
use Rattle.std.specs.Prelude.{ℕ, ◌+◌, ◌*◌, ◌≤◌, ◌<◌, ◌≡◌, true, false, ◌⊎◌, List, [], ◌∷◌, ◌++◌}
use Rattle.std.proofs.Math.Option.{some}
use Rattle.laws.specs.All.{All}
use Rattle.sheet.specs.Refusal.{accepted}
use Rattle.sheet.specs.Field.{byte, count, parent, opening}
use Rattle.sheet.specs.Check.{sheet_refusal}
use Rattle.sheet.specs.Setup.{per_day, stealth, setup_refusal}
use Rattle.sheet.specs.LockHeight.{never}
use Rattle.slots.specs.Conflict.{conflict}
use Rattle.slots.specs.Invalidated.{invalidated}
use Rattle.ledger.specs.Entry.{Entry, in_order}
use Rattle.ledger.specs.Coin.{coin_of}
use Rattle.ledger.specs.Ledger.{lock_from, ledger}
use Rattle.position.specs.declared.Position.{Position}
use Rattle.position.specs.Position.{in_pool, pool_to, is_confirmed, confirmed_to, block_of, lock_height_in, deadline_in}
use Rattle.position.specs.Play.{FourBytes, run, play}
use Rattle.claim_ledger.specs.Claim.{entries_of, position_of}
use Rattle.soonest.specs.Soonest.{soonest_parent}
use Rattle.call_outage.specs.Verdict.{soonest_block_in, soonest_deadline_in, is_settled}
use Rattle.call_outage.specs.Answer.{outage_answer}

-- t's deadline stands: its parent is confirmed, or it is an opening
abbrev pub Fixed : List ℕ → Position → ℕ → Type 0
Fixed s p t = (opening s t ≡ true) ⊎ (is_confirmed p (parent s t) ≡ true)

-- the soonest deadline is at most the deadline, and equal to it where that stands
pub record Below (s u : List ℕ) (p : Position) (t : ℕ) : Type 0 where
  pub below : soonest_deadline_in s u p t ≤ deadline_in s u p t
  pub meet : Fixed s p t → soonest_deadline_in s u p t ≡ deadline_in s u p t

-- no rival of t that is locked later is confirmed
abbrev pub NoneLater : List ℕ → List ℕ → Position → ℕ → Type 0
NoneLater s u q t = (r : ℕ) → r < count s → conflict s r t ≡ true → is_confirmed q r ≡ true → lock_height_in s u q r ≤ lock_height_in s u q t

-- what is claimed of a transaction t between a position p and one that it leads to, q
pub record Between (s u : List ℕ) (p q : Position) (t : ℕ) : Type 0 where
  -- the soonest block and the soonest deadline do not fall, the report's deadline does not rise
  pub block_rises : soonest_block_in s u p t ≤ soonest_block_in s u q t
  pub deadline_rises : soonest_deadline_in s u p t ≤ soonest_deadline_in s u q t
  pub deadline_falls : deadline_in s u q t ≤ deadline_in s u p t
  -- t is confirmed in no block before its soonest one
  pub none_before : is_confirmed q t ≡ true → soonest_block_in s u p t ≤ block_of q t
  -- a rival that is confirmed, locked later than t, has a block above t's soonest deadline before; so up to that deadline there is none
  pub no_surprise : (r : ℕ) → r < count s → conflict s r t ≡ true → is_confirmed q r ≡ true → lock_height_in s u q t < lock_height_in s u q r
      → soonest_deadline_in s u p t + 1 ≤ block_of q r
  pub none_until : q.mined ≤ soonest_deadline_in s u p t → NoneLater s u q t

-- what has become of a pool entry of t that goes to a destination: it waits, before its deadline; it is confirmed for that destination; with
-- stealth, t is confirmed for another, who handed it in; or another rival, locked no later, is confirmed
pub data Fate (s u : List ℕ) (q : Position) (t to : ℕ) : Type 0 where
  waits : in_pool q t ≡ true → pool_to q t ≡ to → q.mined < deadline_in s u q t → Fate s u q t to
  done : is_confirmed q t ≡ true → confirmed_to q t ≡ to → Fate s u q t to
  replaced : stealth u ≡ 1 → is_confirmed q t ≡ true → (confirmed_to q t ≡ to → ⊥) → Fate s u q t to
  ousted : (r : ℕ) → r < count s → (r ≡ t → ⊥) → conflict s r t ≡ true → is_confirmed q r ≡ true → lock_height_in s u q r ≤ lock_height_in s u q t
      → Fate s u q t to

-- more entries, in blocks not mined yet, that the plain ledger takes in order behind those of a list, the last kept one of t's coin
-- being t's, in its soonest block
pub record Reached (s u : List ℕ) (now : List FourBytes) (t : ℕ) : Type 0 where
  pub more : List Entry
  pub last : Entry
  pub accepts : (ledger s (per_day u) (entries_of s u now ++ more)).accepts ≡ true
  pub kept : (ledger s (per_day u) (entries_of s u now ++ more)).kept (coin_of s t) ≡ some last
  pub names : last.transaction ≡ t
  pub when : last.block ≡ soonest_block_in s u (position_of s u now) t
  pub order : in_order (entries_of s u now ++ more) ≡ true
  pub each : All (λ e. (position_of s u now).mined < e.block) more

-- a rival of t that is locked later, in the block after t's soonest deadline: entries in blocks not mined yet, which the plain ledger
-- takes in order behind those of a list; the rival's is the last, behind their parent's, by whose block its lock is above t's
pub record Overtaken (s u : List ℕ) (now : List FourBytes) (t : ℕ) : Type 0 where
  pub front : List Entry
  pub above : Entry
  pub last : Entry
  pub accepts : (ledger s (per_day u) (entries_of s u now ++ (front ++ (last ∷ [])))).accepts ≡ true
  pub order : in_order (entries_of s u now ++ (front ++ (last ∷ []))) ≡ true
  pub each : All (λ e. (position_of s u now).mined < e.block) (front ++ (last ∷ []))
  pub behind : (ledger s (per_day u) (entries_of s u now ++ front)).kept (coin_of s t) ≡ some above
  pub parents : above.transaction ≡ parent s t
  pub rival : conflict s last.transaction t ≡ true
  pub later : lock_from s (per_day u) above.block t < lock_from s (per_day u) above.block last.transaction
  pub when : last.block ≡ soonest_deadline_in s u (position_of s u now) t + 1

-- what is claimed of a list of steps and any further one, whoever takes them, refused ones passed over
pub record Foreseen (s u : List ℕ) (now next : List FourBytes) : Type 0 where
  pub below : (t : ℕ) → t < count s → Below s u (position_of s u now) t
  pub between : (t : ℕ) → t < count s → Between s u (position_of s u now) (play s u next (position_of s u now)) t
  -- a pool entry is before its deadline; where that stands, it stays or is confirmed unless a rival locked no later is
  pub early : (t : ℕ) → t < count s → in_pool (position_of s u now) t ≡ true → (position_of s u now).mined < deadline_in s u (position_of s u now) t
  pub pool : (t : ℕ) → t < count s → in_pool (position_of s u now) t ≡ true → Fixed s (position_of s u now) t
      → Fate s u (play s u next (position_of s u now)) t (pool_to (position_of s u now) t)
  -- the soonest block is reached at the plain ledger, for t neither confirmed nor dead
  pub reached : (t : ℕ) → t < count s → is_confirmed (position_of s u now) t ≡ false → invalidated s (is_confirmed (position_of s u now)) t ≡ false
      → Reached s u now t
  -- and so is the block after the soonest deadline by a rival locked later, where that is not passed and the parent can be in time
  pub overtaken : (t : ℕ) → t < count s → is_confirmed (position_of s u now) t ≡ false → invalidated s (is_confirmed (position_of s u now)) t ≡ false
      → soonest_deadline_in s u (position_of s u now) t < never → (position_of s u now).mined ≤ soonest_deadline_in s u (position_of s u now) t
      → soonest_parent s (per_day u) (block_of (position_of s u now)) (position_of s u now).mined t ≤ soonest_deadline_in s u (position_of s u now) t + 1
      → Overtaken s u now t

-- for every sheet and setup whose checks give 0
abbrev pub Foresight : Type 0
Foresight = (s u : List ℕ) → sheet_refusal s ≡ accepted → setup_refusal s u ≡ accepted → (now next : List FourBytes) → Foreseen s u now next

-- what each byte of a verdict promises of t in position p, for an outage of so many blocks
pub data Promise (s u : List ℕ) (p : Position) (blocks t : ℕ) : ℕ → Type 0 where
  -- 0: not covered. After any list of steps that mines no more blocks than the outage's, no rival locked later is confirmed, and the
  -- deadline is not reached: t can still be sent before it
  clear : is_settled s p t ≡ false
      → p.mined + blocks < soonest_deadline_in s u p t
      → ((next : List FourBytes) → (play s u next p).mined ≤ p.mined + blocks
      → NoneLater s u (play s u next p) t × ((play s u next p).mined < deadline_in s u (play s u next p) t))
      → Promise s u p blocks t 0
  settled : is_settled s p t ≡ true → Promise s u p blocks t 1
  -- 2: whatever list of steps follows, it waits, is confirmed for whom it pays now, or gives way: to a rival locked no later, or with stealth
  -- to a hand-in of t for another
  safe : is_settled s p t ≡ false → ((next : List FourBytes) → Fate s u (play s u next p) t (pool_to p t)) → Promise s u p blocks t 2
  covered : is_settled s p t ≡ false → p.mined < soonest_deadline_in s u p t → soonest_deadline_in s u p t ≤ p.mined + blocks → Promise s u p blocks t 4
  -- passed: without stealth no hand-in is left to lose; with it, any outage risks one
  passed : is_settled s p t ≡ false → soonest_deadline_in s u p t ≤ p.mined → stealth u ≡ 0 → Promise s u p blocks t 8
  late : is_settled s p t ≡ false → soonest_deadline_in s u p t ≤ p.mined → stealth u ≡ 1 → Promise s u p blocks t 12

-- the planner's promise, by what a caller of outage reads: the first byte of each row, where the call answers 0
abbrev pub Planner : Type 0
Planner =
    (s u j : List ℕ) (blocks : ℕ) (out : List ℕ) → (outage_answer s u j blocks out).refusal ≡ accepted → (t : ℕ) → t < count s
    → Promise s u (run s u j).position blocks t (byte (outage_answer s u j blocks out).buffer (10 * t))
