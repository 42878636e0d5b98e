-- What the laws of slack ask for between a position p, as X counts on it, and one that a step without X leads to, q, as X counts on it then;
-- and what the block in between can do.
-- Assumes nothing.
use Rattle.laws.proofs.Prelude.{ℕ, ◌+◌, ◌≤◌, ◌<◌, ◌≡◌, true, false, List, ◌⊎◌, eqb, bit}
use Rattle.position.proofs.Rules.{count, parent, opening, stealth, destinations, is_contract, conflict}
use Rattle.position.specs.declared.Position.{Position}
use Rattle.position.proofs.Rules.{in_pool, pool_to, block_of, is_confirmed, confirmed_to, shared, holds, lock_height_in, deadline_in, block_limit}
use Rattle.attainable.specs.Attainable.{gone, secrets_of, waits_for, attainable, attainable_elsewhere}
use Rattle.slack.specs.Beaten.{fixed, can_come_elsewhere, stands, beats}
use Rattle.slack.proofs.Onward.{Within, Fewer, soonest_above, secrets_shown}

-- what is confirmed, or settled in the block being filled, stands alone among its rivals and has its parent so
pub record Linked (s : List ℕ) (p : Position) : Type 0 where
  pub limit : p.mined ≤ block_limit
  pub numbered : (t : ℕ) → t < count s → block_of p t ≤ p.mined + 1
  pub parents : (t : ℕ) → t < count s → is_confirmed p t ≡ true → opening s t ≡ false → is_confirmed p (parent s t) ≡ true
  pub alone : (t k : ℕ) → t < count s → k < count s → is_confirmed p t ≡ true → is_confirmed p k ≡ true → conflict s k t ≡ true → k ≡ t

-- a pool entry stands alone among its rivals, its lock is met and its deadline not
pub record Pending (s u : List ℕ) (p : Position) : Type 0 where
  pub alone : (t k : ℕ) → t < count s → k < count s → in_pool p t ≡ true → in_pool p k ≡ true → conflict s k t ≡ true → k ≡ t
  pub locks : (t : ℕ) → t < count s → in_pool p t ≡ true → lock_height_in s u p t ≤ p.mined
  pub early : (t : ℕ) → t < count s → in_pool p t ≡ true → p.mined < deadline_in s u p t

-- t comes for d in the next block: it waits, or is sent with its lock met; without stealth from the pool
pub record Came (s u : List ℕ) (p : Position) (x t d : ℕ) : Type 0 where
  pub small : d < destinations
  pub in_time_lem : (waits_for p t d ≡ true) ⊎ (lock_height_in s u p t ≤ p.mined)
  pub pooled : stealth u ≡ 0 → (in_pool p t ≡ true) × (pool_to p t ≡ d)
  pub comes : (a : ℕ) → bit (attainable s u p x (bit a)) t ≡ true
  pub elsewhere : (a : ℕ) → eqb d x ≡ false → bit (attainable_elsewhere s u p x (bit a)) t ≡ true

pub record Ahead (s u : List ℕ) (p q : Position) (x : ℕ) : Type 0 where
  pub before : Linked s p
  pub after : Linked s q
  pub waiting : Pending s u p
  -- what is confirmed stays; what is confirmed then and was not came for its destination
  pub stays : (t : ℕ) → t < count s → is_confirmed p t ≡ true → (block_of q t ≡ block_of p t) × (confirmed_to q t ≡ confirmed_to p t)
  pub came : (t : ℕ) → t < count s → is_confirmed p t ≡ false → is_confirmed q t ≡ true → Came s u p x t (confirmed_to q t)
  -- the soonest block of a parent does not fall, and stands where the parent is confirmed then
  pub rises : (t : ℕ) → t < count s → soonest_above s u p t ≤ soonest_above s u q t
  pub same : (t : ℕ) → t < count s → fixed s q t ≡ true → soonest_above s u q t ≡ soonest_above s u p t
  -- a pool entry stays unless it is confirmed or dead; what waits then did so, or is sent with its lock met
  pub pool_stays : (t : ℕ) → t < count s → in_pool p t ≡ true → gone s q t ≡ false → (in_pool q t ≡ true) × (pool_to q t ≡ pool_to p t)
  pub waits_from : (t d : ℕ) → t < count s → d < destinations → waits_for q t d ≡ true → (waits_for p t d ≡ true) ⊎ (lock_height_in s u p t ≤ p.mined)
  -- what X has grows, and a block shows the secrets of what it confirms
  pub keys : (i : ℕ) → i < 32 → holds p x i ≡ true → holds q x i ≡ true
  pub shares : (t d i : ℕ) → t < count s → d < destinations → i < 32 → bit (shared p t d) i ≡ true → bit (shared q t d) i ≡ true
  pub secrets : Fewer (secrets_shown s p) (secrets_shown s q)
  pub shown : (t : ℕ) → t < count s → is_confirmed p t ≡ false → is_confirmed q t ≡ true → Fewer (secrets_of s t) (secrets_shown s q)
  -- what can come then could before, whatever more X sends
  pub fewer : (a b : ℕ) → Within s a b → Within s (attainable s u q x (bit a)) (attainable s u p x (bit b))
  pub fewer_elsewhere : (a b : ℕ) → Within s a b → Within s (attainable_elsewhere s u q x (bit a)) (attainable_elsewhere s u p x (bit b))

-- what a block can do to what X counts on
pub record Forth (s u : List ℕ) (p q : Position) (x : ℕ) : Type 0 where
  pub after : Linked s q
  pub stays : (t : ℕ) → t < count s → is_confirmed p t ≡ true → (block_of q t ≡ block_of p t) × (confirmed_to q t ≡ confirmed_to p t)
  -- what is confirmed in q and was not in p was in the way, up to a height from p's on, of each rival that stood, and of itself if it pays another than X
  pub in_the_way : (know b off t r : ℕ) → t < count s → r < count s → p.mined ≤ off → stands s u p x know off t ≡ true → conflict s r t ≡ true
      → eqb r t ≡ false → is_confirmed p r ≡ false → is_confirmed q r ≡ true → beats s u p x b off t r ≡ true
  pub pays_other : (know b off t : ℕ) → t < count s → is_contract s t ≡ false → stands s u p x know off t ≡ true → is_confirmed q t ≡ true
      → eqb (confirmed_to q t) x ≡ false → beats s u p x b off t t ≡ true
  -- what can come for X only pays X
  pub pays_party : (t r : ℕ) → t < count s → r < count s → is_confirmed p r ≡ false → is_confirmed q r ≡ true
      → bit (can_come_elsewhere s u p x 0 t) r ≡ false → eqb (confirmed_to q r) x ≡ true
  -- the secrets of what is confirmed in q and was not in p are shown
  pub shown : (t : ℕ) → t < count s → is_confirmed p t ≡ false → is_confirmed q t ≡ true → Fewer (secrets_of s t) (secrets_shown s q)
