-- Who acted in a step: no party X, but for sends that it may make; and where what stands after the step comes from.
-- Assumes nothing.
use Rattle.laws.proofs.Prelude.{ℕ, ◌<◌, ◌≡◌, Bool, true, false, List, ◌⊎◌, eqb, bit}
use Rattle.position.proofs.Rules.{parent, opening, stealth, Step, Share, Give, SendToPool, HandToMiner, Include, Mine, Bump, destinations, is_party, share_mask}
use Rattle.position.proofs.Rules.{exposed_mask, in_pool, pool_to, in_block, block_to, block_of, is_confirmed, confirmed_to, shared, keys, holds, deadline_in}
use Rattle.position.specs.declared.Position.{Position}
use Rattle.step_laws.proofs.Sending.{Sent}

-- the party is not X, or it sends one of those that X may
abbrev pub Apart : ℕ → (ℕ → Bool) → ℕ → ℕ → Type 0
Apart x also party t = (eqb party x ≡ false) ⊎ ((party ≡ x) × (also t ≡ true))

-- X takes no step but such sends
unfoldable pub Idle : ℕ → (ℕ → Bool) → Step → Type 0
Idle x also (Share party t to) = eqb party x ≡ false
Idle x also (Give party i to) = eqb party x ≡ false
Idle x also (SendToPool party t to) = Apart x also party t
Idle x also (HandToMiner party t to) = Apart x also party t
Idle x also (Include party t to) = Unit {0}
Idle x also (Mine party t to) = Unit {0}
Idle x also (Bump party t to) = Unit {0}

-- an entry of t for e, by its place
pub data Place (p : Position) (t e : ℕ) : Type 0 where
  in_pool_lem : in_pool p t ≡ true → pool_to p t ≡ e → Place p t e
  in_block_lem : in_block p t ≡ true → block_to p t ≡ e → Place p t e
  in_chain : 0 < block_of p t → confirmed_to p t ≡ e → Place p t e

-- it stands in pool or block, or is confirmed
pub data There (p : Position) (t : ℕ) : Type 0 where
  pool : in_pool p t ≡ true → There p t
  block : in_block p t ≡ true → There p t
  chain : is_confirmed p t ≡ true → There p t

-- a send of t for e that passes, with what it tells of its party, its parent and its deadline
pub record SentBy (s u : List ℕ) (p : Position) (x : ℕ) (also : ℕ → Bool) (t e : ℕ) : Type 0 where
  pub party : ℕ
  pub apart : Apart x also party t
  pub sends : Sent s u p party t e
  pub above : (opening s t ≡ true) ⊎ There p (parent s t)
  pub early : eqb (stealth u) 0 ≡ true → p.mined < deadline_in s u p t

-- how signature i of t came to be shared for e
pub data ShownBy (s u : List ℕ) (p : Position) (x : ℕ) (also : ℕ → Bool) (t e i : ℕ) : Type 0 where
  by_share_lem : (party : ℕ) → is_party s party ≡ true → eqb party x ≡ false → bit (share_mask s (keys p party) t) i ≡ true → ShownBy s u p x also t e i
  by_send_lem : SentBy s u p x also t e → bit (exposed_mask s t) i ≡ true → ShownBy s u p x also t e i
  by_block_lem : in_block p t ≡ true → block_to p t ≡ e → bit (exposed_mask s t) i ≡ true → ShownBy s u p x also t e i

pub record MovedBy (s u : List ℕ) (p : Position) (x : ℕ) (also : ℕ → Bool) (q : Position) : Type 0 where
  pub entries : (t e : ℕ) → Place q t e → Place p t e ⊎ SentBy s u p x also t e
  pub shares : (t e i : ℕ) → e < destinations → bit (shared q t e) i ≡ true → (bit (shared p t e) i ≡ true) ⊎ ShownBy s u p x also t e i
  pub gifts : (holder i : ℕ) → i < 32 → holds q holder i ≡ true
      → (holds p holder i ≡ true) ⊎ ((party : ℕ) × (is_party s party ≡ true) × (eqb party x ≡ false) × (holds p party i ≡ true))
