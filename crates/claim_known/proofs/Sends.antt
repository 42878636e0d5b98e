-- P6 and P7 for every number of blocks per day: what a send of success and of revoke gets in the places that Sends in specs/ speaks of.
-- Assumes nothing.
use Rattle.std.specs.Prelude.{ℕ, ◌≤◌, ◌<◌, ◌≡◌, List, ltb, leb}
use Rattle.std.proofs.Common.{arith, lt-ltb, le-leb}
use Rattle.laws.specs.Booleans.{pick}
use Rattle.sheet.specs.Refusal.{accepted, step_lock, step_deadline}
use Rattle.sheet.specs.Setup.{per_day, stealth}
use Rattle.sheet.specs.Saswap.{saswap}
use Rattle.sheet.specs.LockHeight.{never}
use Rattle.slots.specs.declared.Destination.{Destination}
use Rattle.slots.specs.declared.Step.TheVariants.{SendToPool, HandToMiner}
use Rattle.steps.specs.Names.{success, revoke}
use Rattle.position.specs.declared.Position.{Position}
use Rattle.position.specs.Position.{block_of, lock_height_in, deadline_in}
use Rattle.position.specs.StepRefusal.{step_refusal}
use Rattle.claim_known.specs.Heights.{refund1_height, revoke_height, success_lock, revoke_lock, success_deadline, revoke_deadline}
use Rattle.claim_known.specs.Sends.{ReadyForPool, ReadyForMiner, pool_gets, miner_gets}

-- P6: "success to pool passes at 2 blocks, 18 at 3", for every number of blocks per day: 18 exactly from refund_1's lock height on
pub success_to_pool : (u : List ℕ) (p : Position) (party : ℕ) (to : Destination) → 0 < per_day u → per_day u ≤ 1000
    → ReadyForPool (saswap (per_day u)) u p party success to
    → step_refusal (saswap (per_day u)) u p (SendToPool party success to)
    ≡ pick (ltb p.mined (refund1_height (per_day u))) accepted step_deadline
unfolding lock_height_in deadline_in
success_to_pool u p party to h k r =
    rw (
      pool_gets (saswap (per_day u)) u p party success to r,
      success_lock (per_day u) (block_of p),
      le-leb 0 p.mined (omega arith),
      success_deadline (per_day u) (block_of p) h k,
    )

-- "to the miner passes at 3": at any number of blocks
pub success_to_miner : (u : List ℕ) (p : Position) (party : ℕ) (to : Destination) → stealth u ≡ 1
    → ReadyForMiner (saswap (per_day u)) u p party success to
    → step_refusal (saswap (per_day u)) u p (HandToMiner party success to) ≡ accepted
unfolding lock_height_in
success_to_miner u p party to s r =
    rw (
      miner_gets (saswap (per_day u)) u p party success to s r,
      success_lock (per_day u) (block_of p),
      le-leb 0 p.mined (omega arith),
    )

-- P7: "revoke gets 17 at 5 blocks, passes at 6", for every number of blocks per day: 17 exactly below its lock height
pub revoke_to_pool : (u : List ℕ) (p : Position) (party : ℕ) (to : Destination) → p.mined < never
    → ReadyForPool (saswap (per_day u)) u p party revoke to
    → step_refusal (saswap (per_day u)) u p (SendToPool party revoke to)
    ≡ pick (leb (revoke_height (per_day u)) p.mined) accepted step_lock
unfolding lock_height_in deadline_in
revoke_to_pool u p party to l r =
    rw (
      pool_gets (saswap (per_day u)) u p party revoke to r,
      revoke_lock (per_day u) (block_of p),
      revoke_deadline (per_day u) (block_of p),
      lt-ltb p.mined never l,
    )

-- the same of a hand-in
pub revoke_to_miner : (u : List ℕ) (p : Position) (party : ℕ) (to : Destination) → stealth u ≡ 1
    → ReadyForMiner (saswap (per_day u)) u p party revoke to
    → step_refusal (saswap (per_day u)) u p (HandToMiner party revoke to)
    ≡ pick (leb (revoke_height (per_day u)) p.mined) accepted step_lock
unfolding lock_height_in
revoke_to_miner u p party to s r =
    rw (miner_gets (saswap (per_day u)) u p party revoke to s r, revoke_lock (per_day u) (block_of p))
