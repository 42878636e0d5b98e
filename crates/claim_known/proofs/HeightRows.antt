-- The table's rows for P4, P5 and P8, and P7's number of a hand-in, by the laws for all sizes.
-- Assumes nothing.
use Rattle.std.specs.Prelude.{ℕ, ◌≤◌, ◌<◌, ◌≡◌, List, leb}
use Rattle.std.proofs.Common.{arith, ◌∙◌}
use Rattle.laws.specs.Booleans.{pick}
use Rattle.sheet.specs.Refusal.{accepted, step_lock}
use Rattle.sheet.specs.Setup.{per_day, stealth}
use Rattle.sheet.specs.Saswap.{offset, saswap}
use Rattle.sheet.specs.LockHeight.{lock_height, never}
use Rattle.slots.specs.Deadline.{deadline}
use Rattle.slots.specs.declared.Destination.{Destination}
use Rattle.slots.specs.declared.Step.TheVariants.{HandToMiner}
use Rattle.steps.specs.Names.{revoke, refund2, timeout, spend_revoke}
use Rattle.position.specs.declared.Position.{Position}
use Rattle.position.specs.Position.{start}
use Rattle.position.specs.StepRefusal.{step_refusal}
use Rattle.position.specs.Report.{status}
use Rattle.claim_known.specs.Heights.{revoke_height, refund2_lock, timeout_lock, refund2_deadline, spend_revoke_deadline, spend_revoke_never, refund2_waits}
use Rattle.claim_known.specs.Sends.{ReadyForMiner}
use Rattle.claim_known.proofs.Sends.{revoke_to_miner}
use Rattle.claim_known.specs.Statuses.{start_status}

-- P4: "3 a day, revoke in block 7: refund_2 lock 10, timeout 13, refund_2 deadline 13, spend_revoke deadline 10"
pub p4 : (block : ℕ → ℕ) → block revoke ≡ 7
    → (lock_height (saswap 3) 3 block refund2 ≡ 10) × (lock_height (saswap 3) 3 block timeout ≡ 13)
    × (deadline (saswap 3) 3 block refund2 ≡ 13) × (deadline (saswap 3) 3 block spend_revoke ≡ 10)
p4 block e =
    let some : 0 < block revoke = omega (arith, e) in
    let a = refund2_lock 3 block some in
    let b = timeout_lock 3 block some in
    let c = refund2_deadline 3 block (omega arith) some (omega (arith, e)) in
    let d = spend_revoke_deadline 3 block some (omega (arith, e)) in
    (omega (arith, a, e), omega (arith, b, e), omega (arith, c, e), omega (arith, d, e))

-- P5: "revoke unconfirmed: spend_revoke deadline never"; then refund_2 has no lock height within the blocks
pub p5 : (block : ℕ → ℕ) → block revoke ≡ 0 → deadline (saswap 3) 3 block spend_revoke ≡ never
p5 block e = spend_revoke_never 3 block e

pub p5_waits : (block : ℕ → ℕ) → block revoke ≡ 0 → lock_height (saswap 3) 3 block refund2 ≤ 10000 → ⊥
p5_waits block e h = omega (arith, refund2_waits 3 10000 block (omega arith) h, e)

-- P7: "revoke gets 17 at 5 blocks, passes at 6", handed in
number_at : (d m : ℕ) → d ≡ 3
    → (m ≡ 5 → pick (leb (revoke_height d) m) accepted step_lock ≡ 17) × (m ≡ 6 → pick (leb (revoke_height d) m) accepted step_lock ≡ 0)
unfolding revoke_height offset
number_at d m e = (λ h. rw (e, h), λ h. rw (e, h))

pub p7_handed_in : (u : List ℕ) (p : Position) (party : ℕ) (to : Destination) → stealth u ≡ 1 → per_day u ≡ 3
    → ReadyForMiner (saswap (per_day u)) u p party revoke to
    → (p.mined ≡ 5 → step_refusal (saswap (per_day u)) u p (HandToMiner party revoke to) ≡ 17)
    × (p.mined ≡ 6 → step_refusal (saswap (per_day u)) u p (HandToMiner party revoke to) ≡ 0)
p7_handed_in u p party to z d r =
    let e = revoke_to_miner u p party to z r in
    let w = number_at (per_day u) p.mined d in
    (λ m. e ∙ w.0 m, λ m. e ∙ w.1 m)

-- P8: "empty journal leaves all statuses 0", of 3 a day
pub p8 : (t : ℕ) → status (saswap 3) (start (saswap 3)) t ≡ 0
p8 t = start_status (saswap 3) t
