-- What P6 and P7 say of one number of blocks per day and one position, for all of them: a send that passes the tests of conduct,
-- rivals, parent and signatures gets 17 exactly below its lock height and, to the pool, 18 exactly from its deadline on.
-- Assumes nothing.
use Rattle.std.specs.Prelude.{ℕ, ◌≡◌, Bool, true, List, ltb, leb}
use Rattle.laws.specs.Booleans.{pick}
use Rattle.laws.specs.Failing.{first_failing}
use Rattle.sheet.specs.Refusal.{accepted, step_lock, step_deadline}
use Rattle.sheet.specs.Setup.{stealth}
use Rattle.slots.specs.Conflict.{no_conflict}
use Rattle.slots.specs.Ancestry.{has_parent}
use Rattle.slots.specs.Signatures.{signed}
use Rattle.slots.specs.declared.Destination.{Destination}
use Rattle.slots.specs.declared.Step.TheVariants.{SendToPool, HandToMiner}
use Rattle.slots.specs.Destination.{destination_number}
use Rattle.position.specs.declared.Position.{Position}
use Rattle.position.specs.Position.{sent, placed, sender_has, lock_height_in, deadline_in}
use Rattle.position.specs.Tests.{send_tests, pool_tests, miner_tests}
use Rattle.position.specs.Conduct.{conduct_allows}
use Rattle.position.specs.StepRefusal.{tests, step_refusal}

-- P6 and P7's place, of any sheet and transaction: conduct allows the step, "no rival .., parent there, signatures", against the
-- transactions that are there. The table's rows for P6 and P7 are such places, and follow from the laws of these: `SendRows` in proofs/.
pub record Ready (s : List ℕ) (p : Position) (allowed : Bool) (members : ℕ → Bool) (party t destination : ℕ) : Type 0 where
  pub conduct : allowed ≡ true
  pub rivals : no_conflict s members t ≡ true
  pub parent : has_parent s members t ≡ true
  pub signatures : signed s (sender_has s p party t destination) t ≡ true

abbrev pub ReadyForPool : List ℕ → List ℕ → Position → ℕ → ℕ → Destination → Type 0
ReadyForPool s u p party t to = Ready s p (conduct_allows s u p (SendToPool party t to)) (sent p) party t (destination_number to)

abbrev pub ReadyForMiner : List ℕ → List ℕ → Position → ℕ → ℕ → Destination → Type 0
ReadyForMiner s u p party t to = Ready s p (conduct_allows s u p (HandToMiner party t to)) (placed p) party t (destination_number to)

-- 17 below the lock height, 18 from the deadline on, else accepted
pub pool_gets : (s u : List ℕ) (p : Position) (party t : ℕ) (to : Destination) → ReadyForPool s u p party t to
    → step_refusal s u p (SendToPool party t to)
    ≡ pick (leb (lock_height_in s u p t) p.mined) (pick (ltb p.mined (deadline_in s u p t)) accepted step_deadline) step_lock
unfolding step_refusal tests pool_tests send_tests first_failing
pool_gets s u p party t to r = rw (r.signatures, r.parent, r.rivals, r.conduct)

-- the same without a deadline
pub miner_gets : (s u : List ℕ) (p : Position) (party t : ℕ) (to : Destination) → stealth u ≡ 1 → ReadyForMiner s u p party t to
    → step_refusal s u p (HandToMiner party t to) ≡ pick (leb (lock_height_in s u p t) p.mined) accepted step_lock
unfolding step_refusal tests miner_tests send_tests first_failing
miner_gets s u p party t to h r = rw (r.signatures, r.parent, r.rivals, r.conduct, h)
