-- What no step but a mined block alters: the blocks mined, the confirmations, and that a pool entry stands.
-- Assumes nothing.
use Rattle.laws.proofs.Prelude.{ℕ, ◌≤◌, ◌≡◌, refl, true, false, List, ◌⊎◌, inl, inr, eqb, length, not-true, arith, or_right, passed}
use Rattle.position.proofs.Rules.{count, Step, Share, Give, SendToPool, HandToMiner, Include, Mine, Bump, destination_number, empty_slot, slot, in_pool, block_of}
use Rattle.position.specs.declared.Position.{Position}
use Rattle.position.proofs.Rules.{fields_right, any_owed, mine_tests, step_refusal, after_send, after_mine, effect}
use Rattle.position.specs.StepRefusal.{tests}
use Rattle.step_laws.proofs.Untouched.{SamePool, SameConfirmed}
use Rattle.step_laws.proofs.AfterShares.{share_pool, share_confirmed, give_pool, give_confirmed}
use Rattle.step_laws.proofs.AfterSends.{send_pool, send_confirmed, hand_pool, hand_confirmed, include_pool, include_confirmed}
use Rattle.step_laws.proofs.AfterBlocks.{bump_pool, bump_confirmed}
use Rattle.step_laws.proofs.Sending.{sent_to_pool}

pub record Quiet (p q : Position) : Type 0 where
  pub mined : q.mined ≡ p.mined
  pub heights : (t : ℕ) → block_of q t ≡ block_of p t
  pub pool : (t : ℕ) → in_pool p t ≡ true → in_pool q t ≡ true

quiet : {p q : Position} → SamePool p q → SameConfirmed p q → Quiet p q
quiet a c = record { mined = c.mined; heights = λ t. rw c.blocks; pool = λ t h. rw a.there h }

-- an accepted step is quiet, or it mines the block with no bump owed
module _ (s u : List ℕ) (p : Position) (few : count s ≤ length p.slots) (beyond : (k : ℕ) → count s ≤ k → slot p k ≡ empty_slot) where
  quiet_send : (party t : ℕ) (to : _) → fields_right s u (SendToPool party t to) ≡ true
      → step_refusal s u p (SendToPool party t to) ≡ 0 → Quiet p (after_send s t (destination_number to) p)
  quiet_send party t to f h =
      let c = send_confirmed s t (destination_number to) p in
      let l = (sent_to_pool s u p party t to f h).low in
      record {
        mined = c.mined;
        heights = λ k. rw c.blocks;
        pool = λ k y. rw (send_pool s t (destination_number to) p (omega arith)) (or_right (eqb k t) (in_pool p k) y);
      }

  pub lasting : (x : Step) → fields_right s u x ≡ true → step_refusal s u p x ≡ 0
      → Quiet p (effect s p x) ⊎ ((effect s p x ≡ after_mine s p) × (any_owed s u p ≡ false))
  unfolding effect step_refusal tests mine_tests
  lasting (Share party t to) f h = inl (quiet (share_pool s party t (destination_number to) p) (share_confirmed s party t (destination_number to) p))
  lasting (Give party i to) f h = inl (quiet (give_pool i (destination_number to) p) (give_confirmed i (destination_number to) p))
  lasting (SendToPool party t to) f h = inl (quiet_send party t to f h)
  lasting (HandToMiner party t to) f h = inl (quiet (hand_pool t (destination_number to) p) (hand_confirmed t (destination_number to) p))
  lasting (Include party t to) f h = inl (quiet (include_pool t p) (include_confirmed t p))
  lasting (Mine party t to) f h = inr (refl, not-true (any_owed s u p) (passed (mine_tests s u p) refl h 20))
  lasting (Bump party t to) f h = inl (quiet (bump_pool s p few beyond t) (bump_confirmed s p few beyond t))
