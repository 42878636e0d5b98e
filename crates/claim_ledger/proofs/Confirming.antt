-- What a taken step confirms: nothing, or, kind 6, the block being filled.
-- Assumes nothing.
use Rattle.laws.proofs.Prelude.{ℕ, ◌≡◌, refl, false, List, [], ◌∷◌, ◌++◌, eqb}
use Rattle.position.proofs.Rules.{accepted, Checked, Step, Share, Give, SendToPool, HandToMiner, Include, Mine, Bump, destination_number, Some, after_mine}
use Rattle.position.specs.declared.Position.{Position}
use Rattle.position.proofs.Rules.{effect, FourBytes, decode_bytes, step, block_entries, confirms, confirmed_entries}
use Rattle.step_laws.proofs.Untouched.{SameConfirmed}
use Rattle.step_laws.proofs.AfterShares.{share_confirmed, give_confirmed}
use Rattle.step_laws.proofs.AfterSends.{send_confirmed, hand_confirmed, include_confirmed}
use Rattle.step_laws.proofs.AfterBlocks.{bump_confirmed}
use Rattle.claim_ledger.proofs.Sound.{Sound}
use Rattle.claim_ledger.proofs.EachKind.{wide}

pub data StepConfirms (s : List ℕ) (p : Position) (x : Step) : Type 0 where
  nothing : confirms s p (Some x) ≡ [] → SameConfirmed p (effect s p x) → StepConfirms s p x
  the_block : confirms s p (Some x) ≡ block_entries s p → effect s p x ≡ after_mine s p → StepConfirms s p x

pub step_confirms : (s u : List ℕ) → Checked s → (p : Position) → Sound s u p → (x : Step) → StepConfirms s p x
unfolding confirms effect
step_confirms s u ok p g (Share party t to) = nothing refl (share_confirmed s party t (destination_number to) p)
step_confirms s u ok p g (Give party i to) = nothing refl (give_confirmed i (destination_number to) p)
step_confirms s u ok p g (SendToPool party t to) = nothing refl (send_confirmed s t (destination_number to) p)
step_confirms s u ok p g (HandToMiner party t to) = nothing refl (hand_confirmed t (destination_number to) p)
step_confirms s u ok p g (Include party t to) = nothing refl (include_confirmed t p)
step_confirms s u ok p g (Mine party t to) = the_block refl refl
step_confirms s u ok p g (Bump party t to) = nothing refl (bump_confirmed s p (wide s u ok p g) g.beyond t)

-- the entries of a list, by its first step
module _ (s u : List ℕ) (b : FourBytes) (bs : List FourBytes) (p : Position) where
  pub entries_taken : (x : Step) → decode_bytes s u b ≡ Some x → step s u p b ≡ record { refusal = accepted; position = effect s p x }
      → confirmed_entries s u (b ∷ bs) p ≡ confirms s p (Some x) ++ confirmed_entries s u bs (effect s p x)
  unfolding confirmed_entries
  entries_taken x d e = rw (e, d)

  pub entries_refused : (n : ℕ) → eqb n accepted ≡ false → step s u p b ≡ record { refusal = n; position = p } → confirmed_entries s u (b ∷ bs) p ≡ confirmed_entries s u bs p
  unfolding confirmed_entries
  entries_refused n m e = rw (e, m)
