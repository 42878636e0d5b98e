-- What can come without X after a step of others could come before it, whatever more X sends.
-- Assumes nothing.
use Rattle.laws.proofs.Prelude.{ℕ, ◌<◌, ◌≡◌, refl, true, false, List, [], ◌∷◌, eqb, arith, either, every, bit}
use Rattle.position.proofs.Rules.{count, sheet_refusal, setup_refusal, Checked, destinations, is_party, in_block, block_to, FourBytes, step, play}
use Rattle.position.specs.declared.Position.{Position}
use Rattle.sheet.proofs.Theorems.{sheet_checked}
use Rattle.slots.proofs.Conflicts.{conflict_self}
use Rattle.claim_ledger.proofs.Sound.{Sound}
use Rattle.attainable.specs.Attainable.{comes, attainable, attainable_elsewhere, Closed}
use Rattle.attainable.proofs.Rounds.{least}
use Rattle.claim_attainable.specs.Words.{step_of, sends_only}
use Rattle.claim_attainable.proofs.Actors.{in_block_lem}
use Rattle.claim_attainable.proofs.Alive.{has_block}
use Rattle.claim_attainable.proofs.Bounded.{Bounded, right_small, first}
use Rattle.claim_attainable.proofs.Carrying.{Carries}
use Rattle.claim_attainable.proofs.Shrinking.{carries}
use Rattle.claim_attainable.proofs.Played.{held_play}
use Rattle.slack.proofs.Onward.{Within}
use Rattle.claim_slack.proofs.Carried as all

module _ (s u : List ℕ) (h : sheet_refusal s ≡ 0) (k : setup_refusal s u ≡ 0) (p : Position) (g : Sound s u p) (x : ℕ) (who : is_party s x ≡ true) where
  abbrev ok : Checked s
  ok = sheet_checked s h

  -- what can come with some sends of X
  abbrev can : ℕ → ℕ
  can a = attainable s u p x (bit a)

  within : (a : ℕ) → Closed s u p x (bit a) (can a)
  within a = (least s u ok p x (bit a)).closed

  Held : ℕ → Position → Type 0
  Held a q = Bounded s u ok p x who (bit a) (can a) (within a) q

  here : (a : ℕ) → Held a p
  unfolding Held
  here a = first s u ok p x who (bit a) (can a) (within a) g

  -- an entry of the block comes for its destination
  module _ (a t : ℕ) (l : t < count s) (i : in_block p t ≡ true) where
    to_small : block_to p t < destinations
    to_small = right_small s t (block_to p t) (g.block_to_lem t l i)

    entry_comes : comes s u p x (bit a) (can a) t (block_to p t) ≡ true
    unfolding Held
    entry_comes =
        either ((here a).entries t (block_to p t) (in_block_lem i refl))
        (λ c. absurd (omega (arith, has_block p t c, g.block.free t t l l i (conflict_self s t))))
        (λ y. y)

    pub block_comes : bit (can a) t ≡ true
    block_comes = within a t l (block_to p t) to_small entry_comes

    pub block_elsewhere : eqb (block_to p t) x ≡ false → bit (attainable_elsewhere s u p x (bit a)) t ≡ true
    block_elsewhere off = all.elsewhere_has s u ok p x a t (block_to p t) l to_small off entry_comes

  module _ (b : FourBytes) (i : step_of x b ≡ false) where
    abbrev q : Position
    q = (step s u p b).position

    held : (a : ℕ) → Held a q
    unfolding Held play sends_only every
    held a = held_play s u h k p x who (bit a) (can a) (within a) (b ∷ []) p (here a) (rw i)

    carried : (a : ℕ) → Carries s u p x (bit a) (can a) q
    unfolding Held
    carried a = carries s u ok p x who (bit a) (can a) (within a) q (held a)

    -- what can come in q could in p, whatever more X sends
    pub fewer : (a c : ℕ) → Within s a c → Within s (attainable s u q x (bit a)) (can c)
    fewer = all.fewer s u ok p x q carried

    pub fewer_elsewhere : (a c : ℕ) → Within s a c → Within s (attainable_elsewhere s u q x (bit a)) (attainable_elsewhere s u p x (bit c))
    fewer_elsewhere = all.fewer_elsewhere s u ok p x q carried
