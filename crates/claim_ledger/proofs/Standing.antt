-- A pool entry whose parent is confirmed, or an opening, at a mined block.
-- Assumes nothing.
use Rattle.laws.proofs.Prelude.{ℕ, ◌+◌, ◌<◌, ◌≡◌, true, false, List, ◌⊎◌, eq-eqb, arith, either, clash, any_none}
use Rattle.position.proofs.Rules.{count, parent, opening, Checked, conflict, in_pool, in_block, block_of, deadline_in, waiting, owed, any_owed}
use Rattle.position.specs.declared.Position.{Position}
use Rattle.slots.proofs.Parents.{parent_has}
use Rattle.slots.proofs.Conflicts.{conflict_sym}
use Rattle.slots.proofs.Ancestors.{Above, here, up, above_le}
use Rattle.claim_ledger.proofs.Sound.{Sound}
use Rattle.claim_ledger.proofs.BumpedBlock.{settled_up}

-- the parent is confirmed, or there is none
abbrev pub Stands : List ℕ → Position → ℕ → Type 0
Stands s p t = (opening s t ≡ true) ⊎ (0 < block_of p (parent s t))

module _ (s u : List ℕ) (ok : Checked s) (p : Position) (g : Sound s u p) where
  -- there a line meets a rival of a block entry at its own transaction alone
  pub met_at : {x t : ℕ} → Above s x t → t < count s → Stands s p t → (k : ℕ) → k < count s → conflict s k x ≡ true → in_block p k ≡ true → conflict s k t ≡ true
  met_at here l c k n h b = h
  met_at {x} {t} (up a r) l c k n h b =
      let free = g.block.free k x n (omega (arith, above_le r)) b (conflict_sym s k x h) in
      either c
      (λ y. clash y (parent_has ok t l a))
      (λ y. absurd (omega (arith, settled_up ok g.settled r (omega arith) y)))

-- where no bump is owed, no entry outside the block has its deadline in the next one
pub not_owed : (s u : List ℕ) (p : Position) → any_owed s u p ≡ false → (t : ℕ) → t < count s → in_pool p t ≡ true → in_block p t ≡ false → p.mined + 1 ≡ deadline_in s u p t → ⊥
unfolding any_owed owed waiting
not_owed s u p none t l i b e =
    clash {b = owed s u p t} (rw (i, b, eq-eqb (p.mined + 1) (deadline_in s u p t) e)) (any_none (count s) (owed s u p) none t l)
