-- Who leaves the pool at a mined block is mined or dead afterwards, since nobody who waits in the pool is dead before it.
-- Assumes nothing.
use Rattle.laws.proofs.Prelude.{ℕ, ◌+◌, ◌<◌, ◌≡◌, refl, sym, ap, ◌∙◌, Bool, true, false, not, ◌||◌, List, eqb, ltb, eqb-true, eqb-false, ltb-true, ltb-false, lt-ltb}
use Rattle.laws.proofs.Prelude.{arith, split, either, clash, fails_by}
use Rattle.position.proofs.Rules.{accepted, count, Checked, Contract, Step, Mine, destination_number, conflict, meets_other, invalidated, fields_right, of_kind, spelled}
use Rattle.position.proofs.Rules.{range_checked, decode, start, in_pool, in_block, block_of, is_confirmed, step_refusal, leaves_pool, after_mine, effect}
use Rattle.position.specs.declared.Position.{Position}
use Rattle.position.specs.declared.Stepped.{Stepped}
use Rattle.position.proofs.Rules.{decode_bytes, take_step, take_decoded, step}
use Rattle.sheet.proofs.Theorems.{sheet_checked}
use Rattle.slots.proofs.Conflicts.{conflict_self}
use Rattle.slots.proofs.Ancestors.{Above, above_le, other_find, other_met}
use Rattle.position.proofs.StepCases.{accepts, refuses}
use Rattle.step_laws.proofs.AfterBlocks.{none_stands, mine_blocks, mine_pool}
use Rattle.claim_ledger.specs.Claim.{position_of}
use Rattle.claim_ledger.specs.PoolClaim.{mine, LeavesPool}
use Rattle.claim_ledger.proofs.Sound.{Sound}
use Rattle.claim_ledger.proofs.EachKind.{wide}
use Rattle.claim_ledger.proofs.SoundSteps.{sound_start, sound_play}
use Rattle.claim_ledger.proofs.BumpedBlock.{waits_up}

twice : (b : Bool) → not (not b) ≡ b
twice true = refl
twice false = refl

module _ (s u : List ℕ) (ok : Checked s) (p : Position) (g : Sound s u p) where
  -- no transaction beyond the sheet waits
  pool_low : (t : ℕ) → in_pool p t ≡ true → t < count s
  unfolding in_pool
  pool_low t i =
      split (ltb t (count s))
      (λ y. ltb-true t (count s) y)
      (λ y. clash i (rw (g.beyond t (ltb-false t (count s) y)) none_stands))

  -- above one that waits no transaction has another rival confirmed
  none_dead : (t : ℕ) → t < count s → in_pool p t ≡ true → {x : ℕ} (k : ℕ) → Above s x t → k < count s → conflict s k x ≡ true → eqb k x ≡ false → block_of p k ≡ 0
  none_dead t l i {x} k a lk c n =
      let lx : x < count s = omega (arith, above_le a) in
      either (waits_up ok g.settled g.pool a l i)
      (λ y. g.pool.free x k lx lk y c)
      (λ y.
      split (ltb 0 (block_of p k))
      (λ z. absurd (eqb-false k x n (g.settled.alone x k lx lk y (ltb-true 0 (block_of p k) z) c)))
      (λ z. omega (arith, ltb-false 0 (block_of p k) z)))

  -- confirmed afterwards: the mined ones and those before
  pub mined_confirmed : (k : ℕ) → in_block p k ≡ true → is_confirmed (after_mine s p) k ≡ true
  unfolding is_confirmed
  mined_confirmed k b = rw (mine_blocks s p (wide s u ok p g) g.beyond, b) (lt-ltb 0 (p.mined + 1) (omega arith))

  kept_confirmed : (k : ℕ) → in_block p k ≡ false → is_confirmed (after_mine s p) k ≡ ltb 0 (block_of p k)
  unfolding is_confirmed
  kept_confirmed k b = rw (mine_blocks s p (wide s u ok p g) g.beyond, b)

  met_same : (t : ℕ) → t < count s → in_pool p t ≡ true → meets_other s (is_confirmed (after_mine s p)) t ≡ meets_other s (in_block p) t
  met_same t l i =
      split (meets_other s (in_block p) t)
      (λ e.
      let w = other_find s (in_block p) t e in
      rw e (other_met s (is_confirmed (after_mine s p)) w.1 w.2 w.3 w.4 (mined_confirmed w.1 w.5) w.6))
      (λ e.
      rw e
      (fails_by (meets_other s (is_confirmed (after_mine s p)) t) (λ h.
      let w = other_find s (is_confirmed (after_mine s p)) t h in
      split (in_block p w.1)
      (λ b. clash (other_met s (in_block p) w.1 w.2 w.3 w.4 b w.6) e)
      (λ b.
      let c = ltb-true 0 (block_of p w.1) (sym (kept_confirmed w.1 b) ∙ w.5) in
      omega (arith, c, none_dead t l i w.1 w.2 w.3 w.4 w.6)))))

  unconfirmed : (t : ℕ) → t < count s → in_pool p t ≡ true → in_block p t ≡ false → is_confirmed (after_mine s p) t ≡ false
  unconfirmed t l i b = rw (kept_confirmed t b, g.pool.free t t l l i (conflict_self s t))

  pub left_by : (t : ℕ) → in_pool p t ≡ true → not (in_pool (after_mine s p) t) ≡ (in_block p t || invalidated s (is_confirmed (after_mine s p)) t)
  unfolding leaves_pool invalidated
  left_by t i =
      let l = pool_low t i in
      split (in_block p t)
      (λ b. rw (mine_pool s p (wide s u ok p g) g.beyond, i, b))
      (λ b. rw (mine_pool s p (wide s u ok p g) g.beyond, i, b, unconfirmed t l i b, met_same t l i) (twice (meets_other s (in_block p) t)))

-- the step that mines
module _ (s u : List ℕ) (p : Position) where
  abbrev mines : Step
  mines = Mine 2 255 Contract

  as_mine : step s u p mine ≡ take_step s u p mines
  unfolding step take_decoded decode_bytes decode range_checked spelled of_kind fields_right destination_number
  as_mine = refl

  mined_step : (step s u p mine).refusal ≡ accepted → (step s u p mine).position ≡ after_mine s p
  unfolding effect
  mined_step r =
      split (eqb (step_refusal s u p mines) accepted)
      (λ y. ap (λ (z : Stepped). z.position) (as_mine ∙ sym (accepts s u p mines 0 (after_mine s p) (sym (eqb-true (step_refusal s u p mines) accepted y)) refl refl)))
      (λ y.
      let n = eqb-false (step_refusal s u p mines) accepted y in
      absurd (n (ap (λ (z : Stepped). z.refusal) (refuses s u p mines (step_refusal s u p mines) refl n ∙ sym as_mine) ∙ r)))

pub pool_left : LeavesPool
pool_left s u h k bs r t i =
    rw (mined_step s u (position_of s u bs) r)
    (left_by s u (sheet_checked s h) (position_of s u bs) (sound_play s u h k bs (start s) (sound_start s u)) t i)
