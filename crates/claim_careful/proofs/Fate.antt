-- What lasts through an accepted step: time, confirmations, and a pool entry whose parent is confirmed. The bump rule is used here alone.
-- Assumes nothing.
use Rattle.laws.proofs.Prelude.{ℕ, ◌+◌, ◌≤◌, ◌<◌, ◌≡◌, true, false, List, inr, arith, split, either}
use Rattle.position.proofs.Rules.{count, parent, Checked, Step, conflict, meets_other, in_pool, in_block, block_of, deadline_in, fields_right, any_owed, step_refusal}
use Rattle.position.specs.declared.Position.{Position}
use Rattle.position.proofs.Rules.{leaves_pool, after_mine, effect}
use Rattle.slots.proofs.Conflicts.{conflict_self}
use Rattle.slots.proofs.Ancestors.{other_find}
use Rattle.step_laws.proofs.AfterBlocks.{mine_blocks, mine_pool, mine_mined}
use Rattle.step_laws.proofs.Quiet.{Quiet, lasting}
use Rattle.claim_ledger.proofs.Sound.{Sound}
use Rattle.claim_ledger.proofs.Standing.{met_at, not_owed}
use Rattle.claim_ledger.proofs.EachKind.{wide}

pub data Fate (s u : List ℕ) (p q : Position) (t : ℕ) : Type 0 where
  same : in_pool q t ≡ true → q.mined ≡ p.mined → Fate s u p q t
  done : 0 < block_of q t → Fate s u p q t
  waits : in_pool q t ≡ true → q.mined ≡ p.mined + 1 → (p.mined + 1 ≡ deadline_in s u p t → ⊥) → Fate s u p q t
  ousted : (k : ℕ) → k < count s → conflict s k t ≡ true → in_block p k ≡ true → 0 < block_of q k → Fate s u p q t

pub record Lasts (s u : List ℕ) (p q : Position) : Type 0 where
  pub time : p.mined ≤ q.mined
  pub confirmed : (t : ℕ) → t < count s → 0 < block_of p t → block_of q t ≡ block_of p t
  pub pool : (t : ℕ) → t < count s → 0 < block_of p (parent s t) → in_pool p t ≡ true → Fate s u p q t

pub stays_confirmed : {s u : List ℕ} {p q : Position} → Lasts s u p q → (t : ℕ) → t < count s → 0 < block_of p t → 0 < block_of q t
stays_confirmed ls t l h = rw (ls.confirmed t l h) h

module _ (s u : List ℕ) (ok : Checked s) (p : Position) (g : Sound s u p) where
  mined_block : (k : ℕ) → in_block p k ≡ true → 0 < block_of (after_mine s p) k
  mined_block k b = rw (mine_blocks s p (wide s u ok p g) g.beyond, b) (omega arith)

  mined_kept : (t : ℕ) → t < count s → 0 < block_of p t → block_of (after_mine s p) t ≡ block_of p t
  mined_kept t l c =
      rw (mine_blocks s p (wide s u ok p g) g.beyond)
      (split (in_block p t) (λ b. absurd (omega (arith, g.block.free t t l l b (conflict_self s t)))) (λ b. rw b))

  mined_fate : any_owed s u p ≡ false → (t : ℕ) → t < count s → 0 < block_of p (parent s t) → in_pool p t ≡ true → Fate s u p (after_mine s p) t
  unfolding leaves_pool
  mined_fate none t l c i =
      split (in_block p t)
      (λ b. done (mined_block t b))
      (λ b.
      split (meets_other s (in_block p) t)
      (λ h.
      let w = other_find s (in_block p) t h in
      ousted w.1 w.3 (met_at s u ok p g w.2 l (inr c) w.1 w.3 w.4 w.5) w.5 (mined_block w.1 w.5))
      (λ h. waits (rw (mine_pool s p (wide s u ok p g) g.beyond, i, b, h)) (mine_mined s p (wide s u ok p g) g.beyond) (not_owed s u p none t l i b)))

  lasts_mine : any_owed s u p ≡ false → Lasts s u p (after_mine s p)
  lasts_mine none = record { time = omega (arith, mine_mined s p (wide s u ok p g) g.beyond); confirmed = mined_kept; pool = mined_fate none }

  lasts_quiet : (q : Position) → Quiet p q → Lasts s u p q
  lasts_quiet q r =
      record {
        time = omega (arith, r.mined);
        confirmed = λ t l c. r.heights t;
        pool = λ t l c i. same (r.pool t i) r.mined;
      }

  pub lasts : (x : Step) → fields_right s u x ≡ true → step_refusal s u p x ≡ 0 → Lasts s u p (effect s p x)
  lasts x f h =
      either (lasting s u p (wide s u ok p g) g.beyond x f h)
      (lasts_quiet (effect s p x))
      (λ y. rw y.0 (lasts_mine y.1))
