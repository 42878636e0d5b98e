-- Every list of steps leads to a later chain.
-- Assumes nothing.
use Rattle.laws.proofs.Prelude.{ℕ, ◌≡◌, refl, sym, ◌∙◌, List, [], ◌∷◌, inl, inr, arith, split, either}
use Rattle.position.proofs.Rules.{sheet_refusal, setup_refusal, Checked, in_block, block_of, after_mine, effect, FourBytes, step, play}
use Rattle.position.specs.declared.Position.{Position}
use Rattle.sheet.proofs.Theorems.{sheet_checked}
use Rattle.slots.proofs.Conflicts.{conflict_self}
use Rattle.position.proofs.StepCases.{StepCase, taken, turned_down, step_case}
use Rattle.step_laws.proofs.AfterBlocks.{mine_blocks, mine_mined}
use Rattle.step_laws.proofs.Quiet.{Quiet, lasting}
use Rattle.claim_ledger.proofs.Sound.{Sound}
use Rattle.claim_ledger.proofs.SoundSteps.{sound_step}
use Rattle.claim_outage.proofs.Chain.{Later}
use Rattle.claim_ledger.proofs.EachKind.{wide}

-- q's chain is no earlier than p's
abbrev pub LaterIn : List ℕ → Position → Position → Type 0
LaterIn s p q = Later s (block_of p) p.mined (block_of q) q.mined

pub later_same : (s : List ℕ) (p : Position) → LaterIn s p p
later_same s p = record { time = omega arith; blocks = λ t l. inl refl }

pub later_then : (s : List ℕ) (p q r : Position) → LaterIn s p q → LaterIn s q r → LaterIn s p r
later_then s p q r a b =
    let m = a.time in
    let n = b.time in
    record {
      time = omega arith;
      blocks = λ t l.
          either (a.blocks t l)
          (λ x. either (b.blocks t l) (λ y. inl (y ∙ x)) (λ y. inr (sym x ∙ y.0, omega (arith, y.1))))
          (λ x. either (b.blocks t l) (λ y. inr (x.0, omega (arith, x.1))) (λ y. inr (x.0, omega (arith, y.1))));
    }

module _ (s u : List ℕ) (ok : Checked s) (p : Position) (g : Sound s u p) where
  later_quiet : (q : Position) → Quiet p q → LaterIn s p q
  later_quiet q r = record { time = omega (arith, r.mined); blocks = λ t l. inl (r.heights t) }

  later_mine : LaterIn s p (after_mine s p)
  later_mine =
      record {
        time = omega (arith, mine_mined s p (wide s u ok p g) g.beyond);
        blocks = λ t l.
            rw (mine_blocks s p (wide s u ok p g) g.beyond)
            (split (in_block p t)
            (λ b. rw b (inr (g.block.free t t l l b (conflict_self s t), omega arith)))
            (λ b. rw b (inl refl)));
      }

  later_case : (b : FourBytes) → StepCase s u p b → LaterIn s p (step s u p b).position
  later_case b (taken x d f r e) =
      rw e
      (either (lasting s u p (wide s u ok p g) g.beyond x f r)
      (later_quiet (effect s p x))
      (λ y. rw y.0 later_mine))
  later_case b (turned_down n m e) = rw e (later_same s p)

module _ (s u : List ℕ) (h : sheet_refusal s ≡ 0) (k : setup_refusal s u ≡ 0) where
  pub later_step : (p : Position) (b : FourBytes) → Sound s u p → LaterIn s p (step s u p b).position
  later_step p b g = later_case s u (sheet_checked s h) p g b (step_case s u p b)

  pub later_play : (bs : List FourBytes) (p : Position) → Sound s u p → LaterIn s p (play s u bs p)
  unfolding play
  later_play [] p g = later_same s p
  later_play (b ∷ bs) p g =
      let q = (step s u p b).position in
      later_then s p q (play s u bs q) (later_step p b g) (later_play bs q (sound_step s u h k p b g))
