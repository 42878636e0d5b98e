-- All that holds in every position that careful conduct on the SASwap sheet leads to, along every row of four-byte groups.
-- Assumes nothing.
use Rattle.laws.proofs.Prelude.{ℕ, ◌≡◌, List, [], ◌∷◌}
use Rattle.position.proofs.Rules.{Checked, SetupChecked, per_day, conduct, setup_refusal, start, FourBytes, step, play}
use Rattle.position.specs.declared.Position.{Position}
use Rattle.sheet.proofs.Theorems.{saswap_passes, sheet_checked, setup_checked}
use Rattle.position.proofs.StepCases.{StepCase, taken, turned_down, step_case}
use Rattle.claim_ledger.proofs.SoundSteps.{sound_start}
use Rattle.claim_careful.proofs.Along.{Guarded, guarded_effect}
use Rattle.claim_careful.proofs.Setting.{sheet}
use Rattle.claim_careful.proofs.Start.{invariant_start}
use Rattle.claim_model.proofs.Exposed.{Exposed, exposed_effect, exposed_start}
use Rattle.claim_model.proofs.FirstPhases.{Marked, next_marked, marked_start}

pub record Watched (u : List ℕ) (p : Position) : Type 0 where
  pub guarded : Guarded u p
  pub beside : Exposed u p
  pub firsts : Marked p

module _ (u : List ℕ) (r : setup_refusal (sheet u) u ≡ 0) (c : conduct u ≡ 2) where
  ok : Checked (sheet u)
  ok = sheet_checked (sheet u) (saswap_passes (per_day u))

  su : SetupChecked (sheet u) u
  su = setup_checked (sheet u) u r

  pub watched_case : (p : Position) (b : FourBytes) → Watched u p → StepCase (sheet u) u p b → Watched u (step (sheet u) u p b).position
  watched_case p b w (taken x e f h is) =
      let k = w.guarded in
      rw is
      (record {
        guarded = guarded_effect u r c p x k f h;
        beside = exposed_effect u c su.blocks_some su.blocks_few p k.sound k.invariant w.beside ok x f h;
        firsts = next_marked u c p k.sound k.invariant w.beside w.firsts x f h;
      })
  watched_case p b w (turned_down n e is) = rw is w

  watched_play : (bs : List FourBytes) (p : Position) → Watched u p → Watched u (play (sheet u) u bs p)
  unfolding play
  watched_play [] p w = w
  watched_play (b ∷ bs) p w = watched_play bs (step (sheet u) u p b).position (watched_case p b w (step_case (sheet u) u p b))

  pub watched : (bs : List FourBytes) → Watched u (play (sheet u) u bs (start (sheet u)))
  watched bs =
      watched_play bs (start (sheet u))
      (record {
        guarded = record { sound = sound_start (sheet u) u; invariant = invariant_start u };
        beside = exposed_start u;
        firsts = marked_start u;
      })
