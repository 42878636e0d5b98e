-- The confirmed entries of a list have blocks that are mined, so entries of later blocks stand behind them in order.
-- Assumes nothing.
use Rattle.laws.proofs.Prelude.{ℕ, ◌≤◌, ◌<◌, ◌≡◌, ap, ◌∙◌, true, List, [], ◌∷◌, ◌++◌, lt-ltb, arith, All, empty, all_append, all_weaken}
use Rattle.position.proofs.Rules.{sheet_refusal, setup_refusal, Step, Some, Entry, before, in_order, start, effect, FourBytes, confirms, confirmed_entries, play}
use Rattle.position.specs.declared.Position.{Position}
use Rattle.sheet.proofs.Theorems.{sheet_checked}
use Rattle.position.proofs.StepCases.{StepCase, taken, turned_down, step_case}
use Rattle.step_laws.proofs.AfterBlocks.{mine_mined}
use Rattle.position.proofs.RowSteps.{play_next}
use Rattle.claim_ledger.specs.Claim.{entries_of, position_of}
use Rattle.claim_ledger.proofs.Sound.{Sound}
use Rattle.claim_ledger.proofs.SoundSteps.{sound_start, sound_step}
use Rattle.claim_ledger.proofs.Confirming.{StepConfirms, nothing, the_block, step_confirms, entries_taken, entries_refused}
use Rattle.claim_ledger.proofs.Order.{order_append, block_in, entries_after}
use Rattle.claim_outage.proofs.Play.{later_play}
use Rattle.claim_ledger.proofs.EachKind.{wide}

module _ (s u : List ℕ) (h : sheet_refusal s ≡ 0) (k : setup_refusal s u ≡ 0) where
  abbrev Rest : List FourBytes → Type 0
  Rest bs = (p : Position) → Sound s u p → All (λ e. e.block ≤ (play s u bs p).mined) (confirmed_entries s u bs p)

  step_then : (bs : List FourBytes) → Rest bs → (p : Position) → Sound s u p → (x : Step) → Sound s u (effect s p x) → StepConfirms s p x
      → All (λ e. e.block ≤ (play s u bs (effect s p x)).mined) (confirms s p (Some x) ++ confirmed_entries s u bs (effect s p x))
  step_then bs rest p g x q (nothing e c) = rw e (rest (effect s p x) q)
  step_then bs rest p g x q (the_block e a) =
      let m = ap (λ (r : Position). r.mined) a ∙ mine_mined s p (wide s u (sheet_checked s h) p g) g.beyond in
      let t = (later_play s u h k bs (effect s p x) q).time in
      rw e (all_append (all_weaken (λ y w. omega (arith, w.block)) (block_in s p)) (rest (effect s p x) q))

  first_then : (b : FourBytes) (bs : List FourBytes) → Rest bs → (p : Position) → Sound s u p → StepCase s u p b
      → All (λ e. e.block ≤ (play s u (b ∷ bs) p).mined) (confirmed_entries s u (b ∷ bs) p)
  first_then b bs rest p g (taken x d f r e) =
      rw (entries_taken s u b bs p x d e, play_next s u b bs p, e)
      (step_then bs rest p g x (rw e at (sound_step s u h k p b g)) (step_confirms s u (sheet_checked s h) p g x))
  first_then b bs rest p g (turned_down n m e) = rw (entries_refused s u b bs p n m e, play_next s u b bs p, e) (rest p g)

  entries_mined : (bs : List FourBytes) → Rest bs
  unfolding confirmed_entries
  entries_mined [] p g = empty
  entries_mined (b ∷ bs) p g = first_then b bs (entries_mined bs) p g (step_case s u p b)

  by_block_lem : (m : ℕ) (x y : Entry) → x.block ≤ m → m < y.block → before x y ≡ true
  unfolding before
  by_block_lem m x y a b = rw (lt-ltb x.block y.block (omega arith))

  -- entries of later blocks behind those of a list
  pub order_behind : (now : List FourBytes) (more : List Entry) → in_order more ≡ true → All (λ e. (position_of s u now).mined < e.block) more
      → in_order (entries_of s u now ++ more) ≡ true
  order_behind now more o each =
      order_append (by_block_lem (position_of s u now).mined) (entries_mined now (start s) (sound_start s u)) each
      (entries_after s u h k now (start s) (sound_start s u)).order o
