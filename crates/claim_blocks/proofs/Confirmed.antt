-- What the accepted kind 6 steps confirm: right destinations, and blocks within 1 to 10,000.
-- Assumes nothing.
use Rattle.laws.proofs.Prelude.{ℕ, zero, suc, ◌+◌, ◌≤◌, ◌<◌, ◌≡◌, ap, ◌∙◌, true, List, [], ◌∷◌, arith, pick, split, gather, All, empty, also, all_append}
use Rattle.position.proofs.Rules.{count, sheet_refusal, setup_refusal, Step, Entry, shares_to, Some, in_block, block_to, effect, block_limit, FourBytes, block_entries}
use Rattle.position.specs.declared.Position.{Position}
use Rattle.position.proofs.Rules.{confirms, confirmed_entries}
use Rattle.sheet.proofs.Theorems.{sheet_checked}
use Rattle.step_laws.proofs.AfterBlocks.{mine_mined}
use Rattle.position.proofs.StepCases.{StepCase, taken, turned_down, step_case}
use Rattle.claim_ledger.proofs.Sound.{Sound}
use Rattle.claim_ledger.proofs.SoundSteps.{sound_step}
use Rattle.claim_ledger.proofs.EachKind.{wide}
use Rattle.claim_ledger.proofs.Confirming.{StepConfirms, nothing, the_block, step_confirms, entries_taken, entries_refused}

-- an entry that passes 29 and the second half of 30
pub record Fine (s : List ℕ) (e : Entry) : Type 0 where
  pub low : e.transaction < count s
  pub to : shares_to s e.transaction e.destination ≡ true
  pub some : 1 ≤ e.block
  pub few : e.block ≤ block_limit

pub all_gather : {A : Type 0} {P : A → Type 0} (n : ℕ) (f : ℕ → List A) → ((i : ℕ) → i < n → All P (f i)) → All P (gather n f)
unfolding gather
all_gather zero f h = empty
all_gather (suc n) f h = all_append (all_gather n f (λ i l. h i (omega arith))) (h n (omega arith))

module _ (s u : List ℕ) (h : sheet_refusal s ≡ 0) (k : setup_refusal s u ≡ 0) where
  abbrev entry_at : Position → ℕ → Entry
  entry_at p t = record { transaction = t; destination = block_to p t; block = p.mined + 1 }

  block_fine : (p : Position) → Sound s u p → p.mined < block_limit → All (Fine s) (block_entries s p)
  unfolding block_entries
  block_fine p g m =
      all_gather (count s) (λ t. pick (in_block p t) (entry_at p t ∷ []) [])
      (λ t l.
      split (in_block p t)
      (λ b. rw b (also {x = entry_at p t} (record { low = l; to = g.block_to_lem t l b; some = omega arith; few = omega arith }) empty))
      (λ b. rw b empty))

  step_fine : (p : Position) → Sound s u p → (x : Step) → Sound s u (effect s p x) → StepConfirms s p x → All (Fine s) (confirms s p (Some x))
  step_fine p g x q (nothing e c) = rw e empty
  step_fine p g x q (the_block e a) =
      let m = ap (λ (r : Position). r.mined) a ∙ mine_mined s p (wide s u (sheet_checked s h) p g) g.beyond in
      rw e (block_fine p g (omega (arith, q.settled.limit)))

  first_fine : (b : FourBytes) (bs : List FourBytes) → ((p : Position) → Sound s u p → All (Fine s) (confirmed_entries s u bs p))
      → (p : Position) → Sound s u p → StepCase s u p b → All (Fine s) (confirmed_entries s u (b ∷ bs) p)
  first_fine b bs rest p g (taken x d f r e) =
      let q = rw e at (sound_step s u h k p b g) in
      rw (entries_taken s u b bs p x d e) (all_append (step_fine p g x q (step_confirms s u (sheet_checked s h) p g x)) (rest (effect s p x) q))
  first_fine b bs rest p g (turned_down n m e) = rw (entries_refused s u b bs p n m e) (rest p g)

  pub entries_fine : (bs : List FourBytes) (p : Position) → Sound s u p → All (Fine s) (confirmed_entries s u bs p)
  unfolding confirmed_entries
  entries_fine [] p g = empty
  entries_fine (b ∷ bs) p g = first_fine b bs (entries_fine bs) p g (step_case s u p b)
