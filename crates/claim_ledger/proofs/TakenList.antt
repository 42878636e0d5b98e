-- The ledger takes all that the accepted kind 6 steps of a list confirm, and stays linked to the position.
-- Assumes nothing.
use Rattle.laws.proofs.Prelude.{ℕ, ◌+◌, ◌≡◌, refl, true, List, [], ◌∷◌, ◌++◌, arith, none_some}
use Rattle.position.proofs.Rules.{sheet_refusal, per_day, setup_refusal, Checked, Step, Entry, Kept, none_kept, enter, Some, start, in_block, block_to, block_of}
use Rattle.position.specs.declared.Position.{Position}
use Rattle.position.proofs.Rules.{confirmed_to, after_mine, effect, FourBytes, play, block_entries, confirms, confirmed_entries}
use Rattle.sheet.proofs.Theorems.{sheet_checked}
use Rattle.step_laws.proofs.Untouched.{SameConfirmed}
use Rattle.step_laws.proofs.AfterBlocks.{mine_blocks, mine_to}
use Rattle.position.proofs.RowSteps.{play_next}
use Rattle.position.proofs.StepCases.{StepCase, taken, turned_down, step_case}
use Rattle.claim_ledger.proofs.Sound.{Sound}
use Rattle.claim_ledger.proofs.SoundSteps.{start_blocks, sound_step}
use Rattle.claim_ledger.proofs.EachKind.{wide}
use Rattle.claim_ledger.proofs.Confirming.{StepConfirms, nothing, the_block, step_confirms, entries_taken, entries_refused}
use Rattle.claim_ledger.proofs.Linked.{Linked}
use Rattle.claim_ledger.proofs.TakenBlock.{block_taken}

-- nothing is confirmed and none is kept
pub start_linked : (s : List ℕ) → Linked s (block_of (start s)) (confirmed_to (start s)) none_kept
unfolding none_kept
start_linked s =
    rw (start_blocks s)
    (record {
      parents = λ t l c o. absurd (omega arith);
      leaf = λ coin e h. none_some h;
      covers = λ t l c. absurd (omega arith);
    })

-- the entries l bring the ledger to where it is linked to q
pub record Takes (s u : List ℕ) (kept : Kept) (l : List Entry) (q : Position) : Type 0 where
  pub after : Kept
  pub linked : Linked s (block_of q) (confirmed_to q) after
  pub entered : (es : List Entry) → enter s (per_day u) (l ++ es) kept ≡ enter s (per_day u) es after

module _ (s u : List ℕ) (ok : Checked s) (p : Position) (g : Sound s u p) (kept : Kept) (lk : Linked s (block_of p) (confirmed_to p) kept) where
  nothing_taken : (q : Position) → SameConfirmed p q → Takes s u kept [] q
  nothing_taken q c = record { after = kept; linked = rw (c.blocks, c.to) lk; entered = λ es. refl }

  block_takes : Takes s u kept (block_entries s p) (after_mine s p)
  unfolding block_entries
  block_takes =
      let r = block_taken s (per_day u) ok (block_of p) (confirmed_to p) (in_block p) (block_to p) p.mined g.settled g.block kept lk in
      record { after = r.0; linked = rw (mine_blocks s p (wide s u ok p g) g.beyond, mine_to s p (wide s u ok p g) g.beyond) r.1; entered = r.2 }

  step_takes : (x : Step) → StepConfirms s p x → Takes s u kept (confirms s p (Some x)) (effect s p x)
  step_takes x (nothing e c) = rw e (nothing_taken (effect s p x) c)
  step_takes x (the_block e q) = rw (e, q) block_takes

-- the list, played from p, brings the ledger to where it is linked to the last position
pub record Taken (s u : List ℕ) (bs : List FourBytes) (p : Position) (kept : Kept) : Type 0 where
  pub after : Kept
  pub linked : Linked s (block_of (play s u bs p)) (confirmed_to (play s u bs p)) after
  pub entered : enter s (per_day u) (confirmed_entries s u bs p) kept ≡ record { accepts = true; kept = after }

module _ (s u : List ℕ) (h : sheet_refusal s ≡ 0) (k : setup_refusal s u ≡ 0) where
  abbrev Rest : List FourBytes → Type 0
  Rest bs = (p : Position) (kept : Kept) → Sound s u p → Linked s (block_of p) (confirmed_to p) kept → Taken s u bs p kept

  -- a first step, before a rest of which all is known
  first_taken : (b : FourBytes) (bs : List FourBytes) → Rest bs → (p : Position) (kept : Kept) → Sound s u p → Linked s (block_of p) (confirmed_to p) kept → StepCase s u p b → Taken s u (b ∷ bs) p kept
  first_taken b bs rest p kept g lk (taken x d f r e) =
      let w = step_takes s u (sheet_checked s h) p g kept lk x (step_confirms s u (sheet_checked s h) p g x) in
      let q = rest (effect s p x) w.after (rw e at (sound_step s u h k p b g)) w.linked in
      record {
        after = q.after;
        linked = rw (play_next s u b bs p, e) q.linked;
        entered = rw (entries_taken s u b bs p x d e, w.entered (confirmed_entries s u bs (effect s p x))) q.entered;
      }
  first_taken b bs rest p kept g lk (turned_down n m e) =
      let q = rest p kept g lk in
      record { after = q.after; linked = rw (play_next s u b bs p, e) q.linked; entered = rw (entries_refused s u b bs p n m e) q.entered }

  pub list_taken : (bs : List FourBytes) → Rest bs
  unfolding play confirmed_entries enter
  list_taken [] p kept g lk = record { after = kept; linked = lk; entered = refl }
  list_taken (b ∷ bs) p kept g lk = first_taken b bs (list_taken bs) p kept g lk (step_case s u p b)
