-- Demand 3, and what it comes to for a reader.
-- Assumes nothing.
use Rattle.laws.proofs.Prelude.{ℕ, ◌+◌, ◌≤◌, ◌≡◌, sym, ◌∙◌, List, length, ltb-true, ne_eqb, zero-add}
use Rattle.position.proofs.Rules.{accepted, sheet_refusal, per_day, setup_refusal, start, block_of, is_confirmed, lock_height_in, FourBytes, journal_bytes, step}
use Rattle.position.specs.declared.Position.{Position}
use Rattle.position.proofs.Rules.{run_from, run, play, accepted_of}
use Rattle.sheet.proofs.Theorems.{sheet_checked}
use Rattle.slots.proofs.Conflicts.{conflict_self, siblings_conflict}
use Rattle.ledger.proofs.Rising.{blocks_rise}
use Rattle.position.proofs.StepCases.{refused_same}
use Rattle.step_laws.proofs.Journals
use Rattle.claim_ledger.specs.Claim.{entries_of, position_of, Agreement}
use Rattle.claim_ledger.specs.PoolClaim.{LeavesPool}
use Rattle.claim_ledger.specs.Once.{OpenedOnce, SpentOnce, SpentAfter, NoEarlyLock}
use Rattle.claim_ledger.proofs.SoundSteps.{sound_start, sound_play}
use Rattle.claim_ledger.proofs.PoolLeft.{pool_left}
use Rattle.readings.proofs.Coins.{coin_opening}
use Rattle.claim_ledger.proofs.Once.{one_place, parent_before}
use Rattle.claim_ledger.proofs.Agreed.{entries_low, agrees}

-- For every sheet and setup whose checks give 0 and every list of four-byte groups, the plain ledger accepts what the accepted kind 6
-- steps confirm, and its holders and payouts are those read from the position and from the report of the accepted steps.
pub agreement : Agreement
agreement = agrees

-- After every such list, at a mined block: an entry of the pool leaves it exactly if it is mined or is dead afterwards.
pub leaves_pool_lem : LeavesPool
leaves_pool_lem = pool_left

module _ (s u : List ℕ) (h : sheet_refusal s ≡ accepted) (k : setup_refusal s u ≡ accepted) (bs : List FourBytes) where
  -- What the accepted kind 6 steps confirm: no coin is opened twice,
  pub opened_once : OpenedOnce s (entries_of s u bs)
  opened_once i j e f a b o n q =
      let t : f.transaction ≡ e.transaction = sym (coin_opening s f.transaction n) ∙ q ∙ coin_opening s e.transaction o in
      one_place s (per_day u) (sheet_checked s h) (entries_of s u bs) (entries_low s u h k bs) (agreement s u h k bs).accepts i j e f a b (rw t (conflict_self s e.transaction))

  -- no output is spent twice,
  pub spent_once : SpentOnce s (entries_of s u bs)
  spent_once i j e f a b o q =
      one_place s (per_day u) (sheet_checked s h) (entries_of s u bs) (entries_low s u h k bs) (agreement s u h k bs).accepts i j e f a b (siblings_conflict s f.transaction e.transaction o q)

  -- or before it exists,
  pub spent_after : SpentAfter s (entries_of s u bs)
  spent_after j f a o =
      let w = parent_before s (per_day u) (sheet_checked s h) (entries_of s u bs) (entries_low s u h k bs) (agreement s u h k bs).accepts j f a o in
      (w.0, w.1, w.2, w.3, w.4, blocks_rise (entries_of s u bs) (agreement s u h k bs).ordered w.0 j w.1 f w.2 w.3 a)

  -- and no lock is early.
  pub no_early_lock : NoEarlyLock s u (position_of s u bs)
  unfolding is_confirmed lock_height_in
  no_early_lock t l c = (sound_play s u h k bs (start s) (sound_start s u)).settled.locks t l (ltb-true 0 (block_of (position_of s u bs) t) c)

  -- Running a list's accepted steps as a journal, where its length is allowed, takes them all and comes to where playing the list does.
  pub played_as_journal : length (journal_bytes (accepted_of s u bs (start s))) ≤ 65536
      → run s u (journal_bytes (accepted_of s u bs (start s))) ≡ record { refusal = accepted; accepted = length (accepted_of s u bs (start s)); position = position_of s u bs }
  played_as_journal l = rw zero-add at (Journals.accepted_journal s u h k bs l)

-- The same from any position, after c accepted steps.
pub played_as_row : (s u : List ℕ) (bs : List FourBytes) (c : ℕ) (p : Position)
    → run_from s u (accepted_of s u bs p) c p ≡ record { refusal = accepted; accepted = c + length (accepted_of s u bs p); position = play s u bs p }
played_as_row = Journals.accepted_run

-- A refused step alters nothing.
pub refused_alters_nothing : (s u : List ℕ) (p : Position) (b : FourBytes) → ((step s u p b).refusal ≡ accepted → ⊥) → (step s u p b).position ≡ p
refused_alters_nothing s u p b n = refused_same s u p b (ne_eqb (step s u p b).refusal accepted n)
