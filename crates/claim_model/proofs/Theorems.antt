-- What document 001's model checks, proved.
-- Assumes nothing.
use Rattle.laws.proofs.Prelude.{◌≡◌, ◌∙◌, true, either, or_parts}
use Rattle.position.proofs.Rules.{saswap, per_day, start, in_pool, in_block}
use Rattle.sheet.proofs.Theorems.{saswap_passes, setup_checked}
use Rattle.step_laws.proofs.Theorems.{wellformed_start, wellformed_play}
use Rattle.claim_ledger.specs.Claim.{position_of}
use Rattle.claim_ledger.proofs.SoundSteps.{sound_start, sound_play}
use Rattle.claim_careful.proofs.Along.{guarded}
use Rattle.claim_model.specs.Words.{none_remains}
use Rattle.claim_model.specs.Claim.{ModelKept, ModelExpected, FairEnding, EndingsFinal}
use Rattle.claim_model.proofs.AnySheets.{kept}
use Rattle.claim_model.proofs.FirstPhases.{made_shared}
use Rattle.claim_model.proofs.Phases.{one_phase, phase_is}
use Rattle.claim_model.proofs.Unexpected.{nowhere}
use Rattle.claim_model.proofs.Endings.{none_left, late_remains, spend_b_left, pool_left, block_left, finished, pool_empty, block_empty}
use Rattle.claim_model.proofs.Watched.{watched}
use Rattle.claim_model.proofs.Fair.{fair}
use Rattle.claim_model.proofs.Final.{final_play}

-- On every checked sheet: TypeOK, NoConflictingTransactions, TransactionTimelocksEnforced.
pub model_kept : ModelKept
model_kept s u h k bs =
    kept s u (position_of s u bs) (sound_play s u h k bs (start s) (sound_start s u))
    (wellformed_play s u bs (start s) h (wellformed_start s h))

-- Under careful conduct on the SASwap sheet: ConsistentPhase, NoUnexpectedTransactions, ExpectedStateOnTimeout,
-- NoTransactionsRemaining_iff_NotTimedOut, ExpectedStateOnFinish.
pub model_expected : ModelExpected
model_expected u r c bs =
    let s = saswap (per_day u) in
    let p = position_of s u bs in
    let w = watched u r c bs in
    let g = w.guarded.sound in
    let j = w.guarded.invariant in
    let some = (setup_checked s u r).blocks_some in
    record {
      one_phase = one_phase p;
      phase_is = phase_is p (made_shared p w.firsts);
      unexpected = nowhere u p g j;
      on_timeout = late_remains u some p g j;
      none_remaining = finished u some p g j;
      not_timed_out = none_left u some p g j;
      finished = λ f n. let e : none_remains s p ≡ true = finished u some p g j ∙ rw (f, n) in (e, λ t. (pool_empty u some p g j e t, block_empty u some p g j e t));
      timed_out_lem = λ h. (
        spend_b_left u some p g j h,
        λ t y. either (or_parts (in_pool p t) (in_block p t) y) (pool_left u some p g j h t) (block_left u some p g j h t),
      );
    }

-- Under careful conduct on the SASwap sheet: where coin A is paid out, the other party has what it needs for coin B, or the swap has
-- timed out; where both are, each party has one.
pub fair_ending : FairEnding
fair_ending u r c bs =
    let s = saswap (per_day u) in
    let w = watched u r c bs in
    let k = w.guarded in
    let h = saswap_passes (per_day u) in
    fair u c (setup_checked s u r).blocks_some (position_of s u bs) k.sound k.invariant w.beside
    (wellformed_play s u bs (start s) h (wellformed_start s h))

-- And an ending is final: no further list of steps undoes it.
pub endings_final : EndingsFinal
endings_final u r c bs more = final_play u r c more (position_of (saswap (per_day u)) u bs) (watched u r c bs)
