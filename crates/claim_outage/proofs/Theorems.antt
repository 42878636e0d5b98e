-- What an outage can cost: the claims of specs/Claim.antt.
-- Assumes nothing.
use Rattle.sheet.proofs.Theorems.{sheet_checked}
use Rattle.position.proofs.Rules.{start, journal_steps, play}
use Rattle.claim_ledger.proofs.SoundSteps.{sound_start, sound_play}
use Rattle.claim_outage.specs.Claim.{Foresight, Planner}
use Rattle.claim_outage.proofs.Between.{fixed_now, below, any_list}
use Rattle.claim_outage.proofs.Pool.{early_start, early_play, fate_play}
use Rattle.claim_outage.proofs.Pools.{pooled_start, pooled_play}
use Rattle.claim_outage.proofs.Reach.{reached}
use Rattle.claim_outage.proofs.Overtake.{overtaken}
use Rattle.claim_outage.proofs.Read.{verdict_read, sheet_right, setup_right, position_played}
use Rattle.claim_outage.proofs.Verdicts.{promise}

-- For every sheet and setup whose checks give 0, every list of steps and every further one.
pub foresight : Foresight
foresight s u h k now next =
    let p = play s u now (start s) in
    let g = sound_play s u h k now (start s) (sound_start s u) in
    let e = early_play s u h k now (start s) (sound_start s u) (early_start s u) in
    record {
      below = λ t l. below s u (sheet_checked s h) p t l;
      between = λ t l. any_list s u h k p next g t l;
      early = e;
      pool = λ t l i f. fate_play s u h k next p g e (pooled_play s u h k now (start s) (sound_start s u) (pooled_start s u)) t l i (fixed_now s u (sheet_checked s h) p t l f);
      reached = λ t l new live. reached s u h k now t l new live;
      overtaken = λ t l new live day next time. overtaken s u h k now t l new live day next time;
    }

-- For all bytes that the call outage answers with 0.
pub planner : Planner
planner s u j blocks out a t l =
    let h = sheet_right s u j blocks out a in
    let k = setup_right s u j blocks out a in
    let bs = journal_steps j in
    rw (verdict_read s u j blocks out a t l, position_played s u j blocks out a)
    (promise s u h k (play s u bs (start s)) (sound_play s u h k bs (start s) (sound_start s u)) (early_play s u h k bs (start s) (sound_start s u) (early_start s u))
    (pooled_play s u h k bs (start s) (sound_start s u) (pooled_start s u)) blocks t l)
