-- What is left to do from each group on comes to the whole.
use Rattle.laws.proofs.Prelude.{arith, ap, ◌∙◌}
use Rattle.position.specs.Position.{start}
use Rattle.claim_history.proofs.Playing.{playing_start, playing_more, playing_done}
use Rattle.claim_history.proofs.play.play_steps.Goals as goal

pub loop-k-init : goal.loop-k-init
loop-k-init c = playing_start _ _ _ _ (c.start.ensures ∙ ap start c.bytes.ensures)

pub play_one-played-requires : goal.play_one-played-requires
play_one-played-requires c = record { fit = c.requires; i_in_bounds = omega (arith, c.loop-k-test.true); accepted_le_i = omega (arith, c.loop-k.invariant.low) }

pub loop-k-preserved : goal.loop-k-preserved
loop-k-preserved c = playing_more _ _ _ _ _ _ c.loop-k.invariant (omega (arith, c.loop-k-test.true)) c.play_one-played.ensures

pub returns : goal.returns
returns c =
    let whole = playing_done _ _ _ _ _ c.loop-k.invariant (omega (arith, c.loop-k-test.false)) in
    record { position_value = whole.0; accepted_value = whole.1 }
