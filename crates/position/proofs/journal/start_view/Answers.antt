-- Nothing stands, is confirmed or shared.
use Rattle.position.proofs.Starts.{start_seen}
use Rattle.laws.proofs.Prelude.{ap, ◌∙◌}
use Rattle.position.specs.Position.{start}
use Rattle.position.specs.declared.Position.{Position}
use Rattle.position.proofs.journal.start_view.Goals as goal

pub returns : goal.returns
returns c = start_seen _ _ _ _ c.expiring.ensures (ap (λ (p : Position). p.keys) (c.start-position.ensures ∙ ap start c.bytes.ensures))
