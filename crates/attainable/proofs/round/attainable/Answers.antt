-- Only secrets that are shown by what can come.
use Rattle.std.proofs.Common.{rules}
use Rattle.attainable.proofs.Answers.{shown_start, shown_more, attained, secrets_left}
use Rattle.attainable.proofs.round.attainable.Goals as goal

pub loop-secrets-init : goal.loop-secrets-init
loop-secrets-init c = shown_start _ _ _

pub returns-then-more-secrets : goal.returns-then-more-secrets
returns-then-more-secrets c =
    attained _ _ _ c.requires _ _ _ _ _ c.loop-secrets.invariant c.from.ensures (search rules) c.signers.ensures
    c.reach-members.ensures c.shown.ensures c.if-more-secrets.true

pub loop-secrets-smaller : goal.loop-secrets-smaller
loop-secrets-smaller c =
    secrets_left _ _ _ c.requires _ _ _ _ _ c.loop-secrets.invariant c.from.ensures (search rules) c.signers.ensures
    c.reach-members.ensures c.shown.ensures c.if-more-secrets.false

pub loop-secrets-preserved : goal.loop-secrets-preserved
loop-secrets-preserved c =
    shown_more _ _ _ c.requires _ _ _ _ _ c.loop-secrets.invariant c.from.ensures (search rules) c.signers.ensures
    c.reach-members.ensures c.shown.ensures
