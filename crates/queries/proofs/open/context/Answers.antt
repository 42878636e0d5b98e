-- From its parts.
use Rattle.queries.proofs.OpenSteps.{context_made}
use Rattle.queries.proofs.open.context.Goals as goal

pub is_paying-paying-requires : goal.is_paying-paying-requires
is_paying-paying-requires c = record { fit = c.requires.fit; view_value = c.requires.view_value; o_value = c.requires.o_value }

pub returns : goal.returns
returns c =
    context_made _ _ _ _ _ c.requires.o_value _ _ _ _ c.requires.view_value
    c.is_paying-paying.ensures c.requires.owed_value c.first_shares_made-made.ensures
