-- By the kind.
use Rattle.laws.specs.Booleans.{tests}
use Rattle.steps.specs.Decode.{of_kind}
use Rattle.steps.proofs.decode.of_kind.Goals as goal

pub returns-in-1 : goal.returns-in-1
unfolding of_kind
returns-in-1 c = rw c.in-1.is

pub returns-in-2 : goal.returns-in-2
unfolding of_kind
returns-in-2 c = rw c.in-2.is

pub returns-in-3 : goal.returns-in-3
unfolding of_kind
returns-in-3 c = rw c.in-3.is

pub returns-in-4 : goal.returns-in-4
unfolding of_kind
returns-in-4 c = rw c.in-4.is

pub returns-in-5 : goal.returns-in-5
unfolding of_kind
returns-in-5 c = rw c.in-5.is

pub returns-in-6 : goal.returns-in-6
unfolding of_kind
returns-in-6 c = rw c.in-6.is

pub returns-in-7 : goal.returns-in-7
unfolding of_kind
returns-in-7 c = rw c.in-7.is

pub returns-in_default : goal.returns-in_default
unfolding of_kind
returns-in_default c = simp (tests, c.in_default.in_default-own.rest.1, c.in_default.in_default-own.rest.0.1, c.in_default.in_default-own.rest.0.0.1, c.in_default.in_default-own.rest.0.0.0.1, c.in_default.in_default-own.rest.0.0.0.0.1, c.in_default.in_default-own.rest.0.0.0.0.0.1, c.in_default.in_default-own.rest.0.0.0.0.0.0.1)
