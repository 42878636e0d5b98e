-- The refusal number of a step whose fields are right.
-- Assumes nothing.
use Rattle.std.specs.Prelude.{ℕ, Bool, List}
use Rattle.laws.specs.Failing.{first_failing}
use Rattle.slots.specs.declared.Step.{Step}
use Rattle.slots.specs.declared.Step.TheVariants.{Share, Give, SendToPool, HandToMiner, Include, Mine, Bump}
use Rattle.slots.specs.Destination.{destination_number}
use Rattle.position.specs.declared.Position.{Position}
use Rattle.position.specs.Tests.{share_tests, give_tests, pool_tests, miner_tests, include_tests, mine_tests, bump_tests}
use Rattle.position.specs.Conduct.{conduct_allows}

-- the tests of a step, by its kind
unfoldable pub tests : List ℕ → List ℕ → Position → Step → List (ℕ × Bool)
tests s u p (Share party t to) = share_tests (conduct_allows s u p (Share party t to)) s p party t (destination_number to)
tests s u p (Give party i to) = give_tests (conduct_allows s u p (Give party i to)) p party i (destination_number to)
tests s u p (SendToPool party t to) = pool_tests (conduct_allows s u p (SendToPool party t to)) s u p party t (destination_number to)
tests s u p (HandToMiner party t to) = miner_tests (conduct_allows s u p (HandToMiner party t to)) s u p party t (destination_number to)
tests s u p (Include party t to) = include_tests s u p t
tests s u p (Mine party t to) = mine_tests s u p
tests s u p (Bump party t to) = bump_tests s u p t

-- "Checks go by rising number", but for Slip 3: the first in the order of the tests that fails, 0 if none
unfoldable pub step_refusal : List ℕ → List ℕ → Position → Step → ℕ
step_refusal s u p x = first_failing (tests s u p x)
