-- The digit's character.
use Rattle.call_page.specs.Line.{digit}
use Rattle.laws.proofs.Prelude.{refl}
use Rattle.call_page.proofs.line.digit.Goals as goal

pub returns : goal.returns
unfolding digit
returns c = refl
