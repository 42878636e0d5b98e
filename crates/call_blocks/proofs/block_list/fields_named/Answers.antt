-- Whole entries, each with its fields named.
use Rattle.std.proofs.Common.{rules, tests}
use Rattle.std.proofs.lemmas.Iterator.{YieldsList-from_range}
use Rattle.laws.proofs.Prelude.{refl, ◌∙◌, arith}
use Rattle.laws.proofs.Ranges.{all_of_range}
use Rattle.call_blocks.proofs.Named.{named_whole, named_broken}
use Rattle.call_blocks.proofs.block_list.fields_named.Goals as goal

pub returns-then-list-ne0 : goal.returns-then-list-ne0
returns-then-list-ne0 c = named_broken _ _ c.if-list-ne0.true

pub returns : goal.returns
returns c = all_of_range _ _ _ _ _ c.all.ensures.ran (YieldsList-from_range 0 _ _ refl (omega arith)) (λ x b q k. search (rules, tests)) ∙ named_whole _ _ c.if-list-ne0.false
