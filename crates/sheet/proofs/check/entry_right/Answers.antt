-- Payees, required signatures and veil are in range: check 6.
use Rattle.laws.proofs.Prelude.{tests, not-true, not-false, ap, ◌∙◌}
use Rattle.sheet.specs.Check.{entry_right, within}
use Rattle.sheet.proofs.check.entry_right.Goals as goal

pub returns-then-limit-from : goal.returns-then-limit-from
unfolding entry_right
returns-then-limit-from c = simp (tests, ← c.parties.ensures.is, ← c.limit.ensures, ← c.payees.ensures, ← c.from.ensures, c.if-limit-from.true)

pub returns-then-required-lt1 : goal.returns-then-required-lt1
unfolding entry_right
returns-then-required-lt1 c = simp (tests, ← c.parties.ensures.is, ← c.limit.ensures, ← c.payees.ensures, ← c.from.ensures, ← c.required-required.ensures, c.if-required-lt1.true, c.if-limit-from.false)

pub returns-then-not-within : goal.returns-then-not-within
unfolding entry_right
returns-then-not-within c =
    simp (
      tests,
      ← c.parties.ensures.is,
      ← c.limit.ensures,
      ← c.payees.ensures,
      ← c.from.ensures,
      ← (c.within.ensures ∙ ap (λ b. within b c.required-required.result) c.bytes.ensures),
      not-true c.within.result c.if-not-within.true-raw,
      ← c.required-required.ensures,
      c.if-required-lt1.false,
      c.if-limit-from.false,
    )

pub returns : goal.returns
unfolding entry_right
returns c =
    simp (
      tests,
      ← c.parties.ensures.is,
      ← c.limit.ensures,
      ← c.payees.ensures,
      ← c.from.ensures,
      ←
          c.veil.ensures,
      ← (c.within.ensures ∙ ap (λ b. within b c.required-required.result) c.bytes.ensures),
      not-false c.within.result c.if-not-within.false-raw,
      ←
          c.required-required.ensures,
      c.if-required-lt1.false,
      c.if-limit-from.false,
    )
