-- Within the sheet, four bytes for each, and all named.
use Rattle.endings.proofs.Naming.{mask_by, ones_by, size_by, right_outside, right_short, right_all}
use Rattle.endings.proofs.ending.ending_right.Goals as goal

pub returns-then-not-mask_within : goal.returns-then-not-mask_within
returns-then-not-mask_within c = right_outside _ _ _ _ (mask_by _ _ _ _ c.count-n.ensures.is c.mask_within.ensures) c.if-not-mask_within.true-raw

pub returns-then-dests-ones_below : goal.returns-then-dests-ones_below
returns-then-dests-ones_below c = right_short _ _ _ _ (mask_by _ _ _ _ c.count-n.ensures.is c.mask_within.ensures) _ (ones_by _ _ _ _ c.count-n.ensures.is c.ones_below.ensures.is) c.if-not-mask_within.false-raw c.if-dests-ones_below.true

pub all_named-requires : goal.all_named-requires
all_named-requires c = record { dests_len = size_by _ _ _ _ _ c.count-n.ensures.is c.ones_below.ensures.is c.if-dests-ones_below.false }

pub returns : goal.returns
returns c =
    right_all _ _ _ _ (mask_by _ _ _ _ c.count-n.ensures.is c.mask_within.ensures) _
    (ones_by _ _ _ _ c.count-n.ensures.is c.ones_below.ensures.is) c.if-not-mask_within.false-raw _ c.if-dests-ones_below.false
    c.all_named.ensures
