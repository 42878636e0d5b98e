-- No later than the blocks mined, or by what is left.
use Rattle.laws.proofs.Prelude.{◌+◌, ◌-◌, sym, leb, leb-true, leb-false, le-leb, lt-leb, arith, split}
use Rattle.call_outage.proofs.verdict.within.Goals as goal

pub returns-then-height-m : goal.returns-then-height-m
returns-then-height-m c = sym (le-leb c.args.height (c.args.mined + c.args.blocks) (omega (arith, c.if-height-m.true)))

pub returns : goal.returns
returns c =
    split (leb (c.args.height - c.args.mined) c.args.blocks)
    (λ y. rw (y, le-leb c.args.height (c.args.mined + c.args.blocks) (omega (arith, leb-true (c.args.height - c.args.mined) c.args.blocks y, c.if-height-m.false))))
    (λ y. rw (y, lt-leb c.args.height (c.args.mined + c.args.blocks) (omega (arith, leb-false (c.args.height - c.args.mined) c.args.blocks y, c.if-height-m.false))))
