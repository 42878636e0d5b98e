-- Field by field.
use Rattle.laws.proofs.Prelude.{◌∙◌}
use Rattle.attainable.specs.Forms.Others.{waits_apart}
use Rattle.prospect.proofs.Meets.{fixed_is}
use Rattle.prospect.proofs.Reading.{runs_is, signs_is, waits_is}
use Rattle.prospect.proofs.marking.mark.Goals as goal

pub locks-requires : goal.locks-requires
locks-requires c = c.requires.fit

pub returns : goal.returns
unfolding waits_apart
returns c =
    let fixes = fixed_is _ _ c.requires.fit.checked _ c.requires.reads.confirmed _ c.fixed-fixed.ensures in
    record {
      count_is = c.count.ensures.is;
      stealth_is = c.from.ensures ∙ c.stealth.ensures;
      gone_is = c.requires.reads.gone;
      contract_is = c.contracts.ensures;
      payable_is = c.payable.ensures;
      pooled_is = c.pooled.ensures;
      signs_is = signs_is _ c.args.setup.now _ _ c.requires.fit.checked _ _ c.signs.ensures c.requires.filled_2;
      fixed_is = fixes;
      runs_is = runs_is _ _ _ _ c.requires.fit.checked _ _ _ c.running.ensures fixes (c.attainable-can.ensures.is _ _ _ c.requires.reads);
      since_is = c.since_locked.ensures;
      waits_is = waits_is _ c.args.setup.now _ c.args.party c.requires.fit.checked _ c.requires.reads.waits;
      apart_is = c.requires.reads.waits_elsewhere;
      locks = c.locks.ensures;
      rivals_are = c.rivals.ensures;
      above_are = c.requires.filled;
      foreign_are = c.foreign.ensures;
    }
