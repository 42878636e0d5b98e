-- Field by field.
use Rattle.laws.proofs.Prelude.{◌∙◌, rules}
use Rattle.prospect.proofs.Marked.{sound}
use Rattle.prospect.proofs.Meets.{line_is, aims_are}
use Rattle.prospect.proofs.Rows.{up_is, only_is}
use Rattle.prospect.proofs.Heights.{fails_seen, ends_seen, ends_low, beat_seen, until_seen}
use Rattle.prospect.proofs.Beside.{above_filled, known_filled, elsewhere_is, elsewhere_small, comers_are}
use Rattle.prospect.proofs.seen.prospect.Goals as goal

pub mark-marks-requires : goal.mark-marks-requires
mark-marks-requires c =
    let over = above_filled _ _ _ _ c.requires.checked _ c.read-others.ensures _ c.unconfirmed-unconfirmed.ensures _ c.above-above.ensures in
    record { fit = c.requires; reads = c.read-others.ensures; filled = over; filled_2 = known_filled _ _ _ _ c.requires.checked _ c.read-others.ensures _ c.keys.ensures _ _ over c.known-known.ensures }

pub can-can-requires : goal.can-can-requires
can-can-requires c = c.requires.checked

pub elsewhere-elsewhere-requires : goal.elsewhere-elsewhere-requires
elsewhere-elsewhere-requires c = record { checked = c.requires.checked; filled = c.can-can.ensures }

pub comers-come-requires : goal.comers-come-requires
comers-come-requires c = (sound _ _ _ _ _ c.requires.checked c.mark-marks.ensures c.requires.setup.stealth_flag).few

pub lacks-requires : goal.lacks-requires
lacks-requires c = record { checked = c.requires.checked; held_value = c.mark-marks.ensures.pooled_is }

pub fails-requires : goal.fails-requires
fails-requires c = (sound _ _ _ _ _ c.requires.checked c.mark-marks.ensures c.requires.setup.stealth_flag)

pub ends-requires : goal.ends-requires
ends-requires c = (sound _ _ _ _ _ c.requires.checked c.mark-marks.ensures c.requires.setup.stealth_flag)

pub beats-requires : goal.beats-requires
beats-requires c = (sound _ _ _ _ _ c.requires.checked c.mark-marks.ensures c.requires.setup.stealth_flag)

pub until-requires : goal.until-requires
until-requires c = record { checked = c.requires.checked; sound = (sound _ _ _ _ _ c.requires.checked c.mark-marks.ensures c.requires.setup.stealth_flag) }

pub returns : goal.returns
returns c =
    let over = above_filled _ _ _ _ c.requires.checked _ c.read-others.ensures _ c.unconfirmed-unconfirmed.ensures _ c.above-above.ensures in
    let fine = sound _ _ _ _ _ c.requires.checked c.mark-marks.ensures c.requires.setup.stealth_flag in
    record {
      bounded =
          record {
            few = fine.few;
            early = search rules;
            stealthy = fine.flag;
            ending = λ t l. ends_low _ _ _ _ _ c.requires.checked c.mark-marks.ensures _ t (rw c.mark-marks.ensures.count_is at l) c.ends.ensures;
          };
      count_is = c.mark-marks.ensures.count_is;
      mined_is = c.from.ensures;
      stealth_is = c.mark-marks.ensures.stealth_is;
      paid_is = c.paid.ensures;
      contract_is = c.mark-marks.ensures.contract_is;
      fixed_is = c.mark-marks.ensures.fixed_is;
      each = λ t l.
          record {
            up_is = c.parent_sets.ensures.each t l ∙ up_is _ c.args.setup.now c.args.position c.args.party c.requires.checked t l;
            line_is = c.lines.ensures.each t l ∙ line_is _ _ c.requires.checked _ c.read-others.ensures.confirmed _ c.unconfirmed-unconfirmed.ensures t l;
            aims_is = c.aims.ensures.each t l ∙ aims_are _ _ c.requires.checked _ c.read-others.ensures.confirmed _ _ _ t (c.mark-marks.ensures.foreign_are.each t l) c.awaited-awaited.ensures;
            only_is =
                c.only.ensures.each t l
                ∙ only_is _ _ _ _ c.requires.checked t l _ _ c.paying.ensures (elsewhere_is _ _ _ _ c.requires.checked _ c.read-others.ensures _ _ _ over c.can-can.ensures c.elsewhere-elsewhere.ensures t l)
                (elsewhere_small _ _ _ _ c.requires.checked _ c.read-others.ensures _ _ _ over c.can-can.ensures c.elsewhere-elsewhere.ensures t l);
            known_is = c.widened.ensures.each t l ∙ (known_filled _ _ _ _ c.requires.checked _ c.read-others.ensures _ c.keys.ensures _ _ over c.known-known.ensures).each t l;
            secrets_is = c.widened-2.ensures.each t l ∙ c.read-others.ensures.shows.each t l;
            lacks_tells = c.lacks.ensures.each t l;
            fails_tells = fails_seen _ _ _ _ _ c.requires.checked c.mark-marks.ensures _ t l c.fails.ensures;
            ends_tells = ends_seen _ _ _ _ _ c.requires.checked c.mark-marks.ensures _ t l c.ends.ensures c.requires.setup.stealth_flag;
            beat_tells = λ r j off small.
                beat_seen _ _ _ _ _ c.requires.checked c.mark-marks.ensures _ t l r j off small _
                (comers_are _ _ _ _ c.requires.checked _ c.read-others.ensures _ _ _ over c.can-can.ensures c.elsewhere-elsewhere.ensures _ c.mark-marks.ensures _ c.comers-come.ensures) c.beats.ensures;
            until_tells = λ j m apart off small. until_seen _ _ _ _ _ c.requires.checked c.mark-marks.ensures _ t l j m off small _ c.read-others.ensures c.until.ensures apart;
          };
    }
