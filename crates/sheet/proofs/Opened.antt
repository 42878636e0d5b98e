-- One name that opens every definition of sheets and setups, for proofs by computation: `unfolding opened`.
-- Assumes nothing.
use Rattle.laws.proofs.Prelude.{all_below, any_below, first_failing, number_at}
use Rattle.laws.specs.Same.{same}
use Rattle.sheet.specs.Field.{parties, count, arrays, place, party_at, is_party, start_keys, entry, lock_pair, opening}
use Rattle.sheet.specs.Check.{head_right, count_right, within, masks_right, signatures_right, length_right, parent_right, entry_right, days_right, lock_right, has_child, children_right, array_tests, sheet_tests, sheet_refusal}
use Rattle.sheet.specs.Saswap.{offset, saswap_at, saswap}
use Rattle.sheet.specs.Setup.{per_day, blocks_right, parties_right, is_saswap, conduct_right, setup_tests, setup_refusal}
use Rattle.sheet.specs.LockHeight.{lock_blocks, since_parent, lock_height}

unfoldable pub opened : Unit {0}
unfolding all_below any_below first_failing number_at same parties count arrays place party_at is_party start_keys entry lock_pair opening head_right
    count_right within masks_right signatures_right length_right parent_right entry_right days_right lock_right has_child children_right array_tests
    sheet_tests sheet_refusal offset saswap_at saswap per_day blocks_right parties_right is_saswap conduct_right setup_tests setup_refusal lock_blocks
    since_parent lock_height
opened = tt
