-- What a hand-in gives away.
-- Assumes nothing.
use Rattle.laws.proofs.Prelude.{◌≡◌, refl, sym, ap, ◌∙◌, arith}
use Rattle.position.proofs.Rules.{saswap, run, accepted_of, open_of, list_bytes}
use Rattle.dated.specs.declared.Dated.{Dated}
use Rattle.dated.specs.Dated.{dated_step}
use Rattle.dated.proofs.OpenedRules.{opened_dated}
use Rattle.claim_handins.specs.Early.{early_kind, early, early_bytes}
use Rattle.claim_handins.specs.Claim.{emptied, emptied_dated, DatedApart, play_dated, Unseen, HandInsUnseen, BlockKept, ListsUnseen}
use Rattle.claim_handins.specs.Excepted.{careful3, waiting, handed_in, after, send_success, Excepted}
use Rattle.claim_handins.proofs.Emptied.{alike}
use Rattle.claim_handins.proofs.Rows.{accepted_emptied}
use Rattle.claim_handins.proofs.Counts.{number_emptied, played_emptied}
use Rattle.claim_handins.proofs.Kept.{row_entry}
use Rattle.claim_handins.proofs.OpenSteps.{open_emptied, list_emptied}
use Rattle.claim_handins.proofs.Lists.{list_written}

-- what is the same for each dated position and its emptied one is the same for two that differ in the block alone
dated_alike : {A : Type 0} (f : Dated → A) → ((d : Dated) → f d ≡ f (emptied_dated d)) → (d e : Dated) → DatedApart d e → f d ≡ f e
dated_alike f h d e a = h d ∙ ap f a ∙ sym (h e)

-- Two positions with equal counts that differ in the block being filled alone have, under open and loose conduct and with stealth 0, the
-- same open steps of kinds 1, 2 and 3 and the same refusals of these, and any row of such steps leaves them so, their counts equal.
pub hand_ins_unseen : HandInsUnseen
unfolding emptied_dated
hand_ins_unseen s u w d e a =
    record {
      open_same = λ party k h. dated_alike (λ r. open_of s u r.position party k) (λ r. open_emptied s u w r.position party k h) d e a;
      list_same = dated_alike (λ r. early_bytes (list_bytes s u r.position)) (λ r. list_emptied s u w r.position) d e a;
      refusal_same = λ b h. dated_alike (λ r. (dated_step s u r b).refusal) (number_emptied s u w b h) d e a;
      row_apart = λ bs h. played_emptied s u w bs h d ∙ ap (play_dated s u bs) a ∙ sym (played_emptied s u w bs h e);
      row_same = λ bs h. dated_alike (λ r. accepted_of s u bs r.position) (λ r. accepted_emptied s u w bs h r.position) d e a;
    }

-- Steps of kinds 1, 2 and 3 leave every block entry as it was, so positions whose blocks differ stay different.
pub block_kept : BlockKept
block_kept s u bs h d t = row_entry s u t bs h d

-- What the list call writes for steps of these kinds is the same for two journals that come to such positions.
pub lists_unseen : ListsUnseen
lists_unseen s u w j k out more a h i =
    rw (list_written s u j out h, list_written s u k more i)
    (alike (λ p. early_bytes (list_bytes s u p)) (list_emptied s u w) (run s u j).position (run s u k).position a)

-- Careful conduct is excepted: with stealth, paying first looks at the block. Bob's send of success is open before he hands it in too, and
-- gets 13 after.
pub careful_excepted : Excepted
unfolding opened_dated emptied emptied_dated
careful_excepted = record { runs = refl; apart = refl; open_first = refl; open_then = refl; refused_then = refl }

-- so the claim is false there
pub careful_seen : Unseen (saswap 3) careful3 (after waiting) (after handed_in) → ⊥
unfolding opened_dated early early_kind
careful_seen h = absurd (omega (arith, h.refusal_same send_success refl))
