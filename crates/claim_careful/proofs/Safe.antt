-- The claim, from the invariant of the position, and from the agreement of ledger and report with it.
-- Assumes nothing.
use Rattle.laws.proofs.Prelude.{ℕ, ◌≡◌, sym, List}
use Rattle.position.proofs.Rules.{per_day, ledger_holder, is_payout_to, reported_holder, holder_in}
use Rattle.sheet.proofs.Theorems.{saswap_passes, setup_checked}
use Rattle.claim_ledger.specs.Claim.{books_of, position_of, reported_bytes}
use Rattle.claim_ledger.proofs.Theorems.{agreement}
use Rattle.claim_careful.specs.Claim.{PaidOnce, Careful}
use Rattle.claim_careful.proofs.Setting.{sheet}
use Rattle.claim_careful.proofs.Along.{guarded}
use Rattle.claim_careful.proofs.Secrets.{not_both_known}
use Rattle.claim_careful.proofs.Payouts.{not_both_paid}

-- two readings of the holders with the same payouts
alike : (s : List ℕ) (a b : ℕ → ℕ) → ((party coin : ℕ) → is_payout_to s a party coin ≡ is_payout_to s b party coin) → PaidOnce s a
    → PaidOnce s b
alike s a b same once party = rw (← same party 0, ← same party 1) (once party)

pub safe : Careful
safe u r c bs =
    let s = sheet u in
    let w = guarded u r c bs in
    let one = (setup_checked s u r).blocks_some in
    let all = agreement s u (saswap_passes (per_day u)) r bs in
    let books = ledger_holder (books_of s u bs).kept in
    let position = not_both_paid u one (position_of s u bs) w.sound w.invariant in
    let ledger = alike s (holder_in s (position_of s u bs)) books all.position.payouts_to position in
    record {
      secrets = not_both_known u one (position_of s u bs) w.sound w.invariant;
      position = position;
      ledger = ledger;
      report = λ out h. alike s books (reported_holder s (reported_bytes s u bs out)) (λ party coin. sym ((all.report out h).payouts_to party coin)) ledger;
    }
