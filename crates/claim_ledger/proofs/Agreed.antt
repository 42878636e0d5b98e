-- The claim, from the ledger's link to the position, the order of the entries and the report read back.
-- Assumes nothing.
use Rattle.laws.proofs.Prelude.{ℕ, ◌<◌, ◌≡◌, sym, ap, ◌∙◌, true, List, All, all_weaken}
use Rattle.position.proofs.Rules.{count, sheet_refusal, setup_refusal, Kept, Books, none_kept, ledger, ledger_holder, start, FourBytes, is_payout, is_payout_to, reported_holder}
use Rattle.position.proofs.Rules.{holder_in}
use Rattle.claim_ledger.specs.Claim.{entries_of, books_of, position_of, reported_bytes, Same, Agrees}
use Rattle.claim_ledger.proofs.SoundSteps.{sound_start}
use Rattle.claim_ledger.proofs.TakenList.{Taken, start_linked, list_taken}
use Rattle.claim_ledger.proofs.Order.{After, entries_after}
use Rattle.claim_ledger.proofs.Holders.{position_holder}
use Rattle.claim_ledger.proofs.ReportedHolders.{answered_holder}

-- the same holders have the same payouts
same_by : (s : List ℕ) (held : ℕ → ℕ) (kept : Kept) → ((coin : ℕ) → held coin ≡ ledger_holder kept coin) → Same s held kept
unfolding is_payout is_payout_to
same_by s held kept h = record { holders = h; payouts = λ coin. rw (h coin); payouts_to = λ party coin. rw (h coin) }

module _ (s u : List ℕ) (h : sheet_refusal s ≡ 0) (k : setup_refusal s u ≡ 0) (bs : List FourBytes) where
  taken : Taken s u bs (start s) none_kept
  taken = list_taken s u h k bs (start s) none_kept (sound_start s u) (start_linked s)

  books : books_of s u bs ≡ record { accepts = true; kept = taken.after }
  unfolding ledger
  books = taken.entered

  after : After s (start s).mined (entries_of s u bs)
  after = entries_after s u h k bs (start s) (sound_start s u)

  -- the entries name the sheet's transactions
  pub entries_low : All (λ e. e.transaction < count s) (entries_of s u bs)
  entries_low = all_weaken (λ e w. w.low) after.each

  holder : (coin : ℕ) → holder_in s (position_of s u bs) coin ≡ ledger_holder (books_of s u bs).kept coin
  holder coin = position_holder s (position_of s u bs) taken.after taken.linked coin ∙ sym (ap (λ (b : Books). ledger_holder b.kept coin) books)

  pub agrees : Agrees s u bs
  agrees =
      record {
        accepts = ap (λ (b : Books). b.accepts) books;
        ordered = after.order;
        position = same_by s (holder_in s (position_of s u bs)) (books_of s u bs).kept holder;
        report = λ out e. same_by s (reported_holder s (reported_bytes s u bs out)) (books_of s u bs).kept (λ coin. answered_holder s u bs out e coin ∙ holder coin);
      }
