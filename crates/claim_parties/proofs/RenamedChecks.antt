-- A sheet of three that passes the check passes it with its parties renamed.
-- Assumes nothing.
use Rattle.laws.proofs.Prelude.{ℕ, ◌+◌, ◌*◌, ◌^◌, ◌<◌, ◌≡◌, ◌∙◌, List, length, arith, length_rewrite_first, bit, set_small}
use Rattle.position.proofs.Rules.{accepted, parties, arrays, place, party_at, count, signatures, start_mask, payees, sheet_refusal}
use Rattle.sheet.proofs.PassedSheet.{passed_sheet}
use Rattle.claim_parties.specs.Renaming.{Renaming, renamed_payees, renamed_byte, renamed_sheet}
use Rattle.claim_parties.proofs.SameChecks.{passes_too}
use Rattle.claim_parties.proofs.RenamedSheets.{long, parties_kept, transactions_kept, payees_at, mask_at, party_back, contract_renamed}

module _ (ρ : Renaming) (s : List ℕ) (three : parties s ≡ 3) (h : sheet_refusal s ≡ accepted) where
  length_kept : length (renamed_sheet ρ s) ≡ length s
  unfolding renamed_sheet
  length_kept = length_rewrite_first (length s) (renamed_byte ρ s) s

  long_kept : length (renamed_sheet ρ s) ≡ arrays (renamed_sheet ρ s) + 6 * count s
  unfolding arrays
  long_kept = rw (parties_kept ρ s three h) (length_kept ∙ long ρ s three h)

  mask_within : (k : ℕ) → k < parties (renamed_sheet ρ s) → start_mask (renamed_sheet ρ s) k < 2 ^ signatures s
  mask_within k l =
      let b : k < 3 = rw (parties_kept ρ s three h) at l in
      rw (mask_at ρ s three h k b) ((passed_sheet s h).keys_within (ρ.from (party_at k)) (party_back ρ s three h k b))

  payees_within : (t : ℕ) → t < count s → payees (renamed_sheet ρ s) t < 2 ^ parties (renamed_sheet ρ s)
  unfolding renamed_payees
  payees_within t l =
      rw (payees_at ρ s three h t l, parties_kept ρ s three h) (set_small 3 3 (λ k. bit (payees s t) (place (ρ.from (party_at k)))) (omega arith))

  pub passes_renamed : sheet_refusal (renamed_sheet ρ s) ≡ accepted
  passes_renamed =
      passes_too s (renamed_sheet ρ s) (transactions_kept ρ s three h) h long_kept mask_within payees_within (contract_renamed ρ s three h)
