-- A sheet of two that passes the check passes it with Carol put in.
-- Assumes nothing.
use Rattle.laws.proofs.Prelude.{ℕ, zero, suc, ◌+◌, ◌-◌, ◌*◌, ◌^◌, ◌<◌, ◌≡◌, List, length, length-drop, arith}
use Rattle.position.proofs.Rules.{accepted, byte, parties, arrays, party_at, count, signatures, start_mask, start_keys, payees, sheet_refusal, is_contract}
use lib.Pow.{pow_pos}
use Rattle.sheet.proofs.Parties.{place_at, party_at_lem}
use Rattle.sheet.proofs.PassedSheet.{passed_sheet}
use Rattle.claim_parties.specs.Claim.{with_carol}
use Rattle.claim_parties.proofs.Fields.{two_parties, three_parties, alike}
use Rattle.claim_parties.proofs.SameChecks.{passes_too}

module _ (s : List ℕ) (two : byte s 0 < 128) (h : sheet_refusal s ≡ accepted) where
  length_carol : length (with_carol s) ≡ 6 + (length s - 5)
  unfolding with_carol
  length_carol = rw (length-drop 5 s) (omega arith)

  long : length (with_carol s) ≡ arrays (with_carol s) + 6 * count s
  unfolding arrays
  long = rw (three_parties s two) (omega (arith, length_carol, rw (two_parties s two) at (passed_sheet s h).sized.size))

  mask_of_two : (k : ℕ) → k < 2 → start_mask s k < 2 ^ signatures s
  unfolding start_keys
  mask_of_two k l =
      let g = party_at_lem s k (rw (two_parties s two) l) in
      rw (g, place_at k) at ((passed_sheet s h).keys_within (party_at k) g)

  -- Carol's mask is 0
  mask_within : (k : ℕ) → k < 3 → start_mask (with_carol s) k < 2 ^ signatures s
  unfolding with_carol
  mask_within zero l = mask_of_two 0 (omega arith)
  mask_within (suc zero) l = mask_of_two 1 (omega arith)
  mask_within (suc (suc zero)) l = pow_pos (signatures s)
  mask_within (suc (suc (suc k))) l = absurd (omega arith)

  -- payees of two parties are payees of three
  payees_within : (t : ℕ) → t < count s → payees (with_carol s) t < 2 ^ parties (with_carol s)
  payees_within t l =
      let few : payees s t < 2 ^ 2 = rw (two_parties s two) at ((passed_sheet s h).entries t l).payees_few in
      rw (three_parties s two, (alike s two).entries) (omega (arith, few))

  contracts : (t : ℕ) → t < count s → is_contract (with_carol s) t ≡ is_contract s t
  unfolding is_contract
  contracts t l = rw (alike s two).entries

  pub passes_with : sheet_refusal (with_carol s) ≡ accepted
  passes_with = passes_too s (with_carol s) (alike s two).transactions h long (λ k l. mask_within k (rw (three_parties s two) at l)) payees_within contracts
