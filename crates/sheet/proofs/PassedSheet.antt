-- A sheet whose check gives 0 has everything that the crates above want.
-- Assumes nothing.
use Rattle.laws.proofs.Prelude.{ℕ, ◌^◌, ◌<◌, ◌≡◌, refl, true, List, and_parts, all_below, all_at, test_of, passed}
use Rattle.sheet.specs.Field.{parties, place, is_party, count, secrets, signatures, start_mask, start_keys}
use Rattle.sheet.specs.Check.{within, masks_right, parent_right, entry_right, lock_right, children_right, array_tests, sheet_tests, sheet_refusal}
use Rattle.sheet.specs.Checked.{Checked}
use Rattle.sheet.proofs.Parties.{place_below}
use Rattle.sheet.proofs.Passed.{count_some, signatures_some, signatures_few, masks_right_lem, sized}
use Rattle.sheet.proofs.PassedEntry.{mask_within, passed_entry}

-- the check with number k passed
test_passed : (s : List ℕ) → sheet_refusal s ≡ 0 → (k : ℕ) → test_of k (sheet_tests s) ≡ true
unfolding sheet_refusal sheet_tests array_tests
test_passed s h k = passed (sheet_tests s) refl h k

masks : (s : List ℕ) → masks_right s ≡ true → (within s (secrets s) ≡ true) × (all_below (parties s) (λ k. within s (start_mask s k)) ≡ true)
unfolding masks_right
masks s h = and_parts (within s (secrets s)) (all_below (parties s) (λ k. within s (start_mask s k))) h

keys_within : (s : List ℕ) → all_below (parties s) (λ k. within s (start_mask s k)) ≡ true → (p : ℕ) → is_party s p ≡ true → start_keys s p < 2 ^ signatures s
unfolding start_keys
keys_within s h p e =
    rw e (mask_within s (start_mask s (place p)) (all_at (parties s) (λ k. within s (start_mask s k)) h (place p) (place_below s p e)))

pub passed_sheet : (s : List ℕ) → sheet_refusal s ≡ 0 → Checked s
unfolding sheet_tests array_tests
passed_sheet s h =
    let test = test_passed s h in
    let m = masks s (masks_right_lem s (test 3)) in
    record {
      sized = sized s (test 2) (test 4);
      some = count_some s (test 2);
      signatures_some = signatures_some s (test 3);
      signatures_few = signatures_few s (test 3);
      secrets_within = mask_within s (secrets s) m.0;
      keys_within = keys_within s m.1;
      entries = λ t l.
          passed_entry s t
          (all_at (count s) (parent_right s) (test 5) t l)
          (all_at (count s) (entry_right s) (test 6) t l)
          (all_at (count s) (lock_right s) (test 7) t l)
          (all_at (count s) (children_right s) (test 8) t l);
    }
