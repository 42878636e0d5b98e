-- A setup whose check gives 0 has everything that the crates above want.
-- Assumes nothing.
use Rattle.laws.proofs.Prelude.{ℕ, ◌≤◌, ◌≡◌, refl, true, ◌&&◌, ◌||◌, List, eqb, leb, leb-true, ne_eqb, arith, and_parts, test_of, passed}
use Rattle.laws.specs.Same.{same_equal}
use Rattle.sheet.specs.Saswap.{saswap}
use Rattle.sheet.specs.Setup.{per_day, conduct, stealth, is_saswap, conduct_right, setup_tests, setup_refusal}
use Rattle.sheet.specs.Checked.{SetupChecked}
use Rattle.sheet.proofs.Passed.{setup_four, blocks_some, blocks_few}

test_passed : (s u : List ℕ) → setup_refusal s u ≡ 0 → (k : ℕ) → test_of k (setup_tests s u) ≡ true
unfolding setup_refusal setup_tests
test_passed s u h k = passed (setup_tests s u) refl h k

conduct_parts : (s u : List ℕ) → conduct_right s u ≡ true
    → (conduct u ≤ 2) × (stealth u ≤ 1) × ((eqb (conduct u) 0 || is_saswap s (per_day u)) ≡ true)
unfolding conduct_right
conduct_parts s u h =
    let a = and_parts (leb (conduct u) 2) (leb (stealth u) 1 && (eqb (conduct u) 0 || is_saswap s (per_day u))) h in
    let b = and_parts (leb (stealth u) 1) (eqb (conduct u) 0 || is_saswap s (per_day u)) a.1 in
    (leb-true (conduct u) 2 a.0, leb-true (stealth u) 1 b.0, b.1)

sheet_fits : (s u : List ℕ) → (eqb (conduct u) 0 || is_saswap s (per_day u)) ≡ true → 1 ≤ conduct u → s ≡ saswap (per_day u)
unfolding is_saswap
sheet_fits s u h l = same_equal s (saswap (per_day u)) (rw (ne_eqb (conduct u) 0 (λ e. omega (arith, e))) at h)

pub passed_setup : (s u : List ℕ) → setup_refusal s u ≡ 0 → SetupChecked s u
unfolding setup_tests
passed_setup s u h =
    let test = test_passed s u h in
    let w = conduct_parts s u (test 10) in
    record {
      size = setup_four u (test 9);
      blocks_some = blocks_some u (test 9);
      blocks_few = blocks_few u (test 9);
      conduct_known = w.0;
      stealth_flag = w.1;
      sheet_fits = sheet_fits s u w.2;
    }
