-- Where a limit is broken, the claim is false of a transaction that breaks it.
-- Assumes nothing.
use Rattle.laws.proofs.Prelude.{ℕ, ◌+◌, ◌-◌, ◌%◌, ◌≤◌, ◌<◌, ◌≡◌, refl, sym, ◌∙◌, true, false, List, ◌⊎◌, inl, inr, eqb, leb, lit<, eqb-true, eqb-false, ltb-false}
use Rattle.laws.proofs.Prelude.{leb-false, le-leb, lt-leb, arith, mul-le-mul, true≢false, all_below, split, either, first_failing}
use Rattle.laws.specs.Below.{all_fails}
use Rattle.sheet.specs.Field.{count, lock_type, days}
use Rattle.sheet.specs.LockHeight.{lock_blocks, lock_height}
use Rattle.sheet.specs.Check.{sheet_refusal}
use Rattle.sheet.specs.Setup.{per_day, blocks_right, parties_right, conduct_right, setup_tests, setup_refusal}
use Rattle.sheet.specs.Checked.{LockPair, none, absolute, since, Fit}
use Rattle.sheet.proofs.Theorems.{fit, sheet_refusal_below}
use Rattle.call_timelocks.specs.Bitcoin.{admitted}
use Rattle.call_timelocks.specs.Fields.{n_lock_time, n_sequence}
use Rattle.call_timelocks.specs.Limits.{relative_right, absolute_right, limit_tests}
use Rattle.call_timelocks.specs.Timelocks.{field_refusal}
use Rattle.call_timelocks.specs.Claim.{fields_of, real, SameLock}
use Rattle.call_timelocks.proofs.Answers.{by_sheet, by_setup, by_limits}
use Rattle.call_timelocks.proofs.Admitted.{time_admitted, cut_admitted}
use Rattle.call_timelocks.proofs.SameLocks.{fields_absolute, fields_since, height_absolute, height_since}

-- 255 days of 1,000 blocks at most
blocks_small : (s : List ℕ) (d t : ℕ) → days s t ≤ 255 → d ≤ 1000 → lock_blocks s d t ≤ 255000
unfolding lock_blocks
blocks_small s d t h k = mul-le-mul {n₁ = days s t} {m₁ = d} {n₂ = 255} {m₂ = 1000} h k

blocks_some : (s : List ℕ) (d t : ℕ) → 1 ≤ days s t → 1 ≤ d → 1 ≤ lock_blocks s d t
unfolding lock_blocks
blocks_some s d t h k = mul-le-mul {n₁ = 1} {m₁ = 1} {n₂ = days s t} {m₂ = d} h k

module _ (s u : List ℕ) (base : ℕ) (big : 26 ≤ field_refusal s u base) (small : field_refusal s u base ≤ 27) where
  -- the setup's numbers are 9, 10 and 32
  setup_below : (setup_refusal s u < 11) ⊎ (setup_refusal s u ≡ 32)
  unfolding setup_refusal setup_tests first_failing
  setup_below =
      split (blocks_right u)
      (λ a.
      split (parties_right s u)
      (λ b. split (conduct_right s u) (λ c. rw (a, b, c) (inl (lit< tt))) (λ c. rw (a, b, c) (inl (lit< tt))))
      (λ b. rw (a, b) (inr refl)))
      (λ a. rw a (inl (lit< tt)))

  sheet_zero : sheet_refusal s ≡ 0
  sheet_zero =
      split (eqb (sheet_refusal s) 0)
      (λ e. eqb-true (sheet_refusal s) 0 e)
      (λ e. absurd (omega (arith, by_sheet s u base (sheet_refusal s) refl (eqb-false (sheet_refusal s) 0 e), sheet_refusal_below s)))

  setup_zero : setup_refusal s u ≡ 0
  setup_zero =
      split (eqb (setup_refusal s u) 0)
      (λ e. eqb-true (setup_refusal s u) 0 e)
      (λ e.
      let q = by_setup s u base (sheet_refusal s) (setup_refusal s u) refl sheet_zero refl (eqb-false (setup_refusal s u) 0 e) in
      absurd (either setup_below (λ l. omega (arith, q, l)) (λ l. omega (arith, q, l))))

  by_limit : first_failing (limit_tests s (per_day u) base) ≡ field_refusal s u base
  by_limit = by_limits s u base (sheet_refusal s) (setup_refusal s u) (per_day u) _ refl sheet_zero refl setup_zero refl refl

  limit_fit : Fit s u
  limit_fit = fit s u sheet_zero setup_zero

-- one of the two limits is broken for all transactions together
relative_broken : (s : List ℕ) (d base : ℕ) → first_failing (limit_tests s d base) ≡ 26 → all_below (count s) (relative_right s d) ≡ false
unfolding first_failing limit_tests
relative_broken s d base h =
    split (all_below (count s) (relative_right s d))
    (λ y.
    split (all_below (count s) (absolute_right s d base))
    (λ z. let e : ◌≡◌ {A = ℕ} 0 26 = rw (y, z) at h in absurd (omega arith))
    (λ z. let e : ◌≡◌ {A = ℕ} 27 26 = rw (y, z) at h in absurd (omega arith)))
    (λ y. y)

absolute_broken : (s : List ℕ) (d base : ℕ) → first_failing (limit_tests s d base) ≡ 27 → all_below (count s) (absolute_right s d base) ≡ false
unfolding first_failing limit_tests
absolute_broken s d base h =
    split (all_below (count s) (absolute_right s d base))
    (λ z.
    split (all_below (count s) (relative_right s d))
    (λ y. let e : ◌≡◌ {A = ℕ} 0 27 = rw (y, z) at h in absurd (omega arith))
    (λ y. let e : ◌≡◌ {A = ℕ} 26 27 = rw y at h in absurd (omega arith)))
    (λ z. z)

module _ (s : List ℕ) (d base t : ℕ) where
  days_few : LockPair s t → days s t ≤ 255
  days_few (none e z) = omega arith
  days_few (absolute e l m) = m
  days_few (since e l m c) = m

  days_some : LockPair s t → lock_type s t ≡ 1 → 1 ≤ days s t
  days_some (none e z) f = absurd (omega arith)
  days_some (absolute e l m) f = l
  days_some (since e l m c) f = l

  relative_over : relative_right s d t ≡ false → (lock_type s t ≡ 2) × (65535 < lock_blocks s d t + 1)
  unfolding relative_right n_sequence
  relative_over r =
      split (eqb (lock_type s t) 2)
      (λ y. let e = eqb-true (lock_type s t) 2 y in (e, leb-false (lock_blocks s d t + 1) 65535 (rw e at r)))
      (λ y. absurd (true≢false (rw y at r)))

  absolute_over : absolute_right s d base t ≡ false → (lock_type s t ≡ 1) × (500000000 ≤ base + lock_blocks s d t)
  unfolding absolute_right n_lock_time
  absolute_over r =
      split (eqb (lock_type s t) 1)
      (λ y. let e = eqb-true (lock_type s t) 1 y in (e, ltb-false (base + lock_blocks s d t) 500000000 (rw e at r)))
      (λ y. absurd (true≢false (rw y at r)))

  -- the low 16 bits of the value are less than it: in the block that they name the child is admitted too early
  pub relative_false : LockPair s t → d ≤ 1000 → relative_right s d t ≡ false → SameLock s d base t (fields_of s d base t) → ⊥
  relative_false x k r h =
      let w = relative_over r in
      let v = lock_blocks s d t in
      let m = (v + 1) % 65536 in
      let few : v ≤ 255000 = blocks_small s d t (days_few x) k in
      let early : admitted (fields_of s d base t) (real base 1 0) (real base (1 + m) 0) ≡ true =
      rw (fields_since s d base t w.0, cut_admitted (real base 1 0) (real base (1 + m) 0) (v + 1) (omega arith))
      (le-leb (base + 1 + m) (base + (1 + m)) (omega arith)) in
      let late : leb (lock_height s d (λ j. 1) t) (1 + m - 1) ≡ false =
      rw (height_since s d base t w.0 (λ j. 1) 1 (omega arith) refl) (lt-leb (1 + v) (1 + m - 1) (omega (arith, w.1))) in
      true≢false (sym early ∙ h.admits (λ j. 1) 1 (1 + m) 0 0 (omega arith) (omega arith) (λ o. refl) ∙ late)

  -- as a time the number is passed in block 1, at a later time
  pub absolute_false : LockPair s t → 1 ≤ d → absolute_right s d base t ≡ false → SameLock s d base t (fields_of s d base t) → ⊥
  absolute_false x k r h =
      let w = absolute_over r in
      let v = lock_blocks s d t in
      let l = base + v in
      let some : 1 ≤ v = blocks_some s d t (days_some x w.0) k in
      let early : admitted (fields_of s d base t) (real base 1 0) (real base 1 (l + 1)) ≡ true =
      rw (fields_absolute s d base t w.0) (time_admitted (real base 1 0) (real base 1 (l + 1)) l w.1 (omega arith)) in
      let late : leb (lock_height s d (λ j. 1) t) (1 - 1) ≡ false =
      rw (height_absolute s d base t w.0 (λ j. 1)) (lt-leb v (1 - 1) (omega arith)) in
      true≢false (sym early ∙ h.admits (λ j. 1) 1 1 0 (l + 1) (omega arith) (omega arith) (λ o. refl) ∙ late)

module _ (s u : List ℕ) (base : ℕ) where
  pub relative_tight : field_refusal s u base ≡ 26 → (t : ℕ) × (t < count s)
      × (SameLock s (per_day u) base t (fields_of s (per_day u) base t) → ⊥)
  relative_tight h =
      let big : 26 ≤ field_refusal s u base = omega arith in
      let small : field_refusal s u base ≤ 27 = omega arith in
      let f = limit_fit s u base big small in
      let w = all_fails (count s) (relative_right s (per_day u)) (relative_broken s (per_day u) base (by_limit s u base big small ∙ h)) in
      (w.0, w.1, relative_false s (per_day u) base w.0 (f.checked.entries w.0 w.1).lock_pair_lem f.setup.blocks_few w.2)

  pub absolute_tight : field_refusal s u base ≡ 27 → (t : ℕ) × (t < count s)
      × (SameLock s (per_day u) base t (fields_of s (per_day u) base t) → ⊥)
  absolute_tight h =
      let big : 26 ≤ field_refusal s u base = omega arith in
      let small : field_refusal s u base ≤ 27 = omega arith in
      let f = limit_fit s u base big small in
      let w = all_fails (count s) (absolute_right s (per_day u) base) (absolute_broken s (per_day u) base (by_limit s u base big small ∙ h)) in
      (w.0, w.1, absolute_false s (per_day u) base w.0 (f.checked.entries w.0 w.1).lock_pair_lem f.setup.blocks_some w.2)
