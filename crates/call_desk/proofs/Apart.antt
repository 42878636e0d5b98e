-- Two bundles that differ in one swap's setup and journal alone.
-- Assumes nothing.
use Rattle.laws.proofs.Prelude.{ℕ, ◌+◌, ◌*◌, ◌/◌, ◌%◌, ◌≤◌, ◌<◌, ◌≡◌, refl, sym, ap, ◌∙◌, List, ◌⊎◌, inl, inr, eqb, ltb, leb, length, get_or, take, drop, length-drop}
use Rattle.laws.proofs.Prelude.{eqb-true, eqb-false, ltb-true, ltb-false, leb-true, leb-false, arith, length-take, split, either, first_failing, over, sum_same}
use Rattle.position.proofs.Rules.{byte}
use lib.Seq.{get_or-take, get_or-drop, ext_get_or}
use Rattle.laws.specs.Little.{number_same}
use Rattle.laws.specs.Over.{over_behind}
use Rattle.call_desk.specs.Bundle.{swaps, setup_of, length_of, journals, start_of, journal_of, adds_up, bundle_right}
use Rattle.call_desk.specs.Desk.{swap_run, swap_bytes, desk_bytes, desk_tests, desk_answer}
use Rattle.call_desk.specs.Claim.{Beside, SwapApart}
use Rattle.call_desk.proofs.Bundles.{sum_room}
use Rattle.call_desk.proofs.Desks.{desk_length, desk_refused, desk_short, desk_whole}
use Rattle.call_desk.proofs.Entries.{entry_byte}

-- a number that is not i is on one side of it
sides : (k i : ℕ) → (k ≡ i → ⊥) → (k < i) ⊎ (i < k)
sides k i n =
    split (ltb k i)
    (λ e. inl (ltb-true k i e))
    (λ e. split (ltb i k) (λ f. inr (ltb-true i k f)) (λ f. absurd (n (omega (arith, ltb-false k i e, ltb-false i k f)))))

-- two lists of one length with the same n bytes from a on have the same part there
part_same : (l m : List ℕ) (a n : ℕ) → length l ≡ length m → ((j : ℕ) → j < n → get_or l (a + j) 0 ≡ get_or m (a + j) 0) → take n (drop a l) ≡ take n (drop a m)
part_same l m a n e h =
    ext_get_or 0 (take n (drop a l)) (take n (drop a m))
    (length-take n (drop a l) ∙ rw (length-drop a l, e, ← (length-drop a m)) (sym (length-take n (drop a m))))
    (λ j d.
    let s : j < n = omega (arith, d, length-take n (drop a l)) in
    get_or-take n (drop a l) j 0 s ∙ get_or-drop a l j 0 ∙ h j s ∙ sym (get_or-drop a m j 0) ∙ sym (get_or-take n (drop a m) j 0 s))

-- journals start behind the arrays, and each behind those before it
module _ (b : List ℕ) where
  behind_arrays : (k : ℕ) → 1 + 8 * swaps b ≤ start_of b k
  unfolding start_of journals
  behind_arrays k = omega arith

  behind : (k i : ℕ) → k < i → start_of b k + length_of b k ≤ start_of b i
  unfolding start_of
  behind k i h = omega (arith, sum_room i k (length_of b) h)

module _ (b c : List ℕ) (i : ℕ) (h : i < swaps b) (a : SwapApart b c i) where
  -- a byte of the arrays that is not of setup i
  in_arrays : (p : ℕ) → Beside (1 + 4 * i) 4 p → p < 1 + 8 * swaps b → byte c p ≡ byte b p
  in_arrays p f g = a.others p f (inl (omega (arith, g, behind_arrays b i)))

  swaps_same : swaps c ≡ swaps b
  unfolding swaps
  swaps_same = in_arrays 0 (inl (omega arith)) (omega arith)

  length_same : (k : ℕ) → k < swaps b → length_of c k ≡ length_of b k
  unfolding length_of
  length_same k l =
      rw swaps_same
      (number_same 4 c b (1 + 4 * swaps b + 4 * k) (1 + 4 * swaps b + 4 * k) (λ j d. in_arrays (1 + 4 * swaps b + 4 * k + j) (inr (omega arith)) (omega arith)))

  start_same : (k : ℕ) → k ≤ swaps b → start_of c k ≡ start_of b k
  unfolding start_of journals
  start_same k l = rw (swaps_same, sum_same k (length_of c) (length_of b) (λ j d. length_same j (omega arith)))

  right_same : bundle_right c ≡ bundle_right b
  unfolding bundle_right adds_up journals
  right_same = rw (swaps_same, a.long, sum_same (swaps b) (length_of c) (length_of b) length_same)

  -- the parts of another swap
  setup_same : (k : ℕ) → k < swaps b → (k ≡ i → ⊥) → setup_of c k ≡ setup_of b k
  unfolding setup_of
  setup_same k l n =
      part_same c b (1 + 4 * k) 4 a.long
      (λ j d. in_arrays (1 + 4 * k + j) (either (sides k i n) (λ m. inl (omega arith)) (λ m. inr (omega arith))) (omega arith))

  journal_same : (k : ℕ) → k < swaps b → (k ≡ i → ⊥) → journal_of c k ≡ journal_of b k
  unfolding journal_of
  journal_same k l n =
      rw (length_same k l, start_same k (omega arith))
      (part_same c b (start_of b k) (length_of b k) a.long
      (λ j d.
      a.others (start_of b k + j) (inr (omega (arith, behind_arrays b k)))
      (either (sides k i n) (λ m. inl (omega (arith, behind b k i m))) (λ m. inr (omega (arith, behind b i k m))))))

  bytes_same : (s : List ℕ) (k : ℕ) → k < swaps b → (k ≡ i → ⊥) → swap_bytes s c k ≡ swap_bytes s b k
  unfolding swap_bytes swap_run
  bytes_same s k l n = rw (setup_same k l n, journal_same k l n)

  -- the call's own tests
  tests_same : (s : List ℕ) → first_failing (desk_tests s c) ≡ first_failing (desk_tests s b)
  unfolding desk_tests
  tests_same s = rw right_same

  -- a byte beside entry i, where both calls answer 0
  beside_entry : (s out : List ℕ) → 8 * swaps b ≤ length out → (p : ℕ) → Beside (8 * i) 8 p
      → byte (over (desk_bytes s c) out) p ≡ byte (over (desk_bytes s b) out) p
  beside_entry s out l p d =
      split (ltb p (8 * swaps b))
      (λ e.
      let m = ltb-true p (8 * swaps b) e in
      let k : p / 8 < swaps b = omega (arith, m) in
      let q : p ≡ 8 * (p / 8) + p % 8 = omega arith in
      let n : p / 8 ≡ i → ⊥ = λ z. either d (λ x. omega (arith, z, x)) (λ x. omega (arith, z, x)) in
      ap (byte (over (desk_bytes s c) out)) q
      ∙ entry_byte s c out (rw swaps_same l) (p / 8) (p % 8) (rw swaps_same k) (omega arith)
      ∙ ap (λ w. get_or w (p % 8) 0) (bytes_same s (p / 8) k n)
      ∙ sym (entry_byte s b out l (p / 8) (p % 8) k (omega arith))
      ∙ ap (byte (over (desk_bytes s b) out)) (sym q))
      (λ e.
      let m = ltb-false p (8 * swaps b) e in
      over_behind (desk_bytes s c) out p 0 (omega (arith, desk_length s c, swaps_same, m))
      ∙ sym (over_behind (desk_bytes s b) out p 0 (omega (arith, desk_length s b, m))))

  -- in every case
  pub others_kept : (s out : List ℕ) → ((desk_answer s c out).refusal ≡ (desk_answer s b out).refusal)
      × ((p : ℕ) → Beside (8 * i) 8 p → byte (desk_answer s c out).buffer p ≡ byte (desk_answer s b out).buffer p)
  others_kept s out =
      let n = first_failing (desk_tests s b) in
      let o = sym (tests_same s) in
      split (eqb n 0)
      (λ e.
      let z = eqb-true n 0 e in
      split (leb (8 * swaps b) (length out))
      (λ f.
      let l = leb-true (8 * swaps b) (length out) f in
      rw (desk_whole s c out n o z (rw swaps_same l), desk_whole s b out n refl z l) (refl, beside_entry s out l))
      (λ f.
      let l = leb-false (8 * swaps b) (length out) f in
      rw (desk_short s c out n o z (rw swaps_same l), desk_short s b out n refl z l) (refl, λ p d. refl)))
      (λ e.
      let z = eqb-false n 0 e in
      rw (desk_refused s c out n o z, desk_refused s b out n refl z) (refl, λ p d. refl))
