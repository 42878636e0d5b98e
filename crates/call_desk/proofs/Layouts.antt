-- The parts of a bundle that is laid out from its swaps are theirs.
-- Assumes nothing.
use Rattle.laws.proofs.Prelude.{ℕ, zero, suc, ◌+◌, ◌-◌, ◌*◌, ◌≤◌, ◌<◌, ◌≡◌, refl, ap, ◌∙◌, true, List, [], ◌∷◌, ◌++◌, append-nil, length, get_or, take, drop, length-append}
use Rattle.laws.proofs.Prelude.{eq-eqb, le-leb, arith, flat_map, take_all, All, empty, also, all_weaken, bytes_of, number_at, length_bytes, sum_below, sum_same}
use lib.Seq.{drop-append-add}
use Rattle.laws.specs.Little.{number_part}
use Rattle.laws.proofs.Little.{number_back}
use Rattle.call_desk.specs.Bundle.{swaps, setup_of, length_of, journals, start_of, journal_of, adds_up, bundle_right}
use Rattle.call_desk.specs.Desk.{swap_run, swap_bytes, desk_bytes}
use Rattle.call_desk.specs.Layout.{Swap, bundle_of, Fitting, answer_of}
use Rattle.call_desk.proofs.Flat.{flat_part, flat_sum, flat_width, gather_flat}

-- what stands past the end of a list of swaps
abbrev none : Swap
none = record { setup = []; journal = [] }

abbrev setups : Swap → List ℕ
setups x = x.setup

abbrev lengths : Swap → List ℕ
lengths x = bytes_of 4 (length x.journal)

abbrev rows : Swap → List ℕ
rows x = x.journal

four : (x : Swap) → length (lengths x) ≡ 4
four x = length_bytes 4 (length x.journal)

all_four : (l : List Swap) → All (λ x. length (lengths x) ≡ 4) l
all_four [] = empty
all_four (x ∷ l) = also (four x) (all_four l)

-- a swap of the list
at_place : (P : Swap → Type 0) (l : List Swap) (i : ℕ) → All P l → i < length l → P (get_or l i none)
at_place P [] i a h = absurd (omega arith)
at_place P (x ∷ l) zero (also p a) h = p
at_place P (x ∷ l) (suc i) (also p a) h = at_place P l i a (omega arith)

module _ (l : List Swap) (fits : All Fitting l) where
  abbrev b : List ℕ
  b = bundle_of l

  wide : All (λ x. length (setups x) ≡ 4) l
  wide = all_weaken (λ x h. h.setup_size) fits

  width : (f : Swap → List ℕ) → All (λ x. length (f x) ≡ 4) l → length (flat_map f l) ≡ 4 * length l
  width f a = rw (take_all (length l) l (omega arith)) at (flat_width f none 4 l (length l) a (omega arith))

  count : swaps b ≡ length l
  unfolding swaps bundle_of
  count = refl

  -- behind the count byte, behind the setups, behind the lengths
  after_count : (m : ℕ) → drop (1 + m) b ≡ drop m (flat_map setups l ++ (flat_map lengths l ++ flat_map rows l))
  unfolding bundle_of
  after_count m = let e : 1 + m ≡ suc m = omega arith in rw e

  after_setups : (m : ℕ) → drop (1 + 4 * length l + m) b ≡ drop m (flat_map lengths l ++ flat_map rows l)
  after_setups m =
      let e : 1 + 4 * length l + m ≡ 1 + (length (flat_map setups l) + m) = omega (arith, width setups wide) in
      rw e (after_count (length (flat_map setups l) + m) ∙ drop-append-add (flat_map setups l) (flat_map lengths l ++ flat_map rows l) m)

  after_lengths : (m : ℕ) → drop (1 + 8 * length l + m) b ≡ drop m (flat_map rows l)
  after_lengths m =
      let e : 1 + 8 * length l + m ≡ 1 + 4 * length l + (length (flat_map lengths l) + m) = omega (arith, width lengths (all_four l)) in
      rw e (after_setups (length (flat_map lengths l) + m) ∙ drop-append-add (flat_map lengths l) (flat_map rows l) m)

  whole : length b ≡ 1 + 8 * length l + length (flat_map rows l)
  unfolding bundle_of
  whole =
      omega (arith, length-append (flat_map setups l) (flat_map lengths l ++ flat_map rows l), length-append (flat_map lengths l) (flat_map rows l), width setups wide, width lengths (all_four l))

  module _ (i : ℕ) (h : i < length l) where
    setup_there : setup_of b i ≡ (get_or l i none).setup
    unfolding setup_of
    setup_there =
        let p = flat_part setups none l i (flat_map lengths l ++ flat_map rows l) h in
        let q = rw (at_place (λ x. length (setups x) ≡ 4) l i wide h, flat_width setups none 4 l i wide (omega arith)) at p in
        rw (after_count (4 * i)) q

    lengths_there : take 4 (drop (1 + 4 * length l + 4 * i) b) ≡ lengths (get_or l i none)
    lengths_there =
        let p = flat_part lengths none l i (flat_map rows l) h in
        let q = rw (four (get_or l i none), flat_width lengths none 4 l i (all_four l) (omega arith)) at p in
        rw (after_setups (4 * i)) q

    length_there : length_of b i ≡ length (get_or l i none).journal
    unfolding length_of
    length_there =
        rw count
        (number_part 4 b (1 + 4 * length l + 4 * i)
        ∙ ap (λ r. number_at 4 r 0) lengths_there
        ∙ number_back 4 (length (get_or l i none).journal) (at_place Fitting l i fits h).journal_size)

  sums : (i : ℕ) → i ≤ length l → sum_below i (length_of b) ≡ length (flat_map rows (take i l))
  sums i h =
      sum_same i (length_of b) (λ k. length (rows (get_or l k none))) (λ k m. length_there k (omega arith)) ∙ flat_sum rows none l i h

  journal_there : (i : ℕ) → i < length l → journal_of b i ≡ (get_or l i none).journal
  unfolding journal_of start_of journals
  journal_there i h =
      let p = flat_part rows none l i [] h in
      let q = rw (append-nil (flat_map rows l)) at p in
      rw (length_there i h, count, sums i (omega arith), after_lengths (length (flat_map rows (take i l)))) q

  adds : adds_up b ≡ true
  unfolding adds_up journals
  adds =
      let e = sums (length l) (omega arith) in
      let f = rw (take_all (length l) l (omega arith)) at e in
      rw count (eq-eqb (sum_below (length l) (length_of b)) (length b - (1 + 8 * length l)) (omega (arith, f, whole)))

  pub right : length l ≤ 64 → bundle_right b ≡ true
  unfolding bundle_right journals
  right h =
      rw (adds, le-leb 1 (length b) (omega (arith, whole)), le-leb (1 + 8 * swaps b) (length b) (omega (arith, whole, count)), le-leb (swaps b) 64 (omega (arith, count, h)))

  pub answers : (s : List ℕ) → desk_bytes s b ≡ flat_map (answer_of s) l
  unfolding desk_bytes swap_bytes swap_run answer_of
  answers s =
      rw count
      (gather_flat (answer_of s) none l (swap_bytes s b) (λ k h. rw (setup_there k h, journal_there k h)))
