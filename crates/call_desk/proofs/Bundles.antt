-- Where the parts of a bundle stand, and the two ways out of its check.
-- Assumes nothing.
use Rattle.laws.proofs.Prelude.{ℕ, zero, suc, ◌+◌, ◌-◌, ◌*◌, ◌≤◌, ◌<◌, ◌≡◌, refl, true, false, ◌&&◌, List, eqb, leb, length, eqb-true, leb-true, le-leb, lt-leb, arith}
use Rattle.laws.proofs.Prelude.{not-suc-le-zero, le_of_suc-le-suc, eq-or-lt_of_le, either, and_parts, sum_below}
use Rattle.call_desk.specs.Bundle.{swaps, length_of, journals, start_of, adds_up, bundle_right}
use Rattle.call_desk.specs.Forms.Bundle.{Arrays, Stands}

-- a term and those before it are no more than all
pub sum_room : (n k : ℕ) (f : ℕ → ℕ) → k < n → sum_below k f + f k ≤ sum_below n f
unfolding sum_below
sum_room zero k f h = absurd (not-suc-le-zero h)
sum_room (suc n) k f h =
    either (eq-or-lt_of_le (le_of_suc-le-suc h)) (λ e. rw e (omega arith)) (λ l. omega (arith, sum_room n k f l))

module _ (b : List ℕ) where
  -- the three arrays' ends
  pub journals_are : journals b ≡ 1 + 8 * swaps b
  unfolding journals
  journals_are = refl

  pub arrays_some : Arrays b → 1 ≤ length b
  arrays_some a = omega (arith, a.room, journals_are)

  pub lengths_end : Arrays b → (i n : ℕ) → n ≡ swaps b → i < swaps b → 1 + 4 * n + 4 * i + 4 ≤ length b
  lengths_end a i n e h = omega (arith, a.room, journals_are, h, e)

  -- what the check gives
  module _ (h : bundle_right b ≡ true) where
    parts : (leb (journals b) (length b) ≡ true) × ((leb (swaps b) 64 ≡ true) × (adds_up b ≡ true))
    unfolding bundle_right
    parts =
        let v = and_parts (leb 1 (length b)) (leb (journals b) (length b) && (leb (swaps b) 64 && adds_up b)) h in
        let w = and_parts (leb (journals b) (length b)) (leb (swaps b) 64 && adds_up b) v.1 in
        (w.0, and_parts (leb (swaps b) 64) (adds_up b) w.1)

    pub arrays : Arrays b
    arrays = record { few = leb-true (swaps b) 64 parts.1.0; room = leb-true (journals b) (length b) parts.0 }

    adds : sum_below (swaps b) (length_of b) ≡ length b - journals b
    unfolding adds_up
    adds = eqb-true (sum_below (swaps b) (length_of b)) (length b - journals b) parts.1.1

    -- the bundle ends where its last journal does
    pub whole : start_of b (swaps b) ≡ length b
    unfolding start_of
    whole = omega (arith, adds, arrays.room)

    pub stands : (i start size : ℕ) → i < swaps b → start ≡ start_of b i → size ≡ length_of b i → Stands b i start size
    unfolding start_of
    stands i start size l e f =
        record {
          start_is = e;
          size_is = f;
          setup_ends = omega (arith, arrays.room, journals_are, l);
          journal_ends = omega (arith, e, f, whole, sum_room (swaps b) i (length_of b) l);
        }

  -- the start of the first journal, and of each after its neighbour
  pub start_first : (x : ℕ) → x ≡ swaps b → 1 + 8 * x ≡ start_of b 0
  unfolding start_of journals sum_below
  start_first x e = omega (arith, e)

  pub start_next : (i x y : ℕ) → x ≡ start_of b i → y ≡ length_of b i → x + y ≡ start_of b (i + 1)
  unfolding start_of sum_below
  start_next i x y e f = let z : i + 1 ≡ suc i = omega arith in rw z (omega (arith, e, f))

  -- the returns of the check, where n is the number of swaps and x the sum of the lengths that the code found
  pub right_empty : length b < 1 → false ≡ bundle_right b
  unfolding bundle_right
  right_empty h = rw (lt-leb 1 (length b) h)

  module _ (n : ℕ) (e : n ≡ swaps b) (some : 1 ≤ length b) where
    pub right_short : length b < 1 + 8 * n → false ≡ bundle_right b
    unfolding bundle_right
    right_short h = rw (le-leb 1 (length b) some, lt-leb (journals b) (length b) (omega (arith, journals_are, e, h)))

    pub right_many : 1 + 8 * n ≤ length b → 64 < n → false ≡ bundle_right b
    unfolding bundle_right
    right_many h k =
        rw (le-leb 1 (length b) some, le-leb (journals b) (length b) (omega (arith, journals_are, e, h)), lt-leb (swaps b) 64 (omega (arith, e, k)))

    pub right_arrays : 1 + 8 * n ≤ length b → n ≤ 64 → Arrays b
    right_arrays h k = record { few = omega (arith, e, k); room = omega (arith, journals_are, e, h) }

    pub right_sum : (x : ℕ) → 1 + 8 * n ≤ length b → n ≤ 64 → x ≡ sum_below (swaps b) (length_of b) → eqb x (length b - (1 + 8 * n)) ≡ bundle_right b
    unfolding bundle_right adds_up
    right_sum x h k f =
        let j : 1 + 8 * n ≡ journals b = omega (arith, journals_are, e) in
        let a = right_arrays h k in
        rw (le-leb 1 (length b) some, le-leb (journals b) (length b) a.room, le-leb (swaps b) 64 a.few, f, j)
