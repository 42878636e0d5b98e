-- Computed examples: the parts of a bundle, the answers of a desk with its refusals on both sides, and the words of the claims.
-- Assumes nothing.
use Rattle.laws.proofs.Prelude.{ℕ, zero, suc, ◌+◌, ◌*◌, ◌≤◌, ◌<◌, ◌≡◌, refl, ap, true, false, List, [], ◌∷◌, ◌++◌, ◌⊎◌, inl, inr, length, get_or, replicate, set}
use Rattle.laws.proofs.Prelude.{length-set, arith, get_or-set_other, either, sum_below}
use Rattle.position.proofs.Rules.{accepted, buffer_short}
use Rattle.sheet.specs.Refusal.{sheet_length, bundle_layout}
use Rattle.position.proofs.Opened.{opened}
use Rattle.call_desk.specs.Bundle.{swaps, setup_of, length_of, journals, start_of, journal_of, adds_up, bundle_right}
use Rattle.call_desk.specs.Desk.{swap_run, entry_bytes, swap_bytes, desk_bytes, desk_tests, desk_answer}
use Rattle.call_desk.specs.Claim.{number_of, count_of, SwapApart, Reordered}
use Rattle.call_desk.specs.Layout.{bundle_of, Fitting}

-- every definition of this crate that a computed proof opens
desks : Unit {0}
unfolding opened sum_below swaps setup_of length_of journals start_of journal_of adds_up bundle_right swap_run entry_bytes swap_bytes desk_bytes desk_tests desk_answer
desks = tt

-- the sheet of P10, 1 block per day, and the send of its opening
abbrev p10 : List ℕ
p10 = 2 ∷ 2 ∷ 0 ∷ 1 ∷ 2 ∷ 255 ∷ 0 ∷ 1 ∷ 0 ∷ 0 ∷ 2 ∷ 2 ∷ 0 ∷ 0 ∷ 0 ∷ 1 ∷ 1 ∷ []

abbrev send : List ℕ
send = 3 ∷ 0 ∷ 0 ∷ 2 ∷ []

-- three swaps: one without blocks per day, one whose second step is refused, one accepted
abbrev three : List ℕ
three =
    3
    ∷ 0 ∷ 0 ∷ 0 ∷ 0
    ∷ 1 ∷ 0 ∷ 0 ∷ 0
    ∷ 1 ∷ 0 ∷ 0 ∷ 0
    ∷ 4 ∷ 0 ∷ 0 ∷ 0
    ∷ 8 ∷ 0 ∷ 0 ∷ 0
    ∷ 4 ∷ 0 ∷ 0 ∷ 0
    ∷ (send ++ (send ++ (send ++ send)))

-- their parts
counted : swaps three ≡ 3
unfolding desks
counted = refl

second_setup : setup_of three 1 ≡ 1 ∷ 0 ∷ 0 ∷ 0 ∷ []
unfolding desks
second_setup = refl

second_length : length_of three 1 ≡ 8
unfolding desks
second_length = refl

starts : (start_of three 0 ≡ 25) × (start_of three 1 ≡ 29) × (start_of three 2 ≡ 37)
unfolding desks
starts = (refl, refl, refl)

second_journal : journal_of three 1 ≡ send ++ send
unfolding desks
second_journal = refl

-- a length of four bytes is a number: 4,294,967,292 and 8 do not add up to 4 bytes
too_long : bundle_right (2 ∷ 1 ∷ 0 ∷ 0 ∷ 0 ∷ 1 ∷ 0 ∷ 0 ∷ 0 ∷ 252 ∷ 255 ∷ 255 ∷ 255 ∷ 8 ∷ 0 ∷ 0 ∷ 0 ∷ send) ≡ false
unfolding desks
too_long = refl

-- ---- the answers
-- a buffer of n bytes, each 170, and the number and the buffer afterwards
abbrev buffer : ℕ → List ℕ
buffer n = replicate n 170

-- the first swap's 9, the second's 14 after one step, the third's accepted step; a byte after them is kept
all_answered : desk_answer p10 three (buffer 25)
    ≡ record {
      refusal = accepted;
      count = 0;
      buffer = 9 ∷ 0 ∷ 0 ∷ 0 ∷ 0 ∷ 0 ∷ 0 ∷ 0 ∷ 14 ∷ 0 ∷ 0 ∷ 0 ∷ 1 ∷ 0 ∷ 0 ∷ 0 ∷ 0 ∷ 0 ∷ 0 ∷ 0 ∷ 1 ∷ 0 ∷ 0 ∷ 0 ∷ 170 ∷ [];
    }
unfolding desks
all_answered = refl

entries_read : (number_of (desk_answer p10 three (buffer 24)).buffer 1 ≡ 14) × (count_of (desk_answer p10 three (buffer 24)).buffer 1 ≡ 1)
unfolding desks
entries_read = (refl, refl)

-- a call that is refused, with this number: its buffer is kept
abbrev Refused : List ℕ → List ℕ → ℕ → ℕ → Type 0
Refused s b n number = desk_answer s b (buffer n) ≡ record { refusal = number; count = 0; buffer = buffer n }

no_room : Refused p10 three 23 buffer_short
unfolding desks
no_room = refl

byte_long : Refused p10 (three ++ (0 ∷ [])) 24 bundle_layout
unfolding desks
byte_long = refl

no_bundle : Refused p10 [] 24 bundle_layout
unfolding desks
no_bundle = refl

no_arrays : Refused p10 (1 ∷ 1 ∷ 0 ∷ 0 ∷ 0 ∷ 0 ∷ 0 ∷ 0 ∷ []) 24 bundle_layout
unfolding desks
no_arrays = refl

-- the sheet first, then 28, then 25, then the setups
sheet_first : Refused (p10 ++ (0 ∷ [])) [] 0 sheet_length
unfolding desks
sheet_first = refl

bundle_before_room : Refused p10 (three ++ (0 ∷ [])) 0 bundle_layout
unfolding desks
bundle_before_room = refl

no_swap : desk_answer p10 (0 ∷ []) [] ≡ record { refusal = accepted; count = 0; buffer = [] }
unfolding desks
no_swap = refl

-- 64 swaps with empty journals, and 65
abbrev many : ℕ → List ℕ
many n = n ∷ replicate (8 * n) 0

sixty_four : (bundle_right (many 64) ≡ true) × (bundle_right (many 65) ≡ false)
unfolding desks
sixty_four = (refl, refl)

-- ---- the words of the claims
-- any byte of swap i's setup or journal, stored anew, leaves the bundle apart in swap i alone
set_apart : (b : List ℕ) (i p v : ℕ) → ((1 + 4 * i ≤ p) × (p < 1 + 4 * i + 4)) ⊎ ((start_of b i ≤ p) × (p < start_of b i + length_of b i))
    → SwapApart b (set b p v) i
set_apart b i p v h =
    record {
      long = length-set b p v;
      others = λ q f g.
          get_or-set_other b p q v 0
          (λ e.
          either h
          (λ x. either f (λ y. omega (arith, e, x.0, x.1, y)) (λ y. omega (arith, e, x.0, x.1, y)))
          (λ x. either g (λ y. omega (arith, e, x.0, x.1, y)) (λ y. omega (arith, e, x.0, x.1, y))));
    }

-- a length changed is more than that
lengths_apart : SwapApart three (set three 17 5) 1 → ⊥
unfolding desks
lengths_apart a = absurd (omega (arith, a.others 17 (inr (omega arith)) (inl (omega arith))))

-- the same swaps, the last one first
abbrev turned : List ℕ
turned =
    3
    ∷ 1 ∷ 0 ∷ 0 ∷ 0
    ∷ 0 ∷ 0 ∷ 0 ∷ 0
    ∷ 1 ∷ 0 ∷ 0 ∷ 0
    ∷ 4 ∷ 0 ∷ 0 ∷ 0
    ∷ 4 ∷ 0 ∷ 0 ∷ 0
    ∷ 8 ∷ 0 ∷ 0 ∷ 0
    ∷ (send ++ (send ++ (send ++ send)))

from : ℕ → ℕ
from zero = 2
from (suc k) = k

-- what holds of 0, 1 and 2 holds below 3
below_three : (P : ℕ → Type 0) → P 0 → P 1 → P 2 → (k : ℕ) → k < 3 → P k
below_three P x y z zero h = x
below_three P x y z (suc zero) h = y
below_three P x y z (suc (suc zero)) h = z
below_three P x y z (suc (suc (suc k))) h = absurd (omega arith)

is_turned : Reordered three turned from
unfolding desks from
is_turned =
    record {
      count = refl;
      within = below_three (λ k. from k < 3) (omega arith) (omega arith) (omega arith);
      setups = below_three (λ k. setup_of turned k ≡ setup_of three (from k)) refl refl refl;
      journals = below_three (λ k. journal_of turned k ≡ journal_of three (from k)) refl refl refl;
    }

-- not in their own places: other setups, and other journals
not_turned : Reordered three turned (λ k. k) → ⊥
unfolding desks
not_turned r = let z : ◌≡◌ {A = ℕ} 1 0 = ap (λ l. get_or l 0 0) (r.setups 0 (omega arith)) in omega (arith, z)

not_turned_either : Reordered three turned (λ k. k) → ⊥
unfolding desks
not_turned_either r = let z : ◌≡◌ {A = ℕ} 4 8 = ap (length {A = ℕ}) (r.journals 1 (omega arith)) in omega (arith, z)

turned_answered : (desk_answer p10 turned (buffer 24)).buffer
    ≡ 0 ∷ 0 ∷ 0 ∷ 0 ∷ 1 ∷ 0 ∷ 0 ∷ 0 ∷ 9 ∷ 0 ∷ 0 ∷ 0 ∷ 0 ∷ 0 ∷ 0 ∷ 0 ∷ 14 ∷ 0 ∷ 0 ∷ 0 ∷ 1 ∷ 0 ∷ 0 ∷ 0 ∷ []
unfolding desks
turned_answered = refl

-- laid out from its swaps
is_laid_out : bundle_of
    (record { setup = 0 ∷ 0 ∷ 0 ∷ 0 ∷ []; journal = send }
    ∷ record { setup = 1 ∷ 0 ∷ 0 ∷ 0 ∷ []; journal = send ++ send }
    ∷ record { setup = 1 ∷ 0 ∷ 0 ∷ 0 ∷ []; journal = send }
    ∷ [])
    ≡ three
unfolding desks bundle_of
is_laid_out = refl

-- a swap that can stand in a bundle, and a setup of five bytes, which does not
is_fitting : Fitting (record { setup = 1 ∷ 0 ∷ 0 ∷ 0 ∷ []; journal = send })
is_fitting = record { setup_size = refl; journal_size = omega arith }

not_fitting : Fitting (record { setup = 1 ∷ 0 ∷ 0 ∷ 0 ∷ 0 ∷ []; journal = send }) → ⊥
not_fitting f = omega (arith, f.setup_size)

five_bytes : bundle_right (bundle_of (record { setup = 1 ∷ 0 ∷ 0 ∷ 0 ∷ 0 ∷ []; journal = send } ∷ [])) ≡ false
unfolding desks bundle_of
five_bytes = refl
