-- The answer of the call, case by case, and how large it can be.
-- Assumes nothing.
use Rattle.laws.proofs.Prelude.{ℕ, ◌*◌, ◌^◌, ◌≤◌, ◌<◌, ◌≡◌, refl, sym, ◌∙◌, true, not, ◌&&◌, List, ◌++◌, eqb, ltb, lit<, length, eqb-true, eq-eqb, ne_eqb, not-true}
use Rattle.laws.proofs.Prelude.{arith, split, and_parts, all_below, all_at, first_failing, answer_below, passed, passed_append, failed_append, over, bits_below}
use Rattle.position.proofs.Rules.{count, array_tests, sheet_tests, sheet_refusal, per_day, setup_tests, setup_refusal, is_contract, is_party, is_payee, shares_to, block_limit}
use Rattle.position.proofs.Rules.{fitted}
use Rattle.laws.specs.Failing.{front_passes}
use Rattle.laws.specs.Sum.{bits_bound}
use Rattle.sheet.proofs.Theorems.{sheet_checked}
use Rattle.sheet.proofs.Parties.{party_small}
use Rattle.position.proofs.Passing.{Gives, written, not_written, fitted_bounds}
use Rattle.call_blocks.specs.BlockList.{list_bytes}
use Rattle.call_blocks.proofs.Lengths.{length_list}
use Rattle.endings.specs.Plan.{plan}
use Rattle.endings.specs.Ending.{destination_of, paying_named, ending_right, is_possible, ending_tests}
use Rattle.call_earliest.specs.Answer.{earliest_refusal, earliest_list, earliest_answer}
use Rattle.call_earliest.specs.Forms.Table.{members, table, Destined, table_bytes}
use Rattle.call_earliest.proofs.Rows.{table_plan}
use Rattle.call_earliest.proofs.Lengths.{plan_length}

-- ---- the tests, one after another
module _ (s u : List ℕ) (mask : ℕ) (dests : List ℕ) where
  after_sheet : sheet_refusal s ≡ 0 → earliest_refusal s u mask dests ≡ first_failing (setup_tests s u ++ ending_tests s u mask dests)
  unfolding earliest_refusal sheet_refusal sheet_tests array_tests
  after_sheet h = passed_append (sheet_tests s) (setup_tests s u ++ ending_tests s u mask dests) refl h

  own_tests : sheet_refusal s ≡ 0 → setup_refusal s u ≡ 0 → earliest_refusal s u mask dests ≡ first_failing (ending_tests s u mask dests)
  unfolding setup_refusal setup_tests
  own_tests h k = after_sheet h ∙ passed_append (setup_tests s u) (ending_tests s u mask dests) refl k

  -- the returns of the code, where a and b are what it found of the sheet and of the setup
  pub by_sheet : (a : ℕ) → a ≡ sheet_refusal s → (a ≡ 0 → ⊥) → a ≡ earliest_refusal s u mask dests
  unfolding earliest_refusal sheet_refusal
  by_sheet a e n = e ∙ sym (failed_append (sheet_tests s) (setup_tests s u ++ ending_tests s u mask dests) (λ z. n (e ∙ z)))

  pub by_setup : (a b : ℕ) → a ≡ sheet_refusal s → a ≡ 0 → b ≡ setup_refusal s u → (b ≡ 0 → ⊥) → b ≡ earliest_refusal s u mask dests
  unfolding setup_refusal
  by_setup a b e z f n = f ∙ sym (failed_append (setup_tests s u) (ending_tests s u mask dests) (λ y. n (f ∙ y))) ∙ sym (after_sheet (sym e ∙ z))

  pub by_ending : (a b r : ℕ) → a ≡ sheet_refusal s → a ≡ 0 → b ≡ setup_refusal s u → b ≡ 0 → r ≡ first_failing (ending_tests s u mask dests) → r ≡ earliest_refusal s u mask dests
  by_ending a b r e z f y g = g ∙ sym (own_tests (sym e ∙ z) (sym f ∙ y))

  refusal_below : earliest_refusal s u mask dests < 35
  unfolding earliest_refusal sheet_tests array_tests setup_tests ending_tests
  refusal_below = answer_below 35 (sheet_tests s ++ (setup_tests s u ++ ending_tests s u mask dests)) (lit< tt) refl

  -- what an ending that is not refused has passed
  pub record Passes : Type 0 where
    pub sheet : sheet_refusal s ≡ 0
    pub setup : setup_refusal s u ≡ 0
    pub right : ending_right s mask dests ≡ true
    pub possible : is_possible s (per_day u) mask ≡ true

  pub unrefused : (r : ℕ) → r ≡ earliest_refusal s u mask dests → r ≡ 0 → Passes
  unfolding earliest_refusal sheet_refusal setup_refusal ending_tests
  unrefused r e z =
      let h : sheet_refusal s ≡ 0 = front_passes (sheet_tests s) (setup_tests s u ++ ending_tests s u mask dests) (sym e ∙ z) in
      let k : setup_refusal s u ≡ 0 = front_passes (setup_tests s u) (ending_tests s u mask dests) (sym (after_sheet h) ∙ sym e ∙ z) in
      let test = passed (ending_tests s u mask dests) refl (sym (own_tests h k) ∙ sym e ∙ z) in
      record { sheet = h; setup = k; right = test 33; possible = test 34 }

  -- the answer of an ending that is refused, or not; d is the blocks per day that the code read
  pub gives_refused : (out : List ℕ) (r : ℕ) → r ≡ earliest_refusal s u mask dests → (r ≡ 0 → ⊥) → Gives r 0 out (earliest_answer s u mask dests out)
  unfolding earliest_answer
  gives_refused out r e n = rw (ne_eqb (earliest_refusal s u mask dests) 0 (λ z. n (e ∙ z)), earliest_answer) (e, (refl, refl))

  pub gives_planned : (out : List ℕ) (r d x y : ℕ) (l : List ℕ) → r ≡ earliest_refusal s u mask dests → r ≡ 0 → d ≡ per_day u
      → Gives x y l (fitted (list_bytes (plan s d mask (destination_of mask dests) block_limit)) (length (plan s d mask (destination_of mask dests) block_limit)) out)
      → Gives x y l (earliest_answer s u mask dests out)
  unfolding earliest_answer earliest_list
  gives_planned out r d x y l e z f g =
      rw (eq-eqb (earliest_refusal s u mask dests) 0 (sym e ∙ z), earliest_answer) (rw f at g)

-- ---- the destinations of an ending that passes 33
destined_small : (s : List ℕ) (t d : ℕ) → (not (is_contract s t) && shares_to s t d) ≡ true → d < 256
unfolding shares_to
destined_small s t d h =
    let w = and_parts (not (is_contract s t)) (shares_to s t d) h in
    let v = rw (not-true (is_contract s t) w.0) at w.1 in
    omega (arith, party_small s d (and_parts (is_party s d) (is_payee s t d) v).0)

pub destined : (s : List ℕ) (mask : ℕ) (dests : List ℕ) (n : ℕ) → n ≡ count s → count s ≤ 32 → ending_right s mask dests ≡ true → Destined n mask dests
unfolding ending_right paying_named
destined s mask dests n e few h =
    let w = and_parts (ltb mask (2 ^ count s)) (eqb (length dests) (4 * bits_below (count s) mask) && all_below (count s) (paying_named s mask dests)) h in
    let v = and_parts (eqb (length dests) (4 * bits_below (count s) mask)) (all_below (count s) (paying_named s mask dests)) w.1 in
    rw e
    (record {
      few = few;
      size = eqb-true (length dests) (4 * bits_below (count s) mask) v.0;
      small = λ t l b. destined_small s t (destination_of mask dests t) (rw b at (all_at (count s) (paying_named s mask dests) v.1 t l));
    })

-- ---- the plan written, where k is the number of its entries that the code found
module _ (s : List ℕ) (d mask : ℕ) (dests out : List ℕ) (few : count s ≤ 32) (can : is_possible s d mask ≡ true) (n k f : ℕ) (e : n ≡ count s) (g : f ≡ members s mask) (q : k ≡ bits_below n f) where
  plan_count : k ≡ length (plan s d mask (destination_of mask dests) block_limit)
  plan_count = rw (e, g) at q ∙ sym (plan_length s d mask (destination_of mask dests) few can)

  plan_bytes : length (list_bytes (plan s d mask (destination_of mask dests) block_limit)) ≡ 4 * k
  plan_bytes = length_list (plan s d mask (destination_of mask dests) block_limit) ∙ rw (← plan_count)

  pub plan_short : length out < 4 * k → Gives 25 0 out (fitted (list_bytes (plan s d mask (destination_of mask dests) block_limit)) (length (plan s d mask (destination_of mask dests) block_limit)) out)
  plan_short h =
      rw (not_written (list_bytes (plan s d mask (destination_of mask dests) block_limit)) out (length (plan s d mask (destination_of mask dests) block_limit))
      (rw plan_bytes h)) (refl, (refl, refl))

  -- b is the table that the code made
  module _ (b : List ℕ) (m : b ≡ table s d f) (h : 4 * k ≤ length out) where
    table_bytes_lem : table_bytes n mask dests b ≡ list_bytes (plan s d mask (destination_of mask dests) block_limit)
    table_bytes_lem = rw (m, g, e) (table_plan s d mask dests few)

    pub plan_room : length (table_bytes n mask dests b) ≤ length out
    plan_room = rw (table_bytes_lem, plan_bytes) h

    pub plan_whole : (l : List ℕ) → l ≡ over (table_bytes n mask dests b) out
        → Gives 0 k l (fitted (list_bytes (plan s d mask (destination_of mask dests) block_limit)) (length (plan s d mask (destination_of mask dests) block_limit)) out)
    plan_whole l o =
        rw (written (list_bytes (plan s d mask (destination_of mask dests) block_limit)) out (length (plan s d mask (destination_of mask dests) block_limit))
        (rw plan_bytes h)) (refl, (plan_count, rw table_bytes_lem at o))

-- ---- how large the answer can be
module _ (s u : List ℕ) (mask : ℕ) (dests out : List ℕ) where
  list_few : earliest_refusal s u mask dests ≡ 0 → length (earliest_list s u mask dests) ≤ 32
  unfolding earliest_list
  list_few z =
      let p = unrefused s u mask dests (earliest_refusal s u mask dests) refl z in
      let few = (sheet_checked s p.sheet).sized.few in
      rw (plan_length s (per_day u) mask (destination_of mask dests) few p.possible) (omega (arith, bits_bound (count s) (members s mask)))

  answer_bounds : ((earliest_answer s u mask dests out).refusal < 35) × ((earliest_answer s u mask dests out).count ≤ 32)
  unfolding earliest_answer
  answer_bounds =
      split (eqb (earliest_refusal s u mask dests) 0)
      (λ y.
      let w = fitted_bounds (list_bytes (earliest_list s u mask dests)) out (length (earliest_list s u mask dests)) in
      rw (y, earliest_answer) (omega (arith, w.0), omega (arith, w.1, list_few (eqb-true (earliest_refusal s u mask dests) 0 y))))
      (λ y. rw (y, earliest_answer) (refusal_below s u mask dests, omega arith))

  pub planned_bounds : (x y : ℕ) (l : List ℕ) → Gives x y l (earliest_answer s u mask dests out) → (x < 35) × (y ≤ 32)
  planned_bounds x y l h = rw (h.0, h.1.0) answer_bounds
