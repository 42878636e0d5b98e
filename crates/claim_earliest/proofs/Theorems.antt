-- Slip 11, for a reader: what the earliest block is, case by case, and what the answer comes to.
-- Assumes nothing.
use Rattle.laws.proofs.Prelude.{ℕ, ◌+◌, ◌*◌, ◌≤◌, ◌<◌, ◌≡◌, refl, sym, ◌∙◌, true, false, List, [], ◌++◌, eqb, ltb, length, take, drop, eqb-true, eqb-false, ltb-true}
use Rattle.laws.proofs.Prelude.{ltb-false, lt-ltb, le-ltb, arith, max-eq_left, max-eq_right, zero-add, drop_at, split, fails_by, clash, first_failing, passed}
use Rattle.laws.proofs.Prelude.{passed_append, over, take_over, length_over, stores_over}
use Rattle.position.proofs.Rules.{accepted, buffer_short, count, parent, lock_type, opening, lock_blocks, array_tests, sheet_tests, sheet_refusal, per_day, setup_tests}
use Rattle.position.proofs.Rules.{setup_refusal, Checked, Entry, lock_from, block_limit, fitted}
use Prim.Native.Nat.{max}
use lib.Seq.{sets-eq}
use Rattle.sheet.proofs.Theorems.{sheet_checked}
use Rattle.slots.proofs.Parents.{parent_below}
use Rattle.slots.proofs.Ancestors.{here}
use Rattle.position.specs.Answers as answers
use Rattle.position.proofs.Passing as fit
use Rattle.call_blocks.specs.BlockList.{list_entries, list_bytes}
use Rattle.claim_blocks.proofs.Bytes.{read_back}
use Rattle.claim_blocks.proofs.Places.{place_member, member_place, all_member}
use Rattle.sheet.specs.Refusal.{ending_impossible}
use Rattle.endings.specs.Earliest.{earliest_from, earliest}
use Rattle.endings.specs.Plan.{plan_entry, plan}
use Rattle.endings.specs.Ending.{destination_of, ending_right, is_possible, ending_tests}
use Rattle.call_earliest.specs.Answer.{earliest_refusal, earliest_list, earliest_answer}
use Rattle.call_blocks.proofs.Lengths.{length_list}
use Rattle.call_earliest.proofs.Answers.{unrefused}
use Rattle.claim_earliest.specs.Claim.{Written, Way, Cause, EarliestEndings, Listed, Answered, EarliestAnswers}
use Rattle.claim_earliest.proofs.Lowest
use Rattle.claim_earliest.proofs.Plans.{in_plan, plan_has, for_plan}
use Rattle.claim_earliest.proofs.Ending.{possible_says, says_possible, named_paying, named_to}
use Rattle.claim_earliest.proofs.Lists
use Rattle.claim_earliest.proofs.Causes.{impossible_cause}
use Rattle.claim_earliest.proofs.Empty.{empty_plan, empty_right, empty_possible}

-- The earliest block, case by case: an opening's ..
module _ (s : List ℕ) (d : ℕ) (ok : Checked s) (t : ℕ) (l : t < count s) where
  pub opening_unlocked : opening s t ≡ true → lock_type s t ≡ 0 → earliest s d t ≡ 1
  unfolding earliest_from lock_from
  opening_unlocked o e = Lowest.earliest_opening s d ok t l o ∙ rw e

  pub opening_absolute : opening s t ≡ true → lock_type s t ≡ 1 → earliest s d t ≡ lock_blocks s d t + 1
  unfolding earliest_from lock_from
  opening_absolute o e = Lowest.earliest_opening s d ok t l o ∙ rw e (max-eq_right (omega arith))

  -- .. and a spend's.
  pub spend_unlocked : opening s t ≡ false → lock_type s t ≡ 0 → earliest s d t ≡ earliest s d (parent s t)
  unfolding earliest_from lock_from
  spend_unlocked o e =
      Lowest.earliest_spend s d ok t l o ∙ rw e (max-eq_left (Lowest.earliest_some s d ok (parent s t) (parent_below ok t l o)))

  pub spend_absolute : opening s t ≡ false → lock_type s t ≡ 1 → earliest s d t ≡ max (earliest s d (parent s t)) (lock_blocks s d t + 1)
  unfolding earliest_from lock_from
  spend_absolute o e = Lowest.earliest_spend s d ok t l o ∙ rw e

  pub spend_since : opening s t ≡ false → lock_type s t ≡ 2 → earliest s d t ≡ earliest s d (parent s t) + lock_blocks s d t + 1
  unfolding earliest_from lock_from
  spend_since o e = Lowest.earliest_spend s d ok t l o ∙ rw e (max-eq_right (omega arith))

module _ (s u : List ℕ) (h : sheet_refusal s ≡ accepted) (k : setup_refusal s u ≡ accepted) where
  module _ (mask : ℕ) (dests : List ℕ) where
    own_tests : earliest_refusal s u mask dests ≡ first_failing (ending_tests s u mask dests)
    unfolding earliest_refusal sheet_refusal setup_refusal sheet_tests array_tests setup_tests
    own_tests =
        passed_append (sheet_tests s) (setup_tests s u ++ ending_tests s u mask dests) refl h
        ∙ passed_append (setup_tests s u) (ending_tests s u mask dests) refl k

    written : earliest_refusal s u mask dests ≡ accepted → Written s u mask dests
    unfolding ending_tests earliest_list plan_entry
    written z =
        let ok = sheet_checked s h in
        let test = passed (ending_tests s u mask dests) refl (sym own_tests ∙ z) in
        let can = possible_says s (per_day u) mask (test 34) in
        record {
          taken = Lists.plan_accepted s u h k mask (destination_of mask dests) (named_to s mask dests (test 33)) can;
          confirms = λ x l b.
              let p = for_plan s ok mask x x l b here in
              let w = member_place (plan_has s ok (per_day u) mask (destination_of mask dests) block_limit x l p (can.within x l p)) in
              (w.0, plan_entry s (per_day u) mask (destination_of mask dests) x, w.1, refl, rw b);
          earliest_each = λ i e m.
              let p = in_plan s ok (per_day u) mask (destination_of mask dests) block_limit e (place_member (plan s (per_day u) mask (destination_of mask dests) block_limit) i e m) in
              (p.block, p.for);
          all_there = λ t l p.
              let w = member_place (plan_has s ok (per_day u) mask (destination_of mask dests) block_limit t l p (can.within t l p)) in
              (w.0, plan_entry s (per_day u) mask (destination_of mask dests) t, w.1, refl);
        }

    -- where some accepted list confirms the ending, 34 is not answered
    way_possible : ending_right s mask dests ≡ true → Way s u mask dests → is_possible s (per_day u) mask ≡ true
    way_possible n w =
        says_possible s (per_day u) mask
        (Lists.confirmed_possible s u h k mask (named_paying s mask dests n) w.list w.taken
        (λ x l b. let v = w.confirms x l b in (v.0, v.1, v.2, v.3)))

    impossible_says : earliest_refusal s u mask dests ≡ ending_impossible → (ending_right s mask dests ≡ true) × (is_possible s (per_day u) mask ≡ false)
    unfolding ending_tests first_failing
    impossible_says z =
        split (ending_right s mask dests)
        (λ n. (
          n,
          fails_by (is_possible s (per_day u) mask)
              (λ y. let e : ◌≡◌ {A = ℕ} 0 34 = rw (n, y) at (sym own_tests ∙ z) in omega arith),
        ))
        (λ n. let e : ◌≡◌ {A = ℕ} 33 34 = rw n at (sym own_tests ∙ z) in absurd (omega arith))

    none_confirms : earliest_refusal s u mask dests ≡ ending_impossible → Way s u mask dests → ⊥
    none_confirms z w = let v = impossible_says z in clash (way_possible v.0 w) v.1

    possible_unrefused : ending_right s mask dests ≡ true → (earliest_refusal s u mask dests ≡ ending_impossible → ⊥) → earliest_refusal s u mask dests ≡ accepted
    unfolding ending_tests first_failing
    possible_unrefused n f =
        split (is_possible s (per_day u) mask)
        (λ y. own_tests ∙ rw (n, y))
        (λ y. absurd (f (own_tests ∙ rw (n, y))))

    -- the list's bytes, read back
    list_back : list_entries (list_bytes (earliest_list s u mask dests)) ≡ earliest_list s u mask dests
    unfolding earliest_list
    list_back =
        let l = plan s (per_day u) mask (destination_of mask dests) block_limit in
        read_back (all_member l (λ e m. let p = in_plan s (sheet_checked s h) (per_day u) mask (destination_of mask dests) block_limit e m in omega (arith, p.few)))

    -- the list written is such a list
    some_confirms : ending_right s mask dests ≡ true → (earliest_refusal s u mask dests ≡ ending_impossible → ⊥) → Way s u mask dests
    some_confirms n f =
        let w = written (possible_unrefused n f) in
        record { list = list_bytes (earliest_list s u mask dests); taken = w.taken; confirms = rw list_back w.confirms }

    cause : earliest_refusal s u mask dests ≡ ending_impossible → Cause s (per_day u) mask
    cause z = impossible_cause s (per_day u) mask (impossible_says z).1

  empty_ending : (earliest_refusal s u 0 [] ≡ accepted) × (earliest_list s u 0 [] ≡ [])
  unfolding ending_tests first_failing earliest_list
  empty_ending = (own_tests 0 [] ∙ rw (empty_right s, empty_possible s (per_day u)), empty_plan s (per_day u) (destination_of 0 []))

-- What the answer comes to, on every checked sheet and setup.
pub earliest_endings : EarliestEndings
earliest_endings s u h k =
    record {
      none_earlier = Lists.accepted_none_earlier s u h k;
      written = written s u h k;
      none_confirms = none_confirms s u h k;
      some_confirms = some_confirms s u h k;
      cause = cause s u h k;
      empty_mask = empty_ending s u h k;
    }

-- The same of what the call answers.
module _ (s u : List ℕ) (mask : ℕ) (dests out : List ℕ) where
  abbrev number : ℕ
  number = earliest_refusal s u mask dests

  abbrev list : List Entry
  list = earliest_list s u mask dests

  answer_refused : eqb number accepted ≡ false → earliest_answer s u mask dests out ≡ record { refusal = number; count = 0; buffer = out }
  unfolding earliest_answer
  answer_refused y = rw (y, earliest_answer)

  answer_planned : eqb number accepted ≡ true → earliest_answer s u mask dests out ≡ fitted (list_bytes list) (length list) out
  unfolding earliest_answer
  answer_planned y = rw (y, earliest_answer)

  -- the list at the front of a buffer that has room for it
  listed : number ≡ accepted → 4 * length list ≤ length out → Listed s u mask dests out (length list) (over (list_bytes list) out)
  listed z room =
      let p = unrefused s u mask dests number refl z in
      let w = written s u p.sheet p.setup mask dests z in
      let size = length_list list in
      let front : take (4 * length list) (over (list_bytes list) out) ≡ list_bytes list = rw (← size) (take_over (list_bytes list) out (omega (arith, size))) in
      let whole : over (list_bytes list) out ≡ list_bytes list ++ drop (length (list_bytes list)) out = rw zero-add at (sym (stores_over (list_bytes list) out) ∙ sets-eq (list_bytes list) out 0 (omega (arith, size))) in
      let back : list_entries (list_bytes list) ≡ list = list_back s u p.sheet p.setup mask dests in
      record {
        unrefused = z;
        counted = refl;
        bytes = front;
        entries = rw front back;
        taken = rw front w.taken;
        confirms = rw (front, back) w.confirms;
        beyond = rw (whole, drop_at (list_bytes list) (drop (length (list_bytes list)) out) (4 * length list) size, size);
        long = length_over (list_bytes list) out;
      }

  -- the ending is refused, or its list has no room, or it is written
  abbrev Answers : answers.Written → Type 0
  Answers w = Answered s u mask dests out w.refusal w.count w.buffer

  by_ending : eqb number accepted ≡ false → Answers (earliest_answer s u mask dests out)
  by_ending y = rw (answer_refused y) (record { number = rw y; written = λ z. absurd (eqb-false number accepted y z); refused = λ f. (refl, refl) })

  by_room : eqb number accepted ≡ true → length out < 4 * length list → Answers (earliest_answer s u mask dests out)
  by_room y l =
      let e = answer_planned y ∙ fit.not_written (list_bytes list) out (length list) (omega (arith, length_list list)) in
      rw e (record { number = rw (y, lt-ltb (length out) (4 * length list) l); written = λ z. absurd (eqb-false buffer_short accepted refl z); refused = λ f. (refl, refl) })

  by_list : eqb number accepted ≡ true → 4 * length list ≤ length out → Answers (earliest_answer s u mask dests out)
  by_list y l =
      let e = answer_planned y ∙ fit.written (list_bytes list) out (length list) (omega (arith, length_list list)) in
      let z = eqb-true number accepted y in
      rw e (record { number = rw (y, le-ltb (length out) (4 * length list) l, z); written = λ f. listed z l; refused = λ f. absurd (f refl) })

pub earliest_answers : EarliestAnswers
earliest_answers s u mask dests out =
    split (eqb (earliest_refusal s u mask dests) accepted)
    (λ y.
    split (ltb (length out) (4 * length (earliest_list s u mask dests)))
    (λ l. by_room s u mask dests out y (ltb-true (length out) (4 * length (earliest_list s u mask dests)) l))
    (λ l. by_list s u mask dests out y (ltb-false (length out) (4 * length (earliest_list s u mask dests)) l)))
    (by_ending s u mask dests out)
