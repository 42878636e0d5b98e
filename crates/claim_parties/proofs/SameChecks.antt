-- A sheet with the transactions of one that passes the check passes it too, where its length, its start masks and its payees are right.
-- Assumes nothing.
use Rattle.laws.proofs.Prelude.{ℕ, ◌+◌, ◌*◌, ◌^◌, ◌<◌, ◌≡◌, refl, ap, fun_ext, true, List, eqb, ltb, length, eq-eqb, lt-ltb, le-leb, arith, any_below, all_at, all_from}
use Rattle.laws.proofs.Prelude.{first_failing, test_of, passed}
use Rattle.position.proofs.Rules.{accepted, parties, arrays, count, signatures, secrets, start_mask, payees, required, veil, array_tests, sheet_tests, sheet_refusal, is_contract}
use Rattle.sheet.specs.Check.{head_right, count_right, within, masks_right, signatures_right, length_right, parent_right, entry_right, days_right, lock_right, has_child, children_right}
use Rattle.sheet.proofs.PassedSheet.{passed_sheet}
use Rattle.claim_parties.specs.Renaming.{SameTransactions}
use Rattle.claim_parties.proofs.Leaves.{opening_same}

module _ (s w : List ℕ) (a : SameTransactions s w) (h : sheet_refusal s ≡ accepted) where
  test : (k : ℕ) → test_of k (sheet_tests s) ≡ true
  unfolding sheet_refusal sheet_tests array_tests
  test k = passed (sheet_tests s) refl h k

  count_right_lem : count_right w ≡ true
  unfolding count_right sheet_tests array_tests
  count_right_lem = rw a.counts (test 2)

  parent_right_lem : parent_right w ≡ parent_right s
  unfolding parent_right
  parent_right_lem = fun_ext (λ t. rw (opening_same s w a, a.parents t))

  lock_right_lem : lock_right w ≡ lock_right s
  unfolding lock_right days_right
  lock_right_lem = fun_ext (λ t. rw (opening_same s w a, a.locks))

  child_same : (t : ℕ) → has_child w t ≡ has_child s t
  unfolding has_child
  child_same t = rw a.counts (ap (any_below (count s)) (fun_ext (λ k. ap (λ (x : ℕ). eqb x t) (a.parents k))))

  module _ (long : length w ≡ arrays w + 6 * count s) (masks : (k : ℕ) → k < parties w → start_mask w k < 2 ^ signatures s)
      (few : (t : ℕ) → t < count s → payees w t < 2 ^ parties w) (contracts : (t : ℕ) → t < count s → is_contract w t ≡ is_contract s t) where
    head_right_lem : head_right w ≡ true
    unfolding head_right
    head_right_lem = le-leb (arrays w) (length w) (omega (arith, long))

    length_right_lem : length_right w ≡ true
    unfolding length_right
    length_right_lem = rw a.counts (eq-eqb (length w) (arrays w + 6 * count s) long)

    masks_right_lem : masks_right w ≡ true
    unfolding masks_right within
    masks_right_lem =
        rw (a.signatures_same, a.secrets_same, lt-ltb (secrets s) (2 ^ signatures s) (passed_sheet s h).secrets_within)
        (all_from (parties w) (λ k. ltb (start_mask w k) (2 ^ signatures s)) (λ k l. lt-ltb (start_mask w k) (2 ^ signatures s) (masks k l)))

    signatures_right_lem : signatures_right w ≡ true
    unfolding signatures_right
    signatures_right_lem =
        let c = passed_sheet s h in
        rw (masks_right_lem, a.signatures_same, le-leb 1 (signatures s) c.signatures_some, le-leb (signatures s) 8 c.signatures_few) refl

    entry_right_lem : (t : ℕ) → t < count s → entry_right w t ≡ true
    unfolding entry_right within
    entry_right_lem t l =
        let e = (passed_sheet s h).entries t l in
        rw (lt-ltb (payees w t) (2 ^ parties w) (few t l), a.needs t, a.veils t, a.signatures_same, le-leb 1 (required s t) e.required_some)
        (rw (lt-ltb (required s t) (2 ^ signatures s) e.required_within) (le-leb (veil s t) 1 e.veil_flag))

    children_right_lem : (t : ℕ) → t < count s → children_right w t ≡ true
    unfolding children_right is_contract sheet_tests array_tests
    children_right_lem t l = rw (contracts t l, child_same t) (all_at (count s) (children_right s) (test 8) t l)

    pub passes_too : sheet_refusal w ≡ accepted
    unfolding sheet_refusal sheet_tests array_tests first_failing
    passes_too =
        let entries = all_from (count s) (entry_right w) entry_right_lem in
        let children = all_from (count s) (children_right w) children_right_lem in
        rw (head_right_lem, count_right_lem, signatures_right_lem, length_right_lem, a.counts, parent_right_lem, lock_right_lem, entries, children, test 5, test 7)
