-- The tests of a block list, read: what passes them, and what an accepted list is known to have.
-- Assumes nothing.
use Rattle.laws.proofs.Prelude.{ℕ, ◌%◌, ◌≤◌, ◌<◌, ◌≡◌, refl, sym, ◌∙◌, true, List, eqb, ltb, leb, length, ltb-true, leb-true, lt-ltb, le-leb, arith, and_parts, All}
use Rattle.laws.proofs.Prelude.{all_weaken, every, first_failing, passed}
use Rattle.position.proofs.Rules.{accepted, count, sheet_refusal, per_day, setup_refusal, Entry, in_order, ledger, shares_to, block_limit}
use Rattle.call_blocks.specs.BlockList.{list_entries, list_bytes, entry_named, fields_named, block_within, entries_rise, list_tests, blocks_refusal}
use Rattle.call_blocks.proofs.Tested.{own_tests}
use Rattle.claim_blocks.proofs.Bytes.{read_back, whole_entries, all_every, every_all}
use Rattle.claim_blocks.proofs.Confirmed.{Fine}

-- a fine entry passes its tests
fine_named : (s : List ℕ) (e : Entry) → Fine s e → entry_named s e ≡ true
unfolding entry_named
fine_named s e h = rw (lt-ltb e.transaction (count s) h.low, h.to)

fine_within : (s : List ℕ) (e : Entry) → Fine s e → block_within e ≡ true
unfolding block_within
fine_within s e h = rw (le-leb 1 e.block h.some, le-leb e.block block_limit h.few)

-- Fine entries in order that the ledger takes, written as bytes, get 0.
pub fine_list : (s u : List ℕ) → sheet_refusal s ≡ accepted → setup_refusal s u ≡ accepted → (l : List Entry) → All (Fine s) l → in_order l ≡ true → (ledger s (per_day u) l).accepts ≡ true
    → blocks_refusal s u (list_bytes l) ≡ accepted
unfolding list_tests first_failing fields_named entries_rise
fine_list s u h k l f o a =
    own_tests s u (list_bytes l) h k
    ∙ rw (read_back (all_weaken (λ e w. omega (arith, w.few)) f), whole_entries l, all_every (entry_named s) (all_weaken (fine_named s) f), o, all_every block_within (all_weaken (fine_within s) f), a)

-- a list that passes 29 names the sheet's transactions
pub named_low : (s list : List ℕ) → fields_named s list ≡ true → All (λ e. e.transaction < count s) (list_entries list)
unfolding fields_named entry_named
named_low s list n =
    all_weaken
    (λ e w. ltb-true e.transaction (count s) (and_parts (ltb e.transaction (count s)) (shares_to s e.transaction e.destination) w).0)
    (every_all (entry_named s) (list_entries list) (and_parts (eqb (length list % 4) 0) (every (entry_named s) (list_entries list)) n).1)

-- a list that passes 30 stands in order, in blocks from 1 to the limit
pub rise_parts : (l : List Entry) → entries_rise l ≡ true → (in_order l ≡ true) × All (λ e. (1 ≤ e.block) × (e.block ≤ block_limit)) l
unfolding entries_rise block_within
rise_parts l h =
    let w = and_parts (in_order l) (every block_within l) h in (
      w.0,
      all_weaken
          (λ e y. let v = and_parts (leb 1 e.block) (leb e.block block_limit) y in (leb-true 1 e.block v.0, leb-true e.block block_limit v.1))
          (every_all block_within l w.1),
    )

module _ (s u : List ℕ) (h : sheet_refusal s ≡ accepted) (k : setup_refusal s u ≡ accepted) where
  -- what an accepted list passed
  pub accepted_tests : (list : List ℕ) → blocks_refusal s u list ≡ accepted
      → (fields_named s list ≡ true) × (entries_rise (list_entries list) ≡ true) × ((ledger s (per_day u) (list_entries list)).accepts ≡ true)
  unfolding list_tests
  accepted_tests list z = let test = passed (list_tests s u list) refl (sym (own_tests s u list h k) ∙ z) in (test 29, test 30, test 31)

  pub tests_accepted : (list : List ℕ) → fields_named s list ≡ true → entries_rise (list_entries list) ≡ true → (ledger s (per_day u) (list_entries list)).accepts ≡ true
      → blocks_refusal s u list ≡ accepted
  unfolding list_tests first_failing
  tests_accepted list n o a = own_tests s u list h k ∙ rw (n, o, a)
