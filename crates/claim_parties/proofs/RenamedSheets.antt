-- A sheet of three with its parties renamed: what it says.
-- Assumes nothing.
use Rattle.laws.proofs.Prelude.{ℕ, zero, suc, ◌+◌, ◌-◌, ◌*◌, ◌%◌, ◌≤◌, ◌<◌, ◌≡◌, refl, sym, ap, ◌∙◌, fun_ext, Bool, true, false, not, ◌&&◌, and-false, List, eqb, ltb}
use Rattle.laws.proofs.Prelude.{leb, lit≤, length, ltb-true, ltb-false, eq-eqb, ne_eqb, lt-ltb, le-ltb, le-leb, arith, Bool·beq, split, beq_same, all_below, any_below}
use Rattle.laws.proofs.Prelude.{all_at, any_found, any_some, any_none, any_all_false, rewritten, not_rewritten, bit, set_bit}
use Rattle.position.proofs.Rules.{accepted, byte, parties, arrays, place, party_at, count, start_mask, start_keys, entry, payees, sheet_refusal, destinations, is_payee}
use Rattle.position.proofs.Rules.{is_contract}
use Rattle.laws.specs.Sets.{set_some}
use Rattle.sheet.specs.Field.{miner, is_party, lock_pair}
use Rattle.sheet.proofs.Parties.{parties_same, place_at, place_below, at_place, party_at_lem, party_past}
use Rattle.sheet.proofs.PassedSheet.{passed_sheet}
use Rattle.claim_parties.specs.Renaming.{Renaming, SameTransactions, RenamedSheet, renamed_payees, renamed_byte, renamed_sheet}
use Rattle.claim_parties.proofs.RenamedNumbers.{miner_number}

party_three : (v : List ℕ) → parties v ≡ 3 → (a : ℕ) → is_party v a ≡ (not (eqb a miner) && ltb a destinations)
unfolding is_party place
party_three v e zero = rw e refl
party_three v e (suc zero) = rw e refl
party_three v e (suc (suc zero)) = refl
party_three v e (suc (suc (suc zero))) = rw e refl
party_three v e (suc (suc (suc (suc a)))) =
    party_past v (suc (suc (suc (suc a)))) (omega arith)
    ∙ rw (le-ltb (suc (suc (suc (suc a)))) 4 (omega arith)) (sym (and-false (not (eqb (suc (suc (suc (suc a)))) miner))))

start_of : (v : List ℕ) (a : ℕ) → is_party v a ≡ true → start_keys v a ≡ start_mask v (place a)
unfolding start_keys
start_of v a h = rw h refl

start_none : (v : List ℕ) (a : ℕ) → is_party v a ≡ false → start_keys v a ≡ 0
unfolding start_keys
start_none v a h = rw h refl

nots : (x y : Bool) → not x ≡ not y → x ≡ y
nots true true h = refl
nots true false h = sym h
nots false true h = sym h
nots false false h = refl

-- a mask of three bits is 0, or has one
three_bits : all_below 8 (λ m. Bool·beq (not (eqb m 0)) (any_below 3 (bit m))) ≡ true
unfolding all_below any_below bit
three_bits = refl

some_bit : (m : ℕ) → m < 8 → not (eqb m 0) ≡ any_below 3 (bit m)
some_bit m l = beq_same (not (eqb m 0)) (any_below 3 (bit m)) (all_at 8 (λ k. Bool·beq (not (eqb k 0)) (any_below 3 (bit k))) three_bits m l)

module _ (ρ : Renaming) (s : List ℕ) (three : parties s ≡ 3) (h : sheet_refusal s ≡ accepted) where
  pub long : length s ≡ 6 + 6 * count s
  unfolding arrays
  long = rw three at (passed_sheet s h).sized.size

  at : (i : ℕ) → i < length s → byte (renamed_sheet ρ s) i ≡ renamed_byte ρ s i (byte s i)
  unfolding renamed_sheet
  at i l = rewritten (length s) (renamed_byte ρ s) s i 0 l l

  pub other : (i : ℕ) → (leb 3 i && ltb i 6) ≡ false → (leb 6 i && (ltb i (6 + 4 * count s) && eqb ((i - 6) % 4) 1)) ≡ false
      → byte (renamed_sheet ρ s) i ≡ byte s i
  unfolding renamed_sheet renamed_byte
  other i e f =
      split (ltb i (length s))
      (λ y. at i (ltb-true i (length s) y) ∙ rw (e, f) refl)
      (λ y. not_rewritten (length s) (renamed_byte ρ s) s i 0 (ltb-false i (length s) y))

  pub parties_kept : parties (renamed_sheet ρ s) ≡ 3
  parties_kept = parties_same s (renamed_sheet ρ s) (other 0 refl refl) ∙ three

  pub count_kept : count (renamed_sheet ρ s) ≡ count s
  unfolding count
  count_kept = rw (other 0 refl refl)

  entry_kept : (t k : ℕ) → k < 4 → (k ≡ 1 → ⊥) → entry (renamed_sheet ρ s) t k ≡ entry s t k
  unfolding entry arrays
  entry_kept t k l n =
      rw (parties_kept, three)
      (other (6 + 4 * t + k)
      (rw (le-ltb (6 + 4 * t + k) 6 (omega arith)) (and-false (leb 3 (6 + 4 * t + k))))
      (rw (ne_eqb ((6 + 4 * t + k - 6) % 4) 1 (λ z. n (omega (arith, z, l))), and-false (ltb (6 + 4 * t + k) (6 + 4 * count s))) (and-false (leb 6 (6 + 4 * t + k)))))

  lock_kept : (t k : ℕ) → lock_pair (renamed_sheet ρ s) t k ≡ lock_pair s t k
  unfolding lock_pair arrays
  lock_kept t k =
      let i = 6 + 4 * count s + 2 * t + k in
      rw (parties_kept, three, count_kept)
      (other i
      (rw (le-ltb i 6 (omega arith)) (and-false (leb 3 i)))
      (rw (le-ltb i (6 + 4 * count s) (omega arith)) (and-false (leb 6 i))))

  pub transactions_kept : SameTransactions s (renamed_sheet ρ s)
  transactions_kept =
      record {
        counts = count_kept;
        signatures_same = other 1 refl refl;
        secrets_same = other 2 refl refl;
        parents = λ t. entry_kept t 0 (omega arith) (λ z. omega (arith, z));
        needs = λ t. entry_kept t 2 (omega arith) (λ z. omega (arith, z));
        veils = λ t. entry_kept t 3 (omega arith) (λ z. omega (arith, z));
        locks = fun_ext (λ t. fun_ext (λ k. lock_kept t k));
      }

  pub payees_at : (t : ℕ) → t < count s → payees (renamed_sheet ρ s) t ≡ renamed_payees ρ (payees s t)
  unfolding entry arrays renamed_byte
  payees_at t l =
      let i = 6 + 4 * t + 1 in
      rw (parties_kept, three)
      (at i (omega (arith, long, l))
      ∙ rw (le-ltb i 6 (omega arith), and-false (leb 3 i), le-leb 6 i (omega arith), lt-ltb i (6 + 4 * count s) (omega (arith, l)), eq-eqb ((i - 6) % 4) 1 (omega arith)) refl)

  pub mask_at : (k : ℕ) → k < 3 → start_mask (renamed_sheet ρ s) k ≡ start_keys s (ρ.from (party_at k))
  unfolding renamed_byte
  mask_at k l =
      let e : 3 + k - 3 ≡ k = omega arith in
      at (3 + k) (omega (arith, long, l)) ∙ rw (le-leb 3 (3 + k) (omega arith), lt-ltb (3 + k) 6 (omega (arith, l)), e) refl

  parties_renamed : (a : ℕ) → is_party (renamed_sheet ρ s) (ρ.to a) ≡ is_party s a
  parties_renamed a =
      party_three (renamed_sheet ρ s) parties_kept (ρ.to a)
      ∙ rw (miner_number ρ a, ρ.known_stays a) (sym (party_three s three a))

  -- the party that a number is now is the one that it was
  module _ (a : ℕ) (g : is_party s a ≡ true) where
    party_there : is_party (renamed_sheet ρ s) (ρ.to a) ≡ true
    party_there = parties_renamed a ∙ g

    place_there : place (ρ.to a) < 3
    place_there = rw parties_kept at (place_below (renamed_sheet ρ s) (ρ.to a) party_there)

    same_party : ρ.from (party_at (place (ρ.to a))) ≡ a
    same_party = ap ρ.from (at_place (renamed_sheet ρ s) (ρ.to a) party_there) ∙ ρ.there a

    bit_renamed : (m : ℕ) → bit m (place (ρ.from (party_at (place (ρ.to a))))) ≡ bit m (place a)
    bit_renamed m = ap (λ (x : ℕ). bit m (place x)) same_party

    payee_bit : (m : ℕ) → bit (renamed_payees ρ m) (place (ρ.to a)) ≡ bit m (place a)
    unfolding renamed_payees
    payee_bit m = set_bit 3 (λ k. bit m (place (ρ.from (party_at k)))) (lit≤ tt) (place (ρ.to a)) place_there ∙ bit_renamed m

  starts_renamed : (a : ℕ) → start_keys (renamed_sheet ρ s) (ρ.to a) ≡ start_keys s a
  starts_renamed a =
      split (is_party s a)
      (λ g.
      start_of (renamed_sheet ρ s) (ρ.to a) (party_there a g)
      ∙ mask_at (place (ρ.to a)) (place_there a g)
      ∙ ap (start_keys s) (same_party a g))
      (λ g. start_none (renamed_sheet ρ s) (ρ.to a) (parties_renamed a ∙ g) ∙ sym (start_none s a g))

  payees_renamed : (t a : ℕ) → t < count s → is_payee (renamed_sheet ρ s) t (ρ.to a) ≡ is_payee s t a
  unfolding is_payee
  payees_renamed t a l =
      split (is_party s a)
      (λ g. rw (g, party_there a g) (ap (λ (m : ℕ). bit m (place (ρ.to a))) (payees_at t l) ∙ payee_bit a g (payees s t)))
      (λ g. let e = parties_renamed a ∙ g in rw (g, e) refl)

  pub party_back : (k : ℕ) → k < 3 → is_party s (ρ.from (party_at k)) ≡ true
  party_back k l =
      sym (parties_renamed (ρ.from (party_at k)))
      ∙ ap (is_party (renamed_sheet ρ s)) (ρ.back (party_at k))
      ∙ party_at_lem (renamed_sheet ρ s) k (rw parties_kept l)

  -- a mask is 0 where its renamed one is
  any_turned : (m : ℕ) → any_below 3 (λ k. bit m (place (ρ.from (party_at k)))) ≡ any_below 3 (bit m)
  any_turned m =
      let f : ℕ → Bool = λ k. bit m (place (ρ.from (party_at k))) in
      split (any_below 3 (bit m))
      (λ e.
      let x = any_some 3 (bit m) e in
      let k = x.0 in
      let g : is_party s (party_at k) ≡ true = party_at_lem s k (rw three x.1) in
      any_found 3 (place (ρ.to (party_at k))) f (place_there (party_at k) g)
      (bit_renamed (party_at k) g m ∙ ap (bit m) (place_at k) ∙ x.2)
      ∙ sym e)
      (λ e.
      any_all_false 3 f
      (λ k l.
      let b = ρ.from (party_at k) in
      any_none 3 (bit m) e (place b) (rw three at (place_below s b (party_back k l))))
      ∙ sym e)

  pub contract_renamed : (t : ℕ) → t < count s → is_contract (renamed_sheet ρ s) t ≡ is_contract s t
  unfolding is_contract renamed_payees
  contract_renamed t l =
      let m = payees s t in
      let few : m < 8 = rw three at ((passed_sheet s h).entries t l).payees_few in
      ap (λ (x : ℕ). eqb x 0) (payees_at t l)
      ∙ nots (eqb (renamed_payees ρ m) 0) (eqb m 0)
      (set_some 3 (λ k. bit m (place (ρ.from (party_at k)))) (lit≤ tt) ∙ any_turned m ∙ sym (some_bit m few))

  pub sheet_renamed : RenamedSheet ρ s (renamed_sheet ρ s)
  sheet_renamed =
      record {
        transactions = transactions_kept;
        contracts = contract_renamed;
        parties = parties_renamed;
        payees = payees_renamed;
        starts = starts_renamed;
      }
