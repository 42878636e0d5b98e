-- The sets of transactions that can be confirmed together: each with its parents and without its rivals. A test that all of them pass is
-- passed by what is confirmed in any sound position.
-- Assumes nothing.
use Rattle.laws.proofs.Prelude.{ℕ, zero, suc, ◌≤◌, ◌<◌, ◌≡◌, sym, ◌∙◌, fun_ext, Bool, true, false, not, ◌&&◌, ◌||◌, List, ltb, ltb-true, ltb-false, lt-ltb, arith, split}
use Rattle.laws.proofs.Prelude.{clash, and_parts, fails_by, implied, any_all_false, bit_above, bit, joined, set_below, set_bit, set_small}
use Rattle.position.proofs.Rules.{count, parent, opening, Checked, conflict, conflict_in, no_conflict, has_parent, block_of, is_confirmed}
use Rattle.position.specs.declared.Position.{Position}
use Rattle.slots.proofs.Parents.{parent_lower}
use Rattle.claim_ledger.proofs.Sound.{Sound}
use Rattle.claim_model.proofs.AnySheets.{has_block, chain_low}

-- transaction n can be confirmed beside the set m
unfoldable pub fits : List ℕ → ℕ → ℕ → Bool
fits s m n = has_parent s (bit m) n && no_conflict s (bit m) n

-- the test holds of every such set of the transactions below n
unfoldable pub all_states : List ℕ → ℕ → (ℕ → Bool) → Bool
all_states s zero test = test 0
all_states s (suc n) test = all_states s n (λ m. test m && (not (fits s m n) || test (joined m true n)))

-- a set that is closed under parents and without rivals
pub record Chain (s : List ℕ) (c : ℕ → Bool) : Type 0 where
  pub parents : (t : ℕ) → t < count s → c t ≡ true → opening s t ≡ false → c (parent s t) ≡ true
  pub alone : (t k : ℕ) → t < count s → k < count s → c t ≡ true → c k ≡ true → conflict s k t ≡ true → k ≡ t
  pub beyond : (t : ℕ) → count s ≤ t → c t ≡ false

module _ (s : List ℕ) (ok : Checked s) (c : ℕ → Bool) (w : Chain s c) where
  few : (n : ℕ) → n ≤ count s → n ≤ 32
  few n l = omega (arith, ok.sized.few)

  -- below n, and none from there on
  same : (n : ℕ) → n ≤ count s → (k : ℕ) → k < n → bit (set_below n c) k ≡ c k
  same n l k h = set_bit n c (few n l) k h

  none : (n k : ℕ) → n ≤ k → bit (set_below n c) k ≡ false
  none n k l = bit_above (set_below n c) n k (set_small n n c (omega arith)) l

  next_fits : (n : ℕ) → n < count s → c n ≡ true → fits s (set_below n c) n ≡ true
  unfolding fits has_parent no_conflict conflict_in
  next_fits n l h =
      let m = set_below n c in
      let up : (opening s n || bit m (parent s n)) ≡ true =
      split (opening s n)
      (λ y. rw y)
      (λ y. rw y (same n (omega arith) (parent s n) (parent_lower ok n l y) ∙ w.parents n l h y)) in
      let free : conflict_in s (bit m) n ≡ false =
      any_all_false (count s) (λ k. conflict s k n && bit m k)
      (λ k i.
      fails_by (conflict s k n && bit m k)
      (λ y.
      let a = and_parts (conflict s k n) (bit m k) y in
      split (ltb k n)
      (λ z.
      let r = ltb-true k n z in
      omega (arith, r, w.alone n k l i h (sym (same n (omega arith) k r) ∙ a.1) a.0))
      (λ z. clash a.1 (none n k (ltb-false k n z))))) in
      rw (up, free)

  passes : (n : ℕ) → n ≤ count s → (test : ℕ → Bool) → all_states s n test ≡ true → test (set_below n c) ≡ true
  unfolding all_states set_below joined
  passes zero l test h = h
  passes (suc n) l test h =
      let m = set_below n c in
      let a = and_parts (test m) (not (fits s m n) || test (joined m true n)) (passes n (omega arith) _ h) in
      split (c n)
      (λ y. rw y (implied (fits s m n) (test (joined m true n)) a.1 (next_fits n l y)))
      (λ y. rw y a.0)

  whole : bit (set_below (count s) c) ≡ c
  whole =
      fun_ext
      (λ k.
      split (ltb k (count s))
      (λ y. same (count s) (omega arith) k (ltb-true k (count s) y))
      (λ y. let l = ltb-false k (count s) y in none (count s) k l ∙ sym (w.beyond k l)))

  pub all_pass : (test : (ℕ → Bool) → Bool) → all_states s (count s) (λ m. test (bit m)) ≡ true → test c ≡ true
  all_pass test h = rw whole at (passes (count s) (omega arith) (λ m. test (bit m)) h)

-- what is confirmed in a sound position is such a set
module _ (s u : List ℕ) (ok : Checked s) (p : Position) (g : Sound s u p) where
  chain : Chain s (is_confirmed p)
  unfolding is_confirmed
  chain =
      record {
        parents = λ t l h o. lt-ltb 0 (block_of p (parent s t)) (g.settled.parents t l (has_block s u p g t h) o).0;
        alone = λ t k l n a b h. g.settled.alone t k l n (has_block s u p g t a) (has_block s u p g k b) h;
        beyond = λ t l. fails_by (is_confirmed p t) (λ h. omega (arith, chain_low s u p g t h));
      }

  pub confirmed_pass : (test : (ℕ → Bool) → Bool) → all_states s (count s) (λ m. test (bit m)) ≡ true → test (is_confirmed p) ≡ true
  confirmed_pass = all_pass s ok (is_confirmed p) chain
