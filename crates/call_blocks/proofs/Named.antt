-- Entries whose fields are right, one after the other.
-- Assumes nothing.
use Rattle.laws.proofs.Prelude.{ℕ, zero, suc, ap, ◌+◌, ◌*◌, ◌/◌, ◌%◌, ◌&&◌, all_below, arith, ◌≤◌, ◌<◌, ◌≡◌, ◌∙◌, Bool, true, false, List, eqb, ltb, length, ltb-true, eq-eqb, ne_eqb, and_parts, every}
use Rattle.laws.specs.Below.{all_first, all_same}
use Rattle.position.proofs.Rules.{count, Entry, shares_to}
use Rattle.call_blocks.specs.declared.Listed.{Listed}
use Rattle.call_blocks.specs.BlockList.{list_entries, entry_named, fields_named}
use Rattle.call_blocks.specs.Forms.Listed.{listed_at, entry_of}
use Rattle.call_blocks.proofs.Walk.{entries_from, entries_next, entries_none}

-- the entries from number k on, of which there are m
every_from : (p : Entry → Bool) (list : List ℕ) (m k : ℕ) → 4 * k + 4 * m ≤ length list → length list < 4 * k + 4 * m + 4
    → all_below m (λ j. p (entry_of (listed_at list (4 * (k + j))))) ≡ every p (entries_from list k)
unfolding all_below every
every_from p list zero k h l = rw (entries_none list k (omega (arith, l)))
every_from p list (suc m) k h l =
    let here : k + 0 ≡ k = omega arith in
    rw (all_first m (λ j. p (entry_of (listed_at list (4 * (k + j))))), entries_next list k (omega (arith, h)), here)
    (ap (λ b. p (entry_of (listed_at list (4 * k))) && b)
    (all_same m (λ j. p (entry_of (listed_at list (4 * (k + suc j))))) (λ j. p (entry_of (listed_at list (4 * (k + 1 + j))))) (λ j i. ap (λ n. p (entry_of (listed_at list (4 * n)))) (omega arith))
    ∙ every_from p list m (k + 1) (omega (arith, h)) (omega (arith, l))))

module _ (s list : List ℕ) where
  -- whole entries: the test of each
  pub named_whole : length list % 4 ≡ 0 → all_below (length list / 4) (λ k. entry_named s (entry_of (listed_at list (4 * k)))) ≡ fields_named s list
  unfolding fields_named entries_from
  named_whole h =
      all_same (length list / 4) (λ k. entry_named s (entry_of (listed_at list (4 * k)))) (λ k. entry_named s (entry_of (listed_at list (4 * (0 + k))))) (λ k l. ap (λ n. entry_named s (entry_of (listed_at list (4 * n)))) (omega arith))
      ∙ every_from (entry_named s) list (length list / 4) 0 (omega arith) (omega arith)
      ∙ rw (eq-eqb (length list % 4) 0 h)

  pub named_broken : (length list % 4 ≡ 0 → ⊥) → false ≡ fields_named s list
  unfolding fields_named
  named_broken h = rw (ne_eqb (length list % 4) 0 h)

  -- the entries from number k on are named
  unfoldable pub NamedFrom : ℕ → Type 0
  NamedFrom k = every (entry_named s) (entries_from list k) ≡ true

  pub named_all : fields_named s list ≡ true → NamedFrom 0
  unfolding NamedFrom fields_named entries_from
  named_all h = (and_parts (eqb (length list % 4) 0) (every (entry_named s) (list_entries list)) h).1

  named_parts : (k : ℕ) → NamedFrom k → 4 * k + 4 ≤ length list → (entry_named s (entry_of (listed_at list (4 * k))) ≡ true) × NamedFrom (k + 1)
  unfolding NamedFrom every
  named_parts k h l =
      and_parts (entry_named s (entry_of (listed_at list (4 * k)))) (every (entry_named s) (entries_from list (k + 1))) (rw (entries_next list k l) at h)

  pub named_next : (k : ℕ) → NamedFrom k → 4 * k + 4 ≤ length list → NamedFrom (k + 1)
  named_next k h l = (named_parts k h l).1

  pub named_low : (k : ℕ) (x : Listed) → NamedFrom k → 4 * k + 4 ≤ length list → x ≡ listed_at list (4 * k) → x.transaction < count s
  unfolding entry_named
  named_low k x h l e =
      let y = listed_at list (4 * k) in
      rw e (ltb-true y.transaction (count s) (and_parts (ltb y.transaction (count s)) (shares_to s y.transaction y.destination) (named_parts k h l).0).0)
