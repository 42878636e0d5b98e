-- Entries in order: no entry has a lower block than an earlier one.
-- Assumes nothing.
use Rattle.laws.proofs.Prelude.{ℕ, zero, suc, ◌≤◌, ◌<◌, ◌≡◌, refl, true, ◌&&◌, List, [], ◌∷◌, eqb, ltb, eqb-true, ltb-true, ltb-false, eq-eqb, lt-ltb, arith, some}
use Rattle.laws.proofs.Prelude.{get_elem?, split, either, and_parts, or_parts, All, empty, also, all_weaken, none_some, some_same, all_place}
use Rattle.ledger.specs.Entry.{Entry, before, in_order}

-- an entry before another is in no later block, and one of a lower number in no later block is before it
pub before_le : (a b : Entry) → before a b ≡ true → a.block ≤ b.block
unfolding before
before_le a b h =
    either (or_parts (ltb a.block b.block) (eqb a.block b.block && ltb a.transaction b.transaction) h)
    (λ y. omega (arith, ltb-true a.block b.block y))
    (λ y.
    let e = eqb-true a.block b.block (and_parts (eqb a.block b.block) (ltb a.transaction b.transaction) y).0 in
    omega arith)

pub before_number : (a b : Entry) → a.block ≤ b.block → a.transaction < b.transaction → before a b ≡ true
unfolding before
before_number a b h k =
    split (ltb a.block b.block)
    (λ y. rw y)
    (λ y. rw (y, eq-eqb a.block b.block (omega (arith, ltb-false a.block b.block y)), lt-ltb a.transaction b.transaction k))

order_rest : (a : Entry) (l : List Entry) → in_order (a ∷ l) ≡ true → in_order l ≡ true
unfolding in_order
order_rest a [] h = refl
order_rest a (b ∷ l) h = (and_parts (before a b) (in_order (b ∷ l)) h).1

above_first : (a : Entry) (l : List Entry) → in_order (a ∷ l) ≡ true → All (λ e. a.block ≤ e.block) l
unfolding in_order
above_first a [] h = empty
above_first a (b ∷ l) h =
    let w = and_parts (before a b) (in_order (b ∷ l)) h in
    let m = before_le a b w.0 in
    also m (all_weaken (λ e n. omega arith) (above_first b l w.1))

pub blocks_rise : (l : List Entry) → in_order l ≡ true → (i j : ℕ) (e f : Entry) → i < j → get_elem? l i ≡ some e → get_elem? l j ≡ some f → e.block ≤ f.block
blocks_rise [] o i j e f b k m = none_some k
blocks_rise (a ∷ l) o zero zero e f b k m = absurd (omega arith)
blocks_rise (a ∷ l) o zero (suc j) e f b k m = rw (some_same k) at (all_place (above_first a l o) j f m)
blocks_rise (a ∷ l) o (suc i) zero e f b k m = absurd (omega arith)
blocks_rise (a ∷ l) o (suc i) (suc j) e f b k m = blocks_rise l (order_rest a l o) i j e f (omega arith) k m
