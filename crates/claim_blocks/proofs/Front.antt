-- The front of a list that gets 0 gets 0.
-- Assumes nothing.
use Rattle.laws.proofs.Prelude.{ℕ, ◌%◌, ◌≡◌, refl, Bool, true, List, [], ◌∷◌, ◌++◌, eqb, length, eq-eqb, arith, and_parts, every}
use Rattle.position.proofs.Rules.{Entry, before, in_order, Kept, keep, enter}
use Rattle.ledger.proofs.Taking.{enter_next, enter_parts}
use Rattle.call_blocks.specs.BlockList.{list_entries, entry_named, fields_named, block_within, entries_rise}

-- whole entries, and the rest
pub entries_append : (a b : List ℕ) → length a % 4 ≡ 0 → list_entries (a ++ b) ≡ list_entries a ++ list_entries b
unfolding list_entries
entries_append [] b h = refl
entries_append (t ∷ []) b h = absurd (omega arith)
entries_append (t ∷ d ∷ []) b h = absurd (omega arith)
entries_append (t ∷ d ∷ x ∷ []) b h = absurd (omega arith)
entries_append (t ∷ d ∷ x ∷ y ∷ a) b h = rw (entries_append a b (omega arith))

every_front : {A : Type 0} (p : A → Bool) (a b : List A) → every p (a ++ b) ≡ true → every p a ≡ true
unfolding every
every_front p [] b h = refl
every_front p (x ∷ a) b h = let w = and_parts (p x) (every p (a ++ b)) h in rw w.0 (every_front p a b w.1)

order_front : (a b : List Entry) → in_order (a ++ b) ≡ true → in_order a ≡ true
unfolding in_order
order_front [] b h = refl
order_front (x ∷ []) b h = refl
order_front (x ∷ y ∷ a) b h = let w = and_parts (before x y) (in_order (y ∷ (a ++ b))) h in rw w.0 (order_front (y ∷ a) b w.1)

pub rise_front : (a b : List Entry) → entries_rise (a ++ b) ≡ true → entries_rise a ≡ true
unfolding entries_rise
rise_front a b h =
    let w = and_parts (in_order (a ++ b)) (every block_within (a ++ b)) h in
    rw (order_front a b w.0, every_front block_within a b w.1)

pub named_front : (s a b : List ℕ) → length a % 4 ≡ 0 → fields_named s (a ++ b) ≡ true → fields_named s a ≡ true
unfolding fields_named
named_front s a b z h =
    let w = and_parts (eqb (length (a ++ b) % 4) 0) (every (entry_named s) (list_entries (a ++ b))) h in
    rw (eq-eqb (length a % 4) 0 z) (every_front (entry_named s) (list_entries a) (list_entries b) (rw (entries_append a b z) at w.1))

pub taken_front : (s : List ℕ) (per_day : ℕ) (a b : List Entry) (kept : Kept) → (enter s per_day (a ++ b) kept).accepts ≡ true → (enter s per_day a kept).accepts ≡ true
unfolding enter
taken_front s per_day [] b kept h = refl
taken_front s per_day (e ∷ a) b kept h =
    let w = enter_parts s per_day e (a ++ b) kept h in
    rw (enter_next s per_day e a kept w.0) (taken_front s per_day a b (keep s e kept) w.1)
