-- Entries that rise within the blocks, one behind the other.
-- Assumes nothing.
use Rattle.laws.proofs.Prelude.{◌≡◌, refl, Bool, true, false, ◌&&◌, and-false, List, [], ◌∷◌, ltb, leb, leb-true, eq-eqb, lt-ltb, le-ltb, arith, split, and_parts, every}
use Rattle.position.proofs.Rules.{Entry, before, in_order, block_limit}
use Rattle.call_blocks.specs.BlockList.{block_within, entries_rise}
use Rattle.call_blocks.specs.Forms.Listed.{nothing, entry_of}
use Rattle.call_blocks.proofs.Walk.{walk}

-- two of one block, by transaction
pub before_within : (a b : Entry) → a.block ≡ b.block → ltb a.transaction b.transaction ≡ before a b
unfolding before
before_within a b h = rw (le-ltb a.block b.block (omega arith), eq-eqb a.block b.block h)

-- e may stand behind the last one
abbrev pub behind : Entry → Entry → Bool
behind last e = block_within e && before last e

-- .. and is the last one then
abbrev pub latest : Entry → Entry → Entry
latest last e = e

four_ands : (a b c d : Bool) → ((a && b) && (c && d)) ≡ ((b && c) && (a && d))
four_ands true true c d = refl
four_ands true false c d = refl
four_ands false true true d = refl
four_ands false true false d = refl
four_ands false false c d = refl

rise_behind : (last : Entry) (l : List Entry) → walk behind latest l last ≡ (in_order (last ∷ l) && every block_within l)
unfolding walk in_order every
rise_behind last [] = refl
rise_behind last (e ∷ l) = rw (rise_behind e l) (four_ands (block_within e) (before last e) (in_order (e ∷ l)) (every block_within l))

-- an entry within the blocks stands behind none
first_behind : (e : Entry) → block_within e ≡ true → before (entry_of nothing) e ≡ true
unfolding before block_within
first_behind e h =
    let w = leb-true 1 e.block (and_parts (leb 1 e.block) (leb e.block block_limit) h).0 in
    rw (lt-ltb 0 e.block (omega (arith, w)))

pub rise_first : (l : List Entry) → walk behind latest l (entry_of nothing) ≡ entries_rise l
unfolding entries_rise walk in_order every
rise_first [] = refl
rise_first (e ∷ l) =
    split (block_within e)
    (λ y. rw (y, first_behind e y) (rise_behind e l))
    (λ y. rw y (rw (and-false (in_order (e ∷ l))) refl))
