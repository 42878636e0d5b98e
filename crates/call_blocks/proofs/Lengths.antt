-- "A list has 4 bytes for each entry".
-- Assumes nothing.
use Rattle.laws.proofs.Prelude.{◌*◌, ◌≡◌, refl, List, [], ◌∷◌, length, length-append, arith, length_bytes}
use Rattle.position.proofs.Rules.{Entry}
use Rattle.call_blocks.specs.BlockList.{entry_bytes, list_bytes}

pub length_entry : (e : Entry) → length (entry_bytes e) ≡ 4
unfolding entry_bytes
length_entry e = simp length_bytes

pub length_list : (l : List Entry) → length (list_bytes l) ≡ 4 * length l
unfolding list_bytes
length_list [] = refl
length_list (e ∷ l) = omega (arith, length-append (entry_bytes e) (list_bytes l), length_entry e, length_list l)
