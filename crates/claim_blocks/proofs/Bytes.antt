-- A block list written and read back.
-- Assumes nothing.
use Rattle.laws.proofs.Prelude.{◌%◌, ◌<◌, ◌≡◌, refl, Bool, true, List, [], ◌∷◌, length, arith, and_parts, All, empty, also, every, bytes_of}
use Rattle.position.proofs.Rules.{Entry}
use Rattle.laws.proofs.Little.{number_back}
use Rattle.call_blocks.specs.BlockList.{list_entries, entry_bytes, list_bytes}
use Rattle.call_blocks.proofs.Lengths.{length_list}

pub read_back : {l : List Entry} → All (λ e. e.block < 65536) l → list_entries (list_bytes l) ≡ l
unfolding list_entries entry_bytes list_bytes bytes_of
read_back empty = refl
read_back (also {x = e} {l = l} h r) = rw (number_back 2 e.block h, read_back r)

pub whole_entries : (l : List Entry) → length (list_bytes l) % 4 ≡ 0
whole_entries l = omega (arith, length_list l)

pub all_every : {A : Type 0} (p : A → Bool) {l : List A} → All (λ x. p x ≡ true) l → every p l ≡ true
unfolding every
all_every p empty = refl
all_every p (also h r) = rw (h, all_every p r)

pub every_all : {A : Type 0} (p : A → Bool) (l : List A) → every p l ≡ true → All (λ x. p x ≡ true) l
unfolding every
every_all p [] h = empty
every_all p (x ∷ l) h = let w = and_parts (p x) (every p l) h in also w.0 (every_all p l w.1)
