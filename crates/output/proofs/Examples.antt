-- Some open steps and a row, written out.
-- Assumes nothing.
use Rattle.laws.proofs.Prelude.{ℕ, ◌≡◌, refl, List, [], ◌∷◌, gather, bit, bytes_of, sum_below, bits_below}
use Rattle.output.specs.Forms.Emitted.{emitted, emitted_at, opens_below, opens_last, below_bytes, last_bytes, kind_bytes, actor_bytes, open_count}
use Rattle.output.specs.Forms.Row.{row_bytes}

-- kind 1 on transaction 31 for Bob and on 0 for the contract, kind 2 on 3 for Alice; byte 255: kind 1 for Alice and kind 6 for Alice
sets : List ℕ
sets = 0 ∷ 2147483648 ∷ 1 ∷ 0 ∷ 8 ∷ []

listed : actor_bytes sets 1048577 1
    ≡ 1 ∷ 1 ∷ 0 ∷ 2 ∷ 1 ∷ 1 ∷ 31 ∷ 1 ∷ 1 ∷ 1 ∷ 255 ∷ 0 ∷ 2 ∷ 1 ∷ 3 ∷ 0 ∷ 6 ∷ 1 ∷ 255 ∷ 0 ∷ []
unfolding sets actor_bytes kind_bytes below_bytes last_bytes opens_below opens_last emitted_at emitted gather bit
listed = refl

counted : open_count sets 1048577 ≡ 5
unfolding sets open_count sum_below bits_below bit
counted = refl

row : row_bytes 4 2 258 65536 4294967295 7
    ≡ 4 ∷ 2 ∷ 2 ∷ 1 ∷ 0 ∷ 0 ∷ 0 ∷ 0 ∷ 1 ∷ 0 ∷ 255 ∷ 255 ∷ 255 ∷ 255 ∷ 7 ∷ 0 ∷ 0 ∷ 0 ∷ []
unfolding row_bytes bytes_of
row = refl
