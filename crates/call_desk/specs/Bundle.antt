-- A bundle: "one count byte (0 to 64), then two parallel arrays of 4-byte setups and 4-byte journal lengths, then the journals end to
-- end". Its swaps are numbered from 0.
-- Assumes nothing.
use Rattle.std.specs.Prelude.{ℕ, ◌+◌, ◌-◌, ◌*◌, Bool, ◌&&◌, List, eqb, leb, length, take, drop}
use Rattle.laws.specs.Little.{number_at}
use Rattle.laws.specs.Sum.{sum_below}
use Rattle.sheet.specs.Field.{byte}

-- "one count byte": the number of swaps
unfoldable pub swaps : List ℕ → ℕ
swaps b = byte b 0

-- "two parallel arrays of 4-byte setups": that of swap i
unfoldable pub setup_of : List ℕ → ℕ → List ℕ
setup_of b i = take 4 (drop (1 + 4 * i) b)

-- "and 4-byte journal lengths": that of swap i
unfoldable pub length_of : List ℕ → ℕ → ℕ
length_of b i = number_at 4 b (1 + 4 * swaps b + 4 * i)

-- "then the journals": where the first one starts
unfoldable pub journals : List ℕ → ℕ
journals b = 1 + 8 * swaps b

-- "end to end": where that of swap i starts, after those of the swaps before it
unfoldable pub start_of : List ℕ → ℕ → ℕ
start_of b i = journals b + sum_below i (length_of b)

-- the journal of swap i
unfoldable pub journal_of : List ℕ → ℕ → List ℕ
journal_of b i = take (length_of b i) (drop (start_of b i) b)

-- "the lengths" add up "to the bytes that follow"
unfoldable pub adds_up : List ℕ → Bool
adds_up b = eqb (sum_below (swaps b) (length_of b)) (length b - journals b)

-- 28 "when the bundle is empty or too short for its arrays, the count is above 64, or the lengths don't add up to the bytes that follow"
unfoldable pub bundle_right : List ℕ → Bool
bundle_right b = leb 1 (length b) && (leb (journals b) (length b) && (leb (swaps b) 64 && adds_up b))
