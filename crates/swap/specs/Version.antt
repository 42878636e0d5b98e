-- The version of the library, 2.0.0, as one number: "10,000 for each of the first, 100 for each of the second, and the third".
-- `include/swap.h` has it as SWAP_VERSION and SWAP_VERSION_NUMBER.
-- Assumes nothing.
use Rattle.std.specs.Prelude.{ℕ, ◌+◌, ◌*◌}

-- The number of a version by its three parts.
unfoldable pub version_number : ℕ → ℕ → ℕ → ℕ
version_number first second third = 10000 * first + 100 * second + third

-- "2.0.0"
unfoldable pub version : ℕ
version = version_number 2 0 0
