-- Signatures as bit masks: what a sender has, what a share and a send make known.
-- Assumes nothing.
use Rattle.std.specs.Prelude.{ℕ, Bool, List, eqb}
use Rattle.std.specs.Int.Bits.{bit_and, bit_or}
use Rattle.laws.specs.Booleans.{pick}
use Rattle.laws.specs.Mask.{subset, without, union_below}
use Rattle.sheet.specs.Field.{count, signatures, secrets, required, veil}

-- "every secret in shared knowledge", where `shared k` is what is shared of transaction k
unfoldable pub shared_secrets : List ℕ → (ℕ → ℕ) → ℕ
shared_secrets s shared = bit_and (secrets s) (union_below (count s) shared)

-- "A sender has: keys held, every secret in shared knowledge, and signatures shared for the same transaction and destination."
unfoldable pub sender_mask : ℕ → ℕ → ℕ → ℕ
sender_mask held sharedSecret shared = bit_or held (bit_or sharedSecret shared)

-- 16: for each signature, where t needs it, it is at hand
unfoldable pub signed : List ℕ → ℕ → ℕ → Bool
signed s have t = subset (signatures s) (required s t) have

-- "the party's held, required, non-secret signatures on that transaction"
unfoldable pub share_mask : List ℕ → ℕ → ℕ → ℕ
share_mask s held t = without (bit_and held (required s t)) (secrets s)

-- "Its required signatures become shared, none if veiled."
unfoldable pub exposed_mask : List ℕ → ℕ → ℕ
exposed_mask s t = pick (eqb (veil s t) 1) 0 (required s t)
