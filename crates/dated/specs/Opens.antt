-- When a transaction is open: document 02, Slip 9. Pool, block, deadline, conduct and stealth have no part.
-- Assumes nothing.
use Rattle.std.specs.Prelude.{ℕ, Bool, ◌&&◌, List, leb}
use Rattle.laws.specs.Booleans.{pick}
use Rattle.laws.specs.Below.{any_below}
use Rattle.sheet.specs.Field.{parties, party_at}
use Rattle.slots.specs.Destination.{contract, is_payee, is_contract}
use Rattle.slots.specs.Conflict.{no_conflict}
use Rattle.slots.specs.Ancestry.{has_parent}
use Rattle.slots.specs.Signatures.{signed}
use Rattle.position.specs.declared.Position.{Position}
use Rattle.position.specs.Position.{is_confirmed, sender_has, lock_height_in}

-- "signatures at hand for some party, for destination 2 or, in a paying one, for itself as a payee": for this party
unfoldable pub at_hand : List ℕ → Position → ℕ → ℕ → Bool
at_hand s p t party =
    pick (is_contract s t)
    (signed s (sender_has s p party t contract) t)
    (is_payee s t party && signed s (sender_has s p party t party) t)

-- "Open means: no rival confirmed, parent confirmed or none, lock reached, and signatures at hand for some party"
unfoldable pub opens : List ℕ → List ℕ → Position → ℕ → Bool
opens s u p t =
    no_conflict s (is_confirmed p) t
    && (has_parent s (is_confirmed p) t && (leb (lock_height_in s u p t) p.mined && any_below (parties s) (λ k. at_hand s p t (party_at k))))
