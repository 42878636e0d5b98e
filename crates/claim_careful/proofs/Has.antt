-- Where a signature that a sender has comes from: held, shared for the same transaction and destination, or a secret shared anywhere.
-- Assumes nothing.
use Rattle.laws.proofs.Prelude.{ℕ, ◌<◌, ◌≡◌, sym, ◌∙◌, true, List, bit_and, bit_or, either, and_parts, bit, union_below, bit_and_lem, or_bit, union_bit}
use Rattle.position.proofs.Rules.{count, secrets, destinations, shared_any, shared_secrets, sender_mask, slot, shared, keys, holds, sender_has}
use Rattle.position.specs.declared.Position.{Position}
use Rattle.slots.proofs.SharedBits.{shared_any_lem}

-- signature i is shared somewhere
abbrev pub SharedSomewhere : Position → ℕ → Type 0
SharedSomewhere p i = (t : ℕ) × (e : ℕ) × (e < destinations) × (bit (shared p t e) i ≡ true)

pub somewhere : (p : Position) (t i : ℕ) → bit (shared_any (slot p t)) i ≡ true → SharedSomewhere p i
unfolding shared
somewhere p t i h = let w = shared_any_lem (slot p t) i h in (t, w.0, w.1, w.2)

pub data Has (s : List ℕ) (p : Position) (party t e i : ℕ) : Type 0 where
  held : holds p party i ≡ true → Has s p party t e i
  shown : bit (shared p t e) i ≡ true → Has s p party t e i
  secret : bit (secrets s) i ≡ true → SharedSomewhere p i → Has s p party t e i

pub has_by : (s : List ℕ) (p : Position) (party t e i : ℕ) → bit (sender_has s p party t e) i ≡ true → Has s p party t e i
unfolding sender_has sender_mask shared_secrets holds
has_by s p party t e i h =
    let all = union_below (count s) (λ k. shared_any (slot p k)) in
    either (or_bit (keys p party) (bit_or (bit_and (secrets s) all) (shared p t e)) i h)
    held
    (λ y.
    either (or_bit (bit_and (secrets s) all) (shared p t e) i y)
    (λ z.
    let w = and_parts (bit (secrets s) i) (bit all i) (sym (bit_and_lem (secrets s) all i) ∙ z) in
    let k = union_bit (count s) (λ j. shared_any (slot p j)) i w.1 in
    secret w.0 (somewhere p k.0 i k.2))
    shown)
