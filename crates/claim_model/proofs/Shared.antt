-- What is in shared knowledge: a signature shared for a transaction, and what a sender has by it.
-- Assumes nothing.
use Rattle.laws.proofs.Prelude.{ℕ, zero, suc, ◌<◌, ◌≡◌, refl, ◌∙◌, true, false, ◌||◌, List, eqb, arith, bit_and, bit_or, or_right, all_below, any_below, any_found, any_some}
use Rattle.laws.proofs.Prelude.{all_at, bit_or_lem, bit_and_lem, no_bit, bit, subset, union_below}
use Rattle.position.proofs.Rules.{count, secrets, required, saswap, saswap_at, per_day, contract, destinations, shared_secrets, sender_mask, signed, shared_for, shared_any}
use Rattle.position.proofs.Rules.{sig_alice, sig_bob, secret_alice, secret_bob, spend_b, slot, shared, keys, holds, sender_has}
use Rattle.position.specs.declared.Position.{Position}
use Rattle.position.proofs.Opened.{opened}
use Rattle.claim_careful.specs.Claim.{in_shared}
use Rattle.claim_careful.proofs.Has.{SharedSomewhere, somewhere}
use Rattle.claim_careful.proofs.Setting.{sheet}
use Rattle.claim_careful.proofs.Table.{fifteen}
use Rattle.claim_careful.proofs.Invariant.{Shows}

-- a bit of a union is a bit of some member
pub union_any : (n : ℕ) (f : ℕ → ℕ) (i : ℕ) → bit (union_below n f) i ≡ any_below n (λ k. bit (f k) i)
unfolding union_below any_below
union_any zero f i = no_bit i
union_any (suc n) f i = bit_or_lem (union_below n f) (f n) i ∙ rw (union_any n f i)

-- a signature shared for the contract is in shared knowledge
pub shown_in_lem : (u : List ℕ) (p : Position) (t i : ℕ) → t < 15 → Shows p t i → in_shared (sheet u) p i ≡ true
unfolding in_shared shared_any shared
shown_in_lem u p t i l h =
    rw (fifteen (per_day u))
    (any_found 15 t (λ k. bit (shared_any (slot p k)) i) l
    (union_any destinations (shared_for (slot p t)) i ∙ any_found destinations contract (λ e. bit (shared_for (slot p t) e) i) (omega arith) h))

-- a sender has what it holds, and every secret in shared knowledge
pub held_has : (s : List ℕ) (p : Position) (party t e i : ℕ) → holds p party i ≡ true → bit (sender_has s p party t e) i ≡ true
unfolding sender_has sender_mask holds
held_has s p party t e i h = rw (bit_or_lem, h)

pub shared_has : (s : List ℕ) (p : Position) (party t e i : ℕ) → bit (secrets s) i ≡ true → in_shared s p i ≡ true → bit (sender_has s p party t e) i ≡ true
unfolding sender_has sender_mask shared_secrets in_shared
shared_has s p party t e i n h =
    let all = union_below (count s) (λ k. shared_any (slot p k)) in
    let w : bit (bit_and (secrets s) all) i ≡ true = bit_and_lem (secrets s) all i ∙ rw (n, union_any (count s) (λ k. shared_any (slot p k)) i, h) in
    bit_or_lem (keys p party) (bit_or (bit_and (secrets s) all) (shared p t e)) i
    ∙ or_right (bit (keys p party) i) _ (bit_or_lem (bit_and (secrets s) all) (shared p t e) i ∙ rw w)

-- spend_B needs both secrets, and nothing else
needed : (d : ℕ)
    → (bit (required (saswap d) spend_b) sig_alice ≡ false)
    × (bit (required (saswap d) spend_b) sig_bob ≡ false)
    × (bit (required (saswap d) spend_b) secret_alice ≡ true)
    × (bit (required (saswap d) spend_b) secret_bob ≡ true)
unfolding opened
needed d = (refl, refl, refl, refl)

pub signs_spend_b : (d have : ℕ) → bit have secret_alice ≡ true → bit have secret_bob ≡ true → signed (saswap d) have spend_b ≡ true
unfolding signed subset all_below saswap saswap_at
signs_spend_b d have a b = let n = needed d in rw (n.0, n.1, n.2, n.3, a, b)

-- a mask of four signatures that is not empty has one of them
pub some_bit : (m : ℕ) → m < 16 → eqb m 0 ≡ false → (i : ℕ) × (bit m i ≡ true)
unfolding all_below any_below bit
some_bit m l h =
    let w = any_some 4 (bit m) (rw h at (all_at 16 (λ k. eqb k 0 || any_below 4 (bit k)) refl m l)) in
    (w.0, w.2)

-- what is in shared knowledge is shared somewhere
pub shared_shown : (s : List ℕ) (p : Position) (i : ℕ) → in_shared s p i ≡ true → SharedSomewhere p i
unfolding in_shared
shared_shown s p i h = let w = any_some (count s) (λ t. bit (shared_any (slot p t)) i) h in somewhere p w.0 i w.2
