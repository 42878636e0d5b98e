-- Secrets in shared knowledge: they stay there, and a mined block adds those of its entries.
-- Assumes nothing.
use Rattle.laws.proofs.Prelude.{ℕ, zero, suc, ◌<◌, ◌≡◌, sym, ◌∙◌, true, List, length, arith, split, and_parts, bit_and_lem, union_bit, bit, union_below}
use Rattle.position.proofs.Rules.{count, secrets, Slot, destinations, standing, entry_to, shared_for, shared_any, with_pool, with_block, with_confirmed, with_shared}
use Rattle.position.proofs.Rules.{shared_secrets, exposed_mask, slot, in_block, block_to, shared, confirm_entry, leaves_pool, mine_slot, with_mined, after_mine}
use Rattle.position.specs.declared.Position.{Position}
use Rattle.slots.proofs.SharedBits.{shared_any_lem}
use Rattle.position.proofs.Changed.{all_slot}
use Rattle.step_laws.proofs.Provenance.{Moved}
use Rattle.attainable.specs.Attainable.{secrets_of}
use Rattle.attainable.proofs.Masks.{or_last}
use Rattle.claim_attainable.proofs.Shown.{secret_shown}
use Rattle.slack.proofs.Onward.{secrets_shown}

-- what is shared of each transaction stays so: the secrets do
pub secrets_by : (s : List ℕ) (p q : Position) (i : ℕ) → ((t d : ℕ) → t < count s → d < destinations → bit (shared p t d) i ≡ true → bit (shared q t d) i ≡ true)
    → bit (secrets_shown s p) i ≡ true → bit (secrets_shown s q) i ≡ true
unfolding shared_secrets shared
secrets_by s p q i kept h =
    let all = union_below (count s) (λ j. shared_any (slot p j)) in
    let w = and_parts (bit (secrets s) i) (bit all i) (sym (bit_and_lem (secrets s) all i) ∙ h) in
    let k = union_bit (count s) (λ j. shared_any (slot p j)) i w.1 in
    let z = shared_any_lem (slot p k.0) i k.2 in
    secret_shown s q k.0 z.0 i k.1 z.1 w.0 (kept k.0 z.0 k.1 z.1 z.2)

pub secrets_stay : (s u : List ℕ) (p q : Position) → Moved s u p q → (i : ℕ) → bit (secrets_shown s p) i ≡ true → bit (secrets_shown s q) i ≡ true
secrets_stay s u p q m i h = secrets_by s p q i (λ t d l n y. (m.slots t).kept d i n y) h

-- a mask added for a destination is shared for it
pub shared_has : (to m : ℕ) (x : Slot) (i : ℕ) → to < destinations → bit m i ≡ true → bit (shared_for (with_shared to m x) to) i ≡ true
unfolding shared_for with_shared
shared_has zero m x i l h = or_last x.alice m i h
shared_has (suc zero) m x i l h = or_last x.bob m i h
shared_has (suc (suc zero)) m x i l h = or_last x.contract m i h
shared_has (suc (suc (suc zero))) m x i l h = or_last x.carol m i h
shared_has (suc (suc (suc (suc to)))) m x i l h = absurd (omega arith)

slot_shows : (s : List ℕ) (p : Position) (t : ℕ) (x : Slot) (i : ℕ) → standing x.block ≡ true → entry_to x.block < destinations
    → bit (exposed_mask s t) i ≡ true → bit (shared_for (mine_slot s p t x) (entry_to x.block)) i ≡ true
unfolding mine_slot confirm_entry shared_for with_pool with_block with_confirmed
slot_shows s p t x i on l h =
    let w = shared_has (entry_to x.block) (exposed_mask s t) x i l h in
    split (leaves_pool s (in_block p) t) (λ y. rw (y, on) w) (λ y. rw (y, on) w)

pub block_shows : (s : List ℕ) (p : Position) (t i : ℕ) → t < count s → t < length p.slots → in_block p t ≡ true → block_to p t < destinations
    → bit (exposed_mask s t) i ≡ true → bit (shared (after_mine s p) t (block_to p t)) i ≡ true
unfolding shared in_block block_to after_mine with_mined slot
block_shows s p t i l m on to h = rw (all_slot s (mine_slot s p) p t l m) (slot_shows s p t (slot p t) i on to h)

pub mined_secrets : (s : List ℕ) (p : Position) (t : ℕ) → t < count s → t < length p.slots → in_block p t ≡ true → block_to p t < destinations
    → (i : ℕ) → bit (secrets_of s t) i ≡ true → bit (secrets_shown s (after_mine s p)) i ≡ true
unfolding secrets_of
mined_secrets s p t l m on to i h =
    let w = and_parts (bit (secrets s) i) (bit (exposed_mask s t) i) (sym (bit_and_lem (secrets s) (exposed_mask s t) i) ∙ h) in
    secret_shown s (after_mine s p) t (block_to p t) i l to w.0 (block_shows s p t i l m on to w.1)
