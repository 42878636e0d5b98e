-- What can come without a party X: the transactions that the others and the miner can bring into a block while X takes no step, or none
-- but sends of a set U. The words in quotes are those of docs/DECISIONS.md, "What can come without a party".
-- Assumes nothing.
use Rattle.std.specs.Prelude.{ℕ, zero, suc, ◌<◌, ◌≡◌, Bool, true, not, ◌&&◌, ◌||◌, List, eqb, leb}
use Rattle.std.specs.Int.Bits.{bit_and, bit_or}
use Rattle.laws.specs.Booleans.{pick}
use Rattle.laws.specs.Below.{any_below}
use Rattle.laws.specs.Mask.{bit, union_below}
use Rattle.laws.specs.Sets.{set_below}
use Rattle.sheet.specs.Field.{parties, party_at, count, secrets}
use Rattle.sheet.specs.Setup.{stealth}
use Rattle.slots.specs.Destination.{alice, bob, destinations}
use Rattle.slots.specs.Slot.{shared_any}
use Rattle.slots.specs.Ancestry.{has_parent}
use Rattle.slots.specs.Invalidated.{invalidated}
use Rattle.slots.specs.Signatures.{shared_secrets, sender_mask, signed, exposed_mask}
use Rattle.position.specs.declared.Position.{Position}
use Rattle.position.specs.Position.{slot, in_pool, pool_to, in_block, block_to, is_confirmed, shared, keys, deadline_in}
use Rattle.position.specs.Conduct.{is_careful, safe_to_send}
use Rattle.steps.specs.Decode.{sends_to, shares_to}

-- "Gone: confirmed or dead."
unfoldable pub gone : List ℕ → Position → ℕ → Bool
gone s p t = is_confirmed p t || invalidated s (is_confirmed p) t

-- "The secrets of t: required(t) ∩ the sheet's secrets, none if t is veiled."
unfoldable pub secrets_of : List ℕ → ℕ → ℕ
secrets_of s t = bit_and (secrets s) (exposed_mask s t)

-- "keys of all the others": of each party but X
unfoldable pub other_keys : Position → ℕ → ℕ → ℕ
other_keys p x party = pick (eqb party x) 0 (keys p party)

unfoldable pub others_keys : List ℕ → Position → ℕ → ℕ
others_keys s p x = union_below (parties s) (λ k. other_keys p x (party_at k))

-- "known: the shared secrets and the secrets of the members", where a mask tells the members
unfoldable pub shown_by : List ℕ → ℕ → ℕ → ℕ
shown_by s members t = pick (bit members t) (secrets_of s t) 0

unfoldable pub known_from : List ℕ → Position → ℕ → ℕ
known_from s p members = bit_or (shared_secrets s (λ k. shared_any (slot p k))) (union_below (count s) (shown_by s members))

-- "without stealth, every transaction whose deadline is ≤ m", the blocks mined
unfoldable pub overdue : List ℕ → List ℕ → Position → ℕ → Bool
overdue s u p t = eqb (stealth u) 0 && leb (deadline_in s u p t) p.mined

-- "under careful conduct, X being Bob: refund_1 once success has a shared entry, refund_2 once Alice holds secretBob": what a careful Alice
-- no longer sends, by document 01's Conduct
unfoldable pub forgone : List ℕ → List ℕ → Position → ℕ → Bool
forgone s u p t = is_careful u && not (safe_to_send s p alice t)

-- "Never sent by the others": these, the second where X is Bob
unfoldable pub never_sent : List ℕ → List ℕ → Position → ℕ → ℕ → Bool
never_sent s u p x t = overdue s u p t || (eqb x bob && forgone s u p t)

-- "t in pool, block": for this destination
unfoldable pub waits_for : Position → ℕ → ℕ → Bool
waits_for p t d = (in_pool p t && eqb (pool_to p t) d) || (in_block p t && eqb (block_to p t) d)

-- "required(t) ⊆ keys of all the others ∪ known ∪ shared(t, d)", for a destination d of t "other than X"
unfoldable pub signable : List ℕ → Position → ℕ → ℕ → ℕ → ℕ → Bool
signable s p x members t d =
    shares_to s t d && (not (eqb d x) && signed s (sender_mask (others_keys s p x) (known_from s p members) (shared p t d)) t)

-- "t not gone; its parent none, confirmed or in the set; and t in pool, block or U, or not among those never sent with required(t) ⊆ ..":
-- for this destination, where a mask tells the set, and `also` tells U, which X sends
unfoldable pub comes : List ℕ → List ℕ → Position → ℕ → (ℕ → Bool) → ℕ → ℕ → ℕ → Bool
comes s u p x also members t d =
    not (gone s p t)
    && (has_parent s (λ k. is_confirmed p k || bit members k) t
    && (waits_for p t d || ((also t && sends_to s x t d) || (not (never_sent s u p x t) && signable s p x members t d))))

-- the transactions that come for some destination, where a mask tells the set so far
unfoldable pub grown : List ℕ → List ℕ → Position → ℕ → (ℕ → Bool) → ℕ → ℕ
grown s u p x also members = set_below (count s) (λ t. any_below destinations (comes s u p x also members t))

-- the empty set, grown so many times
unfoldable pub rounds : List ℕ → List ℕ → Position → ℕ → (ℕ → Bool) → ℕ → ℕ
rounds s u p x also zero = 0
rounds s u p x also (suc k) = grown s u p x also (rounds s u p x also k)

-- "What can come without X .., the least set": grown as often as there are transactions
unfoldable pub attainable : List ℕ → List ℕ → Position → ℕ → (ℕ → Bool) → ℕ
attainable s u p x also = rounds s u p x also (count s)

-- "those for which this holds with a destination other than X"
unfoldable pub attainable_elsewhere : List ℕ → List ℕ → Position → ℕ → (ℕ → Bool) → ℕ
attainable_elsewhere s u p x also =
    set_below (count s) (λ t. any_below destinations (λ d. not (eqb d x) && comes s u p x also (attainable s u p x also) t d))

-- whatever comes by the set is in it
abbrev pub Closed : List ℕ → List ℕ → Position → ℕ → (ℕ → Bool) → ℕ → Type 0
Closed s u p x also members =
    (t : ℕ) → t < count s → (d : ℕ) → d < destinations → comes s u p x also members t d ≡ true → bit members t ≡ true

-- the attainable set is closed, and it is within every closed one
pub record Least (s u : List ℕ) (p : Position) (x : ℕ) (also : ℕ → Bool) : Type 0 where
  pub closed : Closed s u p x also (attainable s u p x also)
  pub least : (members : ℕ) → Closed s u p x also members → (t : ℕ) → t < count s → bit (attainable s u p x also) t ≡ true → bit members t ≡ true
