-- What right fields tell of a step of each kind, for the functions over steps.
-- Assumes nothing.
use Rattle.laws.proofs.Prelude.{ℕ, ◌≤◌, ◌<◌, ◌≡◌, true, ◌&&◌, List, eqb, ltb, eqb-true, ltb-true, arith, either, and_parts, or_parts}
use Rattle.sheet.specs.Field.{count, signatures}
use Rattle.slots.specs.declared.Destination.{Destination}
use Rattle.slots.specs.declared.Step.{Step}
use Rattle.slots.specs.declared.Step.TheVariants.{Share, Give, SendToPool, HandToMiner, Include, Bump}
use Rattle.slots.specs.Destination.{destination_number, is_party}
use Rattle.steps.specs.Decode.{no_transaction, shares_to, first_share_fields, fields_right}

module _ (s u : List ℕ) where
  module _ (party t : ℕ) (to : Destination) (x : Step) where
    pub share_listed : x ≡ Share party t to → fields_right s u x ≡ true → (t ≡ 255 → ⊥) → t < count s
    unfolding fields_right first_share_fields
    share_listed e h other =
        let w = and_parts (is_party s party) _ (rw e at h) in
        either (or_parts (ltb t (count s) && shares_to s t (destination_number to)) _ w.1)
        (λ y. ltb-true t (count s) (and_parts (ltb t (count s)) _ y).0)
        (λ y. absurd (other (eqb-true t no_transaction (and_parts (eqb t no_transaction) _ y).0)))

    pub give_listed : x ≡ Give party t to → signatures s ≤ 8 → fields_right s u x ≡ true → t < 8
    unfolding fields_right
    give_listed e few h =
        let w = and_parts (is_party s party) _ (rw e at h) in
        let i : t < signatures s = ltb-true t (signatures s) (and_parts (ltb t (signatures s)) _ w.1).0 in
        omega (arith, i, few)

    pub pool_listed : x ≡ SendToPool party t to → fields_right s u x ≡ true → t < count s
    unfolding fields_right
    pool_listed e h = ltb-true t (count s) (and_parts (ltb t (count s)) _ (and_parts (is_party s party) _ (rw e at h)).1).0

    pub miner_listed : x ≡ HandToMiner party t to → fields_right s u x ≡ true → t < count s
    unfolding fields_right
    miner_listed e h = ltb-true t (count s) (and_parts (ltb t (count s)) _ (and_parts (is_party s party) _ (rw e at h)).1).0

    pub include_listed : x ≡ Include party t to → fields_right s u x ≡ true → t < count s
    unfolding fields_right
    include_listed e h = ltb-true t (count s) (and_parts (ltb t (count s)) _ (and_parts (eqb party 2) _ (rw e at h)).1).0

    pub bump_listed : x ≡ Bump party t to → fields_right s u x ≡ true → t < count s
    unfolding fields_right
    bump_listed e h = ltb-true t (count s) (and_parts (ltb t (count s)) _ (and_parts (eqb party 2) _ (rw e at h)).1).0
