-- The slip's own words, of a list whose entries rise, come to what the ledger asks.
-- Assumes nothing.
use Rattle.laws.proofs.Prelude.{ℕ, ◌≤◌, ◌<◌, ◌≡◌, true, false, List, inl, inr, ltb, ltb-true, ltb-false, arith, some, get_elem?, split, All, all_place}
use Rattle.position.proofs.Rules.{count, parent, lock_type, opening, Checked, Entry, before, in_order, lock_from}
use Rattle.slots.proofs.Parents.{parent_lower}
use Rattle.ledger.proofs.Rising.{blocks_rise}
use Rattle.call_blocks.proofs.Keeping.{lock_opening, lock_spend}
use Rattle.claim_blocks.specs.Words
use Rattle.claim_blocks.specs.Words.{Before, ParentBlock, Based, AllRight}
use Rattle.claim_blocks.proofs.Places.{order_rising, before_block, place_before}
use Rattle.claim_blocks.proofs.Standing
use Rattle.claim_blocks.proofs.Standing.{Founded, AllFitting}
use Rattle.ledger.proofs.Rising.{before_number}

-- a lock since the parent is above the parent's block
since_above : (s : List ℕ) (per_day p t : ℕ) → lock_type s t ≡ 2 → p ≤ lock_from s per_day p t
unfolding lock_from
since_above s per_day p t e = rw e (omega arith)

module _ (s : List ℕ) (per_day : ℕ) (ok : Checked s) (l : List Entry) (low : All (λ e. e.transaction < count s) l) (some_block : All (λ e. 1 ≤ e.block) l) (rise : in_order l ≡ true) where
  module _ (j : ℕ) (f : Entry) (k : get_elem? l j ≡ some f) where
    parent_block : (e : Entry) → e.block ≤ f.block → lock_from s per_day e.block f.transaction < f.block → ParentBlock s e f
    parent_block e h b =
        split (ltb e.block f.block)
        (λ y. inl (ltb-true e.block f.block y))
        (λ y.
        let m = ltb-false e.block f.block y in
        inr (omega arith, λ z. omega (arith, since_above s per_day e.block f.transaction z)))

    founded_based : Founded s per_day (Before l j) f → Based s per_day l f
    founded_based (Standing.opens o b) =
        Words.opens o (rw (lock_opening s per_day ok f.transaction (all_place low j f k) o) (omega arith))
    founded_based (Standing.spends e m o p b) =
        Words.spends e (m.place, m.stands) o p
        (parent_block e (blocks_rise l rise m.place j e f m.earlier m.stands k) b)
        (rw (lock_spend s per_day ok f.transaction e.block (all_place some_block m.place e m.stands)) (omega arith))

    parent_before : (e : Entry) → opening s f.transaction ≡ false → e.transaction ≡ parent s f.transaction → ParentBlock s e f → before e f ≡ true
    parent_before e o p (inl h) = before_block e f h
    parent_before e o p (inr h) =
        before_number e f (omega (arith, h.0)) (rw p (parent_lower ok f.transaction (all_place low j f k) o))

    based_founded : Based s per_day l f → Founded s per_day (Before l j) f
    based_founded (Words.opens o b) =
        let z = all_place some_block j f k in
        let c = rw (lock_opening s per_day ok f.transaction (all_place low j f k) o) at b in
        Standing.opens o (omega arith)
    based_founded (Words.spends e m o p h b) =
        let z = all_place some_block j f k in
        let c = rw (lock_spend s per_day ok f.transaction e.block (all_place some_block m.0 e m.1)) at b in
        Standing.spends e
        (record { place = m.0; earlier = place_before l (order_rising l rise) m.0 j e f m.1 k (parent_before e o p h); stands = m.1 })
        o p (omega arith)

  pub fitting_right : AllFitting s per_day l → AllRight s per_day l
  fitting_right a j f k = record { based = founded_based j f k (a j f k).based; alone = (a j f k).alone }

  pub right_fitting : AllRight s per_day l → AllFitting s per_day l
  right_fitting a j f k = record { based = based_founded j f k (a j f k).based; alone = (a j f k).alone }
