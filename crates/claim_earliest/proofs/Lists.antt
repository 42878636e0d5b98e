-- Accepted block lists: none confirms a transaction before its earliest block, one that confirms a mask's shows it possible, and a possible plan is one.
-- Assumes nothing.
use Rattle.laws.proofs.Prelude.{ℕ, ◌≤◌, ◌<◌, ◌≡◌, refl, sym, true, List, ◌⊎◌, inl, inr, ltb, ltb-true, ltb-false, eq-eqb, arith, some, get_elem?, split, either, clash}
use Rattle.laws.proofs.Prelude.{All, all_weaken, bit}
use Rattle.position.proofs.Rules.{accepted, count, parent, payees, sheet_refusal, per_day, setup_refusal, Checked, contract, is_contract, Entry, in_order, ledger, shares_to}
use Rattle.position.proofs.Rules.{block_limit}
use Rattle.sheet.proofs.Theorems.{sheet_checked}
use Rattle.slots.proofs.Ancestors.{Above, here, up}
use Rattle.call_blocks.specs.BlockList.{list_entries, list_bytes, blocks_refusal}
use Rattle.claim_blocks.proofs.Confirmed.{Fine}
use Rattle.claim_blocks.proofs.Entering.{right_taken}
use Rattle.claim_blocks.proofs.Accepted.{named_low, rise_parts, accepted_tests, fine_list}
use Rattle.endings.specs.Earliest.{earliest}
use Rattle.endings.specs.Plan.{planned, plan_entry, plan}
use Rattle.claim_earliest.proofs.Possible.{Possible, Confirms}
use Rattle.claim_earliest.proofs.Lowest
use Rattle.claim_blocks.proofs.Places.{all_member, rising_order}
use Rattle.claim_earliest.proofs.Plans.{InPlan, in_plan, plan_for, plan_rises, plan_right}
use Rattle.claim_earliest.proofs.Ended.{shown_possible}

-- A possible plan is in order and taken by the ledger.
module _ (s : List ℕ) (per_day : ℕ) (ok : Checked s) (mask : ℕ) (to : ℕ → ℕ) (limit : ℕ) where
  plan_low : All (λ e. e.transaction < count s) (plan s per_day mask to limit)
  plan_low = all_member (plan s per_day mask to limit) (λ e m. (in_plan s ok per_day mask to limit e m).low)

  pub plan_ordered : in_order (plan s per_day mask to limit) ≡ true
  plan_ordered = rising_order (plan s per_day mask to limit) (plan_rises s ok per_day mask to limit)

  pub plan_taken : Possible s per_day mask limit → (ledger s per_day (plan s per_day mask to limit)).accepts ≡ true
  plan_taken can = right_taken s per_day ok (plan s per_day mask to limit) plan_low (plan_right s ok per_day mask to limit can)

-- an ancestor has a child, so it goes to the contract
has_child_lem : {s : List ℕ} {t x : ℕ} → Above s t x → x < count s → (t ≡ x) ⊎ ((c : ℕ) × (c < count s) × (parent s c ≡ t))
has_child_lem here l = inl refl
has_child_lem (up {t = x} m r) l = either (has_child_lem r (omega arith)) (λ e. inr (x, l, sym e)) inr

to_contract : {s : List ℕ} → Checked s → (t c : ℕ) → t < count s → c < count s → parent s c ≡ t → shares_to s t contract ≡ true
unfolding shares_to is_contract
to_contract {s} ok t c l m e =
    let z : payees s t ≡ 0 = split (ltb 0 (payees s t)) (λ y. absurd ((ok.entries t l).paying_childless (ltb-true 0 (payees s t) y) c m e)) (λ y. omega (arith, ltb-false 0 (payees s t) y)) in
    rw (eq-eqb (payees s t) 0 z)

-- what an accepted list is known to have
record Took (s u list : List ℕ) : Type 0 where
  pub low : All (λ e. e.transaction < count s) (list_entries list)
  pub order : in_order (list_entries list) ≡ true
  pub few : All (λ e. e.block ≤ block_limit) (list_entries list)
  pub takes : (ledger s (per_day u) (list_entries list)).accepts ≡ true

module _ (s u : List ℕ) (h : sheet_refusal s ≡ accepted) (k : setup_refusal s u ≡ accepted) where
  took : (list : List ℕ) → blocks_refusal s u list ≡ accepted → Took s u list
  took list z =
      let w = accepted_tests s u h k list z in
      let v = rise_parts (list_entries list) w.1 in
      record { low = named_low s list w.0; order = v.0; few = all_weaken (λ e y. y.1) v.1; takes = w.2 }

  -- "No list accepted there may confirm one of them earlier."
  pub accepted_none_earlier : (list : List ℕ) → blocks_refusal s u list ≡ accepted → (j : ℕ) (f : Entry) → get_elem? (list_entries list) j ≡ some f → earliest s (per_day u) f.transaction ≤ f.block
  accepted_none_earlier list z =
      let w = took list z in Lowest.none_earlier s (per_day u) (sheet_checked s h) (list_entries list) w.low w.order w.takes

  module _ (mask : ℕ) where
    -- "34 when no accepted list confirms all of them so .. and given in no other case": a mask of paying ones that an accepted list confirms is possible ..
    pub confirmed_possible : ((x : ℕ) → x < count s → bit mask x ≡ true → 1 ≤ payees s x) → (list : List ℕ) → blocks_refusal s u list ≡ accepted → Confirms s mask (list_entries list)
        → Possible s (per_day u) mask block_limit
    confirmed_possible pay list z c =
        let w = took list z in shown_possible s (per_day u) (sheet_checked s h) (list_entries list) w.low w.order w.takes mask block_limit w.few pay c

    module _ (to : ℕ → ℕ) (right : (x : ℕ) → x < count s → bit mask x ≡ true → shares_to s x (to x) ≡ true) where
      plan_to : (t : ℕ) → t < count s → planned s mask t ≡ true → shares_to s t (plan_entry s (per_day u) mask to t).destination ≡ true
      unfolding plan_entry
      plan_to t l p =
          split (bit mask t)
          (λ y. rw y (right t l y))
          (λ y.
          rw y
          (let w = plan_for s (sheet_checked s h) mask t p in
          either (has_child_lem w.3 w.1) (λ e. clash w.2 (rw e at y)) (λ c. to_contract (sheet_checked s h) t c.0 l c.1 c.2)))

      plan_fine : (e : Entry) → InPlan s (sheet_checked s h) (per_day u) mask to block_limit e → Fine s e
      unfolding plan_entry
      plan_fine e p =
          record {
            low = p.low;
            to = rw p.is (plan_to e.transaction p.low p.for);
            some = rw p.block (Lowest.earliest_some s (per_day u) (sheet_checked s h) e.transaction p.low);
            few = p.few;
          }

      -- .. and the plan of a possible mask gets 0.
      pub plan_accepted : Possible s (per_day u) mask block_limit → blocks_refusal s u (list_bytes (plan s (per_day u) mask to block_limit)) ≡ accepted
      plan_accepted can =
          fine_list s u h k (plan s (per_day u) mask to block_limit)
          (all_member (plan s (per_day u) mask to block_limit) (λ e m. plan_fine e (in_plan s (sheet_checked s h) (per_day u) mask to block_limit e m)))
          (plan_ordered s (per_day u) (sheet_checked s h) mask to block_limit)
          (plan_taken s (per_day u) (sheet_checked s h) mask to block_limit can)
