-- The plan of a mask that is possible: its entries rise, and each may stand where it does.
-- Assumes nothing.
use Rattle.laws.proofs.Prelude.{ℕ, ◌+◌, ◌≤◌, ◌<◌, ◌≡◌, refl, sym, ap, ◌∙◌, true, false, ◌&&◌, List, eqb, eqb-true, eq-eqb, arith, List-as-Memᴰ, List·Memᴰ·head}
use Rattle.laws.proofs.Prelude.{List·Memᴰ·not-nil, some, get_elem?, split, either, and_parts, fails_by, any_found, any_some, gather, bit}
use Rattle.position.proofs.Rules.{count, parent, opening, Checked, conflict, is_self_or_ancestor, Entry, before, coin_of}
use mathlib.Core.List.Memᴰ
use Rattle.laws.specs.Members.{Rising, gather_member, member_gather, rising_gather}
use Rattle.slots.proofs.Parents.{parent_lower, parent_below, parent_has}
use Rattle.slots.proofs.Conflicts.{conflict_parts, same_opening}
use Rattle.slots.proofs.Ancestors.{Above, here, up, above_all, ancestor_above, above_ancestor, line_conflict}
use Rattle.readings.proofs.Coins.{coin_spend, coin_line}
use Rattle.claim_blocks.specs.Words.{Before}
use Rattle.claim_blocks.proofs.Standing.{Founded, opens, spends, AllFitting}
use Rattle.endings.specs.Earliest.{earliest}
use Rattle.endings.specs.Plan.{planned, plan_entry, plan_at, plan}
use Rattle.claim_earliest.proofs.Possible.{Possible}
use Rattle.claim_earliest.proofs.Lowest.{opening_lock, earliest_opening, earliest_spend, from_above, from_lock}
use Rattle.claim_blocks.proofs.Places.{place_member, member_place, rising_places, before_block, before_once, place_before}
use Rattle.ledger.proofs.Rising.{before_number}

module _ (s : List ℕ) (ok : Checked s) where
  -- none of a line is later than what is below it
  pub earliest_line : (per_day : ℕ) {x t : ℕ} → Above s x t → t < count s → earliest s per_day x ≤ earliest s per_day t
  earliest_line per_day here l = omega arith
  earliest_line per_day (up {t = t} h r) l =
      rw (earliest_spend s per_day ok t l (parent_has ok t l h))
      (omega (arith, earliest_line per_day r (omega arith), from_above s per_day ok t l (earliest s per_day (parent s t))))

  module _ (mask : ℕ) where
    pub plan_for : (t : ℕ) → planned s mask t ≡ true → (x : ℕ) × (x < count s) × (bit mask x ≡ true) × Above s t x
    unfolding planned
    plan_for t h =
        let w = any_some (count s) (λ x. bit mask x && is_self_or_ancestor s t x) h in
        let v = and_parts (bit mask w.0) (is_self_or_ancestor s t w.0) w.2 in
        (w.0, w.1, v.0, ancestor_above s t w.0 v.1)

    pub for_plan : (t x : ℕ) → x < count s → bit mask x ≡ true → Above s t x → planned s mask t ≡ true
    unfolding planned
    for_plan t x l b r = any_found (count s) x (λ x. bit mask x && is_self_or_ancestor s t x) l (rw (b, above_ancestor s r))

    plan_parent : (t : ℕ) → t < count s → opening s t ≡ false → planned s mask t ≡ true → planned s mask (parent s t) ≡ true
    plan_parent t l o h =
        let w = plan_for t h in
        for_plan (parent s t) w.0 w.1 w.2 (above_all (up (parent_lower ok t l o) here) w.3)

  module _ (per_day mask : ℕ) (to : ℕ → ℕ) (limit : ℕ) where
    -- the entry of a planned transaction
    pub record InPlan (e : Entry) : Type 0 where
      pub low : e.transaction < count s
      pub for : planned s mask e.transaction ≡ true
      pub is : e ≡ plan_entry s per_day mask to e.transaction
      pub block : e.block ≡ earliest s per_day e.transaction
      pub few : e.block ≤ limit

    at_block : (b t : ℕ) (e : Entry) → List-as-Memᴰ e (plan_at s per_day mask to b t) → (planned s mask t ≡ true) × (e ≡ plan_entry s per_day mask to t) × (earliest s per_day t ≡ b)
    unfolding plan_at
    at_block b t e m =
        split (planned s mask t && eqb (earliest s per_day t) b)
        (λ y.
        let w = and_parts (planned s mask t) (eqb (earliest s per_day t) b) y in
        (w.0, Memᴰ.eq_of_singleton (rw y at m), eqb-true (earliest s per_day t) b w.1))
        (λ y. absurd (List·Memᴰ·not-nil (rw y at m)))

    entry_facts : (b t : ℕ) (e : Entry) → t < count s → b ≤ limit → planned s mask t ≡ true → e ≡ plan_entry s per_day mask to t → earliest s per_day t ≡ b → InPlan e
    unfolding plan_entry
    entry_facts b t e l m h q k = rw q (record { low = l; for = h; is = refl; block = refl; few = omega arith })

    pub in_plan : (e : Entry) → List-as-Memᴰ e (plan s per_day mask to limit) → InPlan e
    unfolding plan
    in_plan e m =
        let w = member_gather (limit + 1) (λ b. gather (count s) (plan_at s per_day mask to b)) m in
        let v = member_gather (count s) (plan_at s per_day mask to w.0) w.2 in
        let a = at_block w.0 v.0 e v.2 in
        entry_facts w.0 v.0 e v.1 (omega (arith, w.1)) a.0 a.1 a.2

    pub plan_has : (t : ℕ) → t < count s → planned s mask t ≡ true → earliest s per_day t ≤ limit → List-as-Memᴰ (plan_entry s per_day mask to t) (plan s per_day mask to limit)
    unfolding plan plan_at
    plan_has t l h m =
        gather_member (limit + 1) (earliest s per_day t) (λ b. gather (count s) (plan_at s per_day mask to b)) (omega arith)
        (gather_member (count s) t (plan_at s per_day mask to (earliest s per_day t)) l
        (rw (h, eq-eqb (earliest s per_day t) (earliest s per_day t) refl) (List·Memᴰ·head refl)))

    by_block_lem : (b c : ℕ) (x y : Entry) → b < c → List-as-Memᴰ x (gather (count s) (plan_at s per_day mask to b)) → List-as-Memᴰ y (gather (count s) (plan_at s per_day mask to c)) → before x y ≡ true
    unfolding plan_entry
    by_block_lem b c x y h m n =
        let w = member_gather (count s) (plan_at s per_day mask to b) m in
        let v = member_gather (count s) (plan_at s per_day mask to c) n in
        let p = at_block b w.0 x w.2 in
        let q = at_block c v.0 y v.2 in
        rw (p.1, q.1) (before_block (plan_entry s per_day mask to w.0) (plan_entry s per_day mask to v.0) (omega (arith, p.2, q.2)))

    by_number : (b i j : ℕ) (x y : Entry) → i < j → List-as-Memᴰ x (plan_at s per_day mask to b i) → List-as-Memᴰ y (plan_at s per_day mask to b j) → before x y ≡ true
    unfolding plan_entry
    by_number b i j x y h m n =
        let p = at_block b i x m in
        let q = at_block b j y n in
        rw (p.1, q.1) (before_number (plan_entry s per_day mask to i) (plan_entry s per_day mask to j) (omega (arith, p.2, q.2)) h)

    one_rises : (b t : ℕ) → Rising before (plan_at s per_day mask to b t)
    unfolding Rising plan_at
    one_rises b t =
        split (planned s mask t && eqb (earliest s per_day t) b) (λ y. rw y (λ e m. absurd (List·Memᴰ·not-nil m), tt)) (λ y. rw y tt)

    pub plan_rises : Rising before (plan s per_day mask to limit)
    unfolding plan
    plan_rises =
        rising_gather before (limit + 1) (λ b. gather (count s) (plan_at s per_day mask to b))
        (λ b l. rising_gather before (count s) (plan_at s per_day mask to b) (λ t m. one_rises b t) (λ i j h m x y. by_number b i j x y h))
        (λ b c h l x y. by_block_lem b c x y h)

    module _ (can : Possible s per_day mask limit) where
      plan_based : (j : ℕ) (f : Entry) → get_elem? (plan s per_day mask to limit) j ≡ some f → InPlan f → Founded s per_day (Before (plan s per_day mask to limit) j) f
      unfolding plan_entry
      plan_based j f k p =
          let t = f.transaction in
          split (opening s t)
          (λ o. opens o (rw (p.block, earliest_opening s per_day ok t p.low o, opening_lock s per_day ok t p.low 0 1 o) (from_lock s per_day ok t p.low 1)))
          (λ o.
          let a = parent s t in
          let e = plan_entry s per_day mask to a in
          let q = earliest_spend s per_day ok t p.low o in
          let h : earliest s per_day a ≤ f.block = rw (p.block, q) (from_above s per_day ok t p.low (earliest s per_day a)) in
          let w = member_place (plan_has a (parent_below ok t p.low o) (plan_parent mask t p.low o p.for) (omega (arith, p.few))) in
          spends e
          (record { place = w.0; earlier = place_before (plan s per_day mask to limit) plan_rises w.0 j e f w.1 k (before_number e f h (parent_lower ok t p.low o)); stands = w.1 })
          o refl (rw (p.block, q) (from_lock s per_day ok t p.low (earliest s per_day a))))

      -- two planned rivals are one
      one_of : (x y : ℕ) → x < count s → y < count s → planned s mask x ≡ true → planned s mask y ≡ true → conflict s x y ≡ true → x ≡ y
      one_of x y l m h k c =
          either (conflict_parts s x y c) (λ e. e)
          (λ w.
          let a = plan_for mask x h in
          let b = plan_for mask y k in
          let q : coin_of s x ≡ coin_of s y = coin_spend s ok x l w.0 ∙ ap (coin_of s) w.1 ∙ sym (coin_spend s ok y m (sym (same_opening s x y w.1) ∙ w.0)) in
          let e : a.0 ≡ b.0 = can.apart a.0 b.0 a.1 b.1 a.2 b.2 (sym (coin_line s ok a.3 a.1) ∙ q ∙ coin_line s ok b.3 b.1) in
          line_conflict ok a.3 (rw e b.3) a.1 c)

      pub plan_right : AllFitting s per_day (plan s per_day mask to limit)
      plan_right j f k =
          let p = in_plan f (place_member (plan s per_day mask to limit) j f k) in
          record {
            based = plan_based j f k p;
            alone = λ e b.
                fails_by (conflict s f.transaction e.transaction)
                (λ c.
                let q = in_plan e (place_member (plan s per_day mask to limit) b.place e b.stands) in
                let t = one_of f.transaction e.transaction p.low q.low p.for q.for c in
                let g : f ≡ e = p.is ∙ ap (plan_entry s per_day mask to) t ∙ sym q.is in
                let h : before e e ≡ true = rw g at (rising_places before (plan s per_day mask to limit) plan_rises b.place j e f b.earlier b.stands k) in
                before_once e e h h);
          }
