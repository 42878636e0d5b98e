-- A row over what is read once is the row of the position.
-- Assumes nothing.
use Rattle.laws.proofs.Prelude.{ℕ, ◌≤◌, ◌<◌, ◌≡◌, refl, sym, ◌∙◌, Bool, true, List, ltb, length, get_or, ltb-true, arith, pick, split, bit, joined, set_below, set_bit}
use Rattle.position.proofs.Rules.{count, parent, payees, Checked, per_day, is_self_or_ancestor, invalidated, found_in, View, dead_in, in_pool, is_confirmed, block_of}
use Rattle.position.specs.declared.Position.{Position}
use Rattle.position.proofs.Rules.{view_below, since_in}
use Rattle.laws.specs.Unions.{union_same}
use Rattle.slots.specs.Forms.Line.{line_set}
use Rattle.slots.proofs.LineSets.{line_set_step, line_bit}
use Rattle.position.proofs.BlockSets.{set_dead}
use Rattle.position.proofs.SendTests.{has_parent_set, since_parent_lem}
use Rattle.soonest.specs.Soonest.{soonest_block, soonest_parent}
use Rattle.soonest.specs.Forms.Bounds.{Soon, SoonAbove}
use Rattle.soonest.specs.Forms.Table.{Filled, table_above}
use Rattle.soonest.specs.Forms.Deadline.{deadline_over}
use Rattle.soonest.proofs.Tables.{soonest_above_lem, deadline_over_lem}
use Rattle.call_outage.specs.Verdict.{soonest_block_in, soonest_deadline_in, is_settled, is_safe, verdict, payees_below, block_from, outage_row}
use Rattle.call_outage.specs.Forms.Row.{safe_in, verdict_in, payees_in, row_in}

-- the line over the parent's, read from a table of those before t
pub line_next : (s lines : List ℕ) (t a r : ℕ) → Filled (λ k x. x ≡ line_set s k) t lines → a ≡ table_above s lines t → r ≡ joined a true t → r ≡ line_set s t
unfolding table_above
line_next s lines t a r h e q =
    q
    ∙ rw (e, line_set_step s t)
    (split (ltb (parent s t) t)
    (λ y. rw (y, h.each (parent s t) (ltb-true (parent s t) t y)) refl)
    (λ y. rw y refl))

module _ (s u : List ℕ) (p : Position) (ok : Checked s) (t : ℕ) (l : t < count s) where
  abbrev few : count s ≤ 32
  few = ok.sized.few

  abbrev seen : View
  seen = view_below s (count s) p

  confirmed_bit : (k : ℕ) → k < count s → bit seen.confirmed k ≡ is_confirmed p k
  unfolding view_below
  confirmed_bit = set_bit (count s) (is_confirmed p) few

  pool_bit : bit seen.pool t ≡ in_pool p t
  unfolding view_below
  pool_bit = set_bit (count s) (in_pool p) few t l

  dead_right : dead_in s seen.confirmed (set_below (count s) (found_in s (bit seen.confirmed) true)) t ≡ invalidated s (is_confirmed p) t
  dead_right = set_dead s seen.confirmed (is_confirmed p) t few l confirmed_bit

  verdict_right : (dead : Bool) (blocks deadline : ℕ) → dead ≡ invalidated s (is_confirmed p) t → deadline ≡ soonest_deadline_in s u p t
      → verdict_in s u seen dead blocks t deadline ≡ verdict s u p blocks t
  unfolding verdict_in verdict is_settled safe_in is_safe view_below
  verdict_right dead blocks deadline e d =
      rw (e, d, confirmed_bit t l, pool_bit, has_parent_set s seen.confirmed (is_confirmed p) confirmed_bit t ok l) refl

  payees_right : (lines : List ℕ) → Filled (λ k x. x ≡ line_set s k) (count s) lines → payees_in s lines t ≡ payees_below s t
  unfolding payees_in payees_below
  payees_right lines h =
      union_same (count s) (λ k. pick (is_self_or_ancestor s t k) (payees s k) 0) (λ k. pick (bit (get_or lines k 0) t) (payees s k) 0)
      (λ k m. rw (h.each k m, line_bit s k t (omega (arith, m, few)) (omega (arith, l, few))) refl)

  -- a table of the soonest blocks, d blocks being those per day
  module _ (d : ℕ) (soonest : List ℕ) (day : d ≡ per_day u)
      (full : Filled (λ k x. Soon (soonest_block s d (block_of p) p.mined k) k x) (count s) soonest) where
    above : SoonAbove (soonest_parent s d (block_of p) p.mined t) t (table_above s soonest t)
    above = soonest_above_lem s d (block_of p) p.mined (count s) soonest full t (table_above s soonest t) (omega (arith, l)) refl

    pub above_small : table_above s soonest t < 3000000000
    above_small = omega (arith, above.small, l, few)

    deadline_right : (since : ℕ) → since ≡ block_of p (parent s t) → deadline_over s (per_day u) since (table_above s soonest t) t ≡ soonest_deadline_in s u p t
    unfolding soonest_deadline_in
    deadline_right since e = rw (← day, e, above.is) (sym (deadline_over_lem s d (block_of p) p.mined t))

    -- what a loop over the transactions writes: the parts that it read are those of the position
    pub row_right : (v : View) (conflicted : ℕ) (lines : List ℕ) (since blocks : ℕ) → length p.slots ≡ 32 → v ≡ seen
        → conflicted ≡ set_below (count s) (found_in s (bit v.confirmed) true) → Filled (λ k x. x ≡ line_set s k) (count s) lines → since ≡ since_in s p t
        → row_in s u v conflicted soonest lines since blocks t ≡ outage_row s u p blocks t
    unfolding row_in outage_row block_from soonest_block_in
    row_right v conflicted lines since blocks n ev es h ec =
        let e = deadline_right since (ec ∙ since_parent_lem s p n t) in
        let w : dead_in s v.confirmed conflicted t ≡ invalidated s (is_confirmed p) t = rw (es, ev) dead_right in
        rw (w, e, ev, verdict_right (invalidated s (is_confirmed p) t) blocks (soonest_deadline_in s u p t) refl refl, payees_right lines h, (full.each t l).is, day) refl
