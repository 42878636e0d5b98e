-- The lock heights, over the soonest blocks of a table.
-- Assumes nothing.
use Rattle.laws.proofs.Prelude.{ℕ, ◌+◌, ◌<◌, ◌≡◌, refl, sym, ◌∙◌, List, true, false, ltb, eqb-true, ltb-true, ltb-false, lt-ltb, le-ltb, eqb, ne_eqb, arith}
use Rattle.laws.specs.Booleans.{pick, split, either, or_parts}
use Rattle.sheet.specs.Field.{count, parent, opening}
use Rattle.sheet.specs.Setup.{per_day}
use Rattle.sheet.specs.LockHeight.{never}
use Rattle.sheet.specs.Checked.{Checked}
use Rattle.slots.specs.Ancestry.{has_parent}
use Rattle.slots.proofs.Parents.{parent_lower}
use Rattle.steps.specs.Forms.Parent.{slot_above, block_above}
use Rattle.position.specs.declared.Position.{Position}
use Rattle.position.specs.Position.{block_of, is_confirmed}
use Rattle.position.specs.Forms.View.{since_in}
use Rattle.soonest.specs.Soonest.{lock_at, soonest_over, soonest_block, soonest_parent}
use Rattle.slots.specs.Forms.Height.{Lock}
use Rattle.soonest.specs.Forms.Bounds.{Soon}
use Rattle.soonest.specs.Forms.Table.{Filled, table_above}
use Rattle.soonest.proofs.Recursion.{soonest_is}
use Rattle.soonest.proofs.Tables.{soonest_above_lem}
use Rattle.slack.specs.Beaten.{fixed, lock_beside}
use Rattle.kept.specs.Forms.Prospect.{none}
use Rattle.prospect.specs.Forms.Marks.{OwnLock}

ne255 : (k : ℕ) → k < 32 → eqb k 255 ≡ false
ne255 k m = ne_eqb k 255 (λ f. omega (arith, f, m))

module _ (s u : List ℕ) (p : Position) (ok : Checked s) (t : ℕ) (l : t < count s) where
  -- the parent's soonest block where it is confirmed is its block
  since_soonest : (since : ℕ) → since ≡ since_in s p t → ltb 0 since ≡ true
      → (parent s t < t) × (since ≡ soonest_parent s (per_day u) (block_of p) p.mined t)
  unfolding since_in block_above slot_above opening soonest_parent soonest_over block_of
  since_soonest since e h =
      split (ltb (parent s t) 32)
      (λ y.
      let q : since ≡ block_of p (parent s t) = rw y at e in
      let low = ltb-true (parent s t) 32 y in
      let a : parent s t < t = parent_lower ok t l (ne255 (parent s t) low) in
      let pos : ltb 0 (block_of p (parent s t)) ≡ true = rw q at h in
      (a, rw (lt-ltb (parent s t) t a, soonest_is s (per_day u) (block_of p) p.mined (parent s t), pos) q))
      (λ y. let z : since ≡ 0 = rw y at e in absurd (omega (arith, z, ltb-true 0 since h)))

  -- its soonest block where it is confirmed or none is low
  fixed_low : (since : ℕ) → since ≡ since_in s p t → since < 65536 → fixed s p t ≡ true
      → (e : ℕ) → e ≡ soonest_parent s (per_day u) (block_of p) p.mined t → e < 65536
  unfolding fixed has_parent since_in block_above slot_above opening soonest_parent is_confirmed block_of
  fixed_low since q low h e f =
      either (or_parts (opening s t) (is_confirmed p (parent s t)) h)
      (λ y.
      let o : parent s t ≡ 255 = eqb-true (parent s t) 255 y in
      let z : e ≡ 0 = f ∙ rw (le-ltb (parent s t) t (omega (arith, o, l, ok.sized.few))) in
      omega (arith, z))
      (λ y.
      split (ltb (parent s t) 32)
      (λ m.
      let same : since ≡ block_of p (parent s t) = rw m at q in
      let w = since_soonest since q (rw (sym same) at y) in
      omega (arith, w.1, f, low))
      (λ m.
      let big = ltb-false (parent s t) 32 m in
      let z : e ≡ 0 = f ∙ rw (le-ltb (parent s t) t (omega (arith, big, l, ok.sized.few))) in
      omega (arith, z)))

  module _ (d : ℕ) (g : d ≡ per_day u) (table : List ℕ) (told : Filled (λ k b. Soon (soonest_block s d (block_of p) p.mined k) k b) (count s) table)
      (since e : ℕ) (q : since ≡ since_in s p t) (low : since < 65536) (f : e ≡ pick (ltb 0 since) since (table_above s table t)) where
    filled : Filled (λ k b. Soon (soonest_block s (per_day u) (block_of p) p.mined k) k b) (count s) table
    filled = rw g at told

    block_is : e ≡ soonest_parent s (per_day u) (block_of p) p.mined t
    block_is =
        split (ltb 0 since)
        (λ y. f ∙ rw y (since_soonest since q y).1)
        (λ y.
        let w = soonest_above_lem s (per_day u) (block_of p) p.mined (count s) table filled t (table_above s table t) (omega (arith, l)) refl in
        f ∙ rw y w.is)

    pub block_small : e < 3000000000
    block_small =
        let w = soonest_above_lem s (per_day u) (block_of p) p.mined (count s) table filled t (table_above s table t) (omega (arith, l)) refl in
        omega (arith, block_is, w.is, w.small, l, ok.sized.few)

    pub own_lock : (r : ℕ) → Lock (lock_at s d e t) e r → OwnLock s u p t r
    unfolding lock_beside
    own_lock r a =
        let h : Lock (lock_at s (per_day u) e t) e r = rw g at a in
        record {
          is = h.is ∙ rw block_is;
          small = h.small none (omega arith) (omega (arith, block_small));
          low = λ y. let c = fixed_low since q low y e block_is in let b = h.small (never + 1) (omega arith) (omega (arith, c)) in omega (arith, b);
        }
