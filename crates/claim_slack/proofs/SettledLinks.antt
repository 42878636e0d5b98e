-- What is settled or confirmed stands alone among its rivals and has its parent so; what waits in the pool does as in the position itself.
-- Assumes nothing.
use Rattle.laws.proofs.Prelude.{ℕ, ◌+◌, ◌≤◌, ◌<◌, ◌≡◌, sym, ◌∙◌, true, false, not, ◌&&◌, List, ◌⊎◌, eqb, lt-ltb, not-true, arith, split, either, clash, and_parts}
use Rattle.laws.proofs.Prelude.{or_parts, or_right, or_neither, fails_by}
use Rattle.position.proofs.Rules.{count, parent, opening, sheet_refusal, setup_refusal, Checked, is_party, conflict, meets_other, invalidated, in_pool, pool_to, in_block}
use Rattle.position.specs.declared.Position.{Position}
use Rattle.position.proofs.Rules.{block_to, block_of, is_confirmed, lock_height_in}
use Rattle.sheet.proofs.Theorems.{sheet_checked}
use Rattle.slots.proofs.Conflicts.{conflict_sym}
use Rattle.slots.proofs.Ancestors.{other_find, other_met}
use Rattle.claim_ledger.proofs.Sound.{Sound}
use Rattle.claim_ledger.proofs.EachKind.{wide}
use Rattle.claim_outage.proofs.Pool.{Early}
use Rattle.claim_attainable.proofs.Alive.{has_block}
use Rattle.attainable.specs.Attainable.{gone, waits_for}
use Rattle.slack.specs.Settled.{settles, settled}
use Rattle.slack.proofs.Ahead.{Linked, Pending}
use Rattle.claim_slack.proofs.SettledSlots.{settles_in, settled_mined, settled_pool, settled_pool_to, settled_blocks, settled_block, settled_block_to}
use Rattle.claim_slack.proofs.SettledSlots.{settled_confirmed}
use Rattle.claim_slack.proofs.SettledStays.{parent_settles}
use Rattle.claim_slack.proofs.SettledHeights.{lock_met, deadline_ahead}

module _ (s u : List ℕ) (h : sheet_refusal s ≡ 0) (k : setup_refusal s u ≡ 0) (p : Position) (g : Sound s u p) (x : ℕ) (who : is_party s x ≡ true) where
  abbrev ok : Checked s
  ok = sheet_checked s h

  abbrev then : Position
  then = settled s u p x

  -- confirmed then: it settles, or it was confirmed
  pub confirmed_parts : (t : ℕ) → is_confirmed then t ≡ true → (settles s u p x t ≡ true) ⊎ (is_confirmed p t ≡ true)
  confirmed_parts t c = or_parts (settles s u p x t) (is_confirmed p t) (sym (settled_confirmed s u p x (wide s u ok p g) g.beyond t) ∙ c)

  pub confirmed_settled : (t : ℕ) → settles s u p x t ≡ true → is_confirmed then t ≡ true
  confirmed_settled t y = settled_confirmed s u p x (wide s u ok p g) g.beyond t ∙ rw y

  pub confirmed_still : (t : ℕ) → is_confirmed p t ≡ true → is_confirmed then t ≡ true
  confirmed_still t c = settled_confirmed s u p x (wide s u ok p g) g.beyond t ∙ or_right (settles s u p x t) (is_confirmed p t) c

  parents : (t : ℕ) → t < count s → is_confirmed then t ≡ true → opening s t ≡ false → is_confirmed then (parent s t) ≡ true
  unfolding is_confirmed
  parents t l c o =
      either (confirmed_parts t c)
      (λ y.
      either (parent_settles s u h k p g x who t y o)
      (confirmed_settled (parent s t))
      (λ z. confirmed_still (parent s t) (lt-ltb 0 (block_of p (parent s t)) z)))
      (λ y. confirmed_still (parent s t) (lt-ltb 0 (block_of p (parent s t)) (g.settled.parents t l (has_block p t y) o).0))

  -- no rival of a block entry is confirmed
  unmixed : (t j : ℕ) → t < count s → j < count s → settles s u p x t ≡ true → is_confirmed p j ≡ true → conflict s j t ≡ true → j ≡ t
  unmixed t j l m y c e = absurd (omega (arith, has_block p j c, g.block.free t j l m (settles_in s u p x t y) e))

  alone : (t j : ℕ) → t < count s → j < count s → is_confirmed then t ≡ true → is_confirmed then j ≡ true → conflict s j t ≡ true → j ≡ t
  alone t j l m a b c =
      either (confirmed_parts t a)
      (λ y.
      either (confirmed_parts j b)
      (λ z. g.block.alone t j l m (settles_in s u p x t y) (settles_in s u p x j z) c)
      (λ z. unmixed t j l m y z c))
      (λ y.
      either (confirmed_parts j b)
      (λ z. sym (unmixed j t m l z y (conflict_sym s j t c)))
      (λ z. g.settled.alone t j l m (has_block p t y) (has_block p j z) c))

  numbered : (t : ℕ) → t < count s → block_of then t ≤ p.mined + 1
  numbered t l =
      let is = settled_blocks s u p x (wide s u ok p g) g.beyond in
      split (settles s u p x t) (λ y. rw (is, y) (omega arith)) (λ y. rw (is, y) (omega (arith, g.settled.numbered t l)))

  pub linked : Linked s then
  linked =
      let m = settled_mined s u p x in
      record {
        limit = omega (arith, m, g.settled.limit);
        numbered = λ t l. omega (arith, m, numbered t l);
        parents = parents;
        alone = alone;
      }

  pub pending : Early s u p → Pending s u then
  unfolding lock_height_in
  pending early =
      let m = settled_mined s u p x in
      let is = settled_pool s u p x in
      record {
        alone = λ t j l n a b c. g.pool.alone t j l n (rw is at a) (rw is at b) c;
        locks = λ t l i. omega (arith, m, lock_met s u h k p g x who t l (g.pool.locks t l (rw is at i)));
        early = λ t l i. omega (arith, m, deadline_ahead s u h k p g x who t l (early t l (rw is at i)));
      }

  -- what is gone is gone then, and what waits then does so
  pub gone_before : (t : ℕ) → gone s then t ≡ false → gone s p t ≡ false
  unfolding gone invalidated
  gone_before t n =
      let w = or_neither (is_confirmed then t) (not (is_confirmed then t) && meets_other s (is_confirmed then) t) n in
      let c : is_confirmed p t ≡ false = fails_by (is_confirmed p t) (λ y. clash (confirmed_still t y) w.0) in
      let met : meets_other s (is_confirmed then) t ≡ false = rw w.0 at w.1 in
      rw c
      (fails_by (meets_other s (is_confirmed p) t)
      (λ y.
      let f = other_find s (is_confirmed p) t y in
      clash (other_met s (is_confirmed then) f.1 f.2 f.3 f.4 (confirmed_still f.1 f.5) f.6) met))

  pub waits_before_lem : (t d : ℕ) → waits_for then t d ≡ true → waits_for p t d ≡ true
  unfolding waits_for
  waits_before_lem t d y =
      let few = wide s u ok p g in
      either (or_parts (in_pool then t && eqb (pool_to then t) d) (in_block then t && eqb (block_to then t) d) y)
      (λ z.
      let w : (in_pool p t && eqb (pool_to p t) d) ≡ true = rw (settled_pool s u p x, settled_pool_to s u p x) at z in
      rw w)
      (λ z.
      let w = and_parts (in_block then t) (eqb (block_to then t) d) z in
      let v = and_parts (in_block p t) (not (settles s u p x t)) (rw (settled_block s u p x few g.beyond) at w.0) in
      let to : eqb (block_to p t) d ≡ true = rw (settled_block_to s u p x few g.beyond t (not-true (settles s u p x t) v.1)) at w.1 in
      or_right (in_pool p t && eqb (pool_to p t) d) (in_block p t && eqb (block_to p t) d) (rw (v.0, to)))

  -- the lock of what waits is met
  pub waits_met : (t d : ℕ) → t < count s → waits_for p t d ≡ true → lock_height_in s u p t ≤ p.mined
  unfolding waits_for lock_height_in
  waits_met t d l y =
      either (or_parts (in_pool p t && eqb (pool_to p t) d) (in_block p t && eqb (block_to p t) d) y)
      (λ z. g.pool.locks t l (and_parts (in_pool p t) (eqb (pool_to p t) d) z).0)
      (λ z. g.block.locks t l (and_parts (in_block p t) (eqb (block_to p t) d) z).0)
