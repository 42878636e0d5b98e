-- A step without X leads onward: what the laws of slack ask for holds between a position and the next.
-- Assumes nothing.
use Rattle.laws.proofs.Prelude.{ℕ, ◌+◌, ◌≤◌, ◌<◌, ◌≡◌, refl, sym, ◌∙◌, true, false, ◌&&◌, List, ◌⊎◌, inl, inr, eqb, eqb-true, ltb-true, ltb-false, lt-ltb, eq-eqb, arith}
use Rattle.laws.proofs.Prelude.{split, either, clash, and_parts, or_parts, or_right, or_neither, bit}
use Rattle.position.proofs.Rules.{count, parent, opening, sheet_refusal, per_day, setup_refusal, Checked, is_party, has_parent, invalidated, in_pool, pool_to, in_block}
use Rattle.position.specs.declared.Position.{Position}
use Rattle.position.proofs.Rules.{block_to, block_of, is_confirmed, confirmed_to, lock_height_in, after_mine, FourBytes, step}
use Rattle.sheet.proofs.Theorems.{sheet_checked}
use Rattle.slots.proofs.Conflicts.{conflict_self}
use Rattle.slots.proofs.Entered.{pooled, filled, settled}
use Rattle.slots.proofs.Parents.{parent_below, parent_lower}
use Rattle.position.proofs.StepCases.{StepCase, taken, turned_down, step_case}
use Rattle.soonest.specs.Soonest.{greater, lock_at}
use Rattle.soonest.proofs.Bounds.{greater_left}
use Rattle.soonest.proofs.SoonestParents.{soonest_open, parent_soonest, opening_none, parent_there}
use Rattle.step_laws.proofs.AfterBlocks.{mine_blocks, mine_to}
use Rattle.step_laws.proofs.Moved.{moved}
use Rattle.step_laws.proofs.Provenance.{Stands, Moved, slot_same, keys_same}
use Rattle.step_laws.proofs.Quiet.{Quiet, lasting}
use Rattle.claim_ledger.proofs.Sound.{Sound}
use Rattle.claim_ledger.proofs.EachKind.{wide}
use Rattle.claim_ledger.proofs.SoundSteps.{sound_step}
use Rattle.claim_careful.proofs.Places.{confirmed_stands}
use Rattle.claim_outage.proofs.Chain.{parent_rises}
use Rattle.claim_outage.proofs.Play.{LaterIn, later_step}
use Rattle.claim_outage.proofs.Pool.{Early}
use Rattle.attainable.specs.Attainable.{gone, secrets_of, waits_for}
use Rattle.claim_attainable.specs.Words.{step_of}
use Rattle.claim_attainable.proofs.Alive.{has_block}
use Rattle.claim_attainable.proofs.Bounded.{right_small}
use Rattle.slack.specs.Beaten.{fixed}
use Rattle.slack.proofs.Onward.{soonest_above, secrets_shown}
use Rattle.slack.proofs.Ahead.{Linked, Pending, Came, Ahead}
use Rattle.claim_slack.proofs.Secrets.{secrets_stay, mined_secrets}
use Rattle.claim_outage.proofs.Pools.{PoolIn, Pooled, pool_in, mine_in}
use Rattle.claim_slack.proofs.Fewer.{fewer, fewer_elsewhere, block_comes, block_elsewhere}

module _ (s u : List ℕ) (p : Position) where
  linked : Sound s u p → Linked s p
  unfolding is_confirmed
  linked g =
      record {
        limit = g.settled.limit;
        numbered = λ t l. omega (arith, g.settled.numbered t l);
        parents = λ t l c o. lt-ltb 0 (block_of p (parent s t)) (g.settled.parents t l (ltb-true 0 (block_of p t) c) o).0;
        alone = λ t k l m a b c. g.settled.alone t k l m (ltb-true 0 (block_of p t) a) (ltb-true 0 (block_of p k) b) c;
      }

  pending : Sound s u p → Early s u p → Pending s u p
  unfolding lock_height_in
  pending g early = record { alone = g.pool.alone; locks = g.pool.locks; early = early }

  moved_none : Moved s u p p
  moved_none = keys_same s u p p (λ t. slot_same s u p p t refl) refl

-- a step, in short: the chain stays and the pool entries do, or the block is mined
data Passage (s : List ℕ) (p q : Position) : Type 0 where
  quiet : Quiet p q → PoolIn p q → Passage s p q
  mined : q ≡ after_mine s p → Passage s p q

-- a confirmed transaction's entry is its confirmation
module _ (s u : List ℕ) (p : Position) (g : Sound s u p) (t : ℕ) (l : t < count s) (c : 0 < block_of p t) where
  chain_to : (e : ℕ) → Stands p t e → confirmed_to p t ≡ e
  unfolding in_pool in_block block_of confirmed_to
  chain_to e (pooled h to) = absurd (omega (arith, c, g.pool.free t t l l h (conflict_self s t)))
  chain_to e (filled h to) = absurd (omega (arith, c, g.block.free t t l l h (conflict_self s t)))
  chain_to e (settled h to) = to

no_block : (p : Position) (t : ℕ) → is_confirmed p t ≡ false → block_of p t ≡ 0
unfolding is_confirmed
no_block p t n = omega (arith, ltb-false 0 (block_of p t) n)

-- an entry of what is not confirmed waits; what waits has such an entry, and is not confirmed
stands_waits : (p : Position) (t d : ℕ) → Stands p t d → (0 < block_of p t → ⊥) → waits_for p t d ≡ true
unfolding waits_for in_pool pool_to in_block block_to block_of
stands_waits p t d (pooled h to) n = rw (h, eq-eqb (pool_to p t) d to)
stands_waits p t d (filled h to) n = or_right (in_pool p t && eqb (pool_to p t) d) (in_block p t && eqb (block_to p t) d) (rw (h, eq-eqb (block_to p t) d to))
stands_waits p t d (settled h to) n = absurd (n h)

module _ (s u : List ℕ) (p : Position) (g : Sound s u p) (t d : ℕ) (l : t < count s) (h : waits_for p t d ≡ true) where
  waits_stands : Stands p t d × (block_of p t ≡ 0)
  unfolding waits_for in_pool pool_to in_block block_to
  waits_stands =
      either (or_parts (in_pool p t && eqb (pool_to p t) d) (in_block p t && eqb (block_to p t) d) h)
      (λ y.
      let w = and_parts (in_pool p t) (eqb (pool_to p t) d) y in
      (pooled w.0 (eqb-true (pool_to p t) d w.1), g.pool.free t t l l w.0 (conflict_self s t)))
      (λ y.
      let w = and_parts (in_block p t) (eqb (block_to p t) d) y in
      (filled w.0 (eqb-true (block_to p t) d w.1), g.block.free t t l l w.0 (conflict_self s t)))

module _ (s u : List ℕ) (ok : Checked s) (p : Position) (g : Sound s u p) (q : Position) (on : Sound s u q) (later : LaterIn s p q)
    (m : Moved s u p q) (passage : Passage s p q) where
  stays_block : (t : ℕ) → t < count s → 0 < block_of p t → block_of q t ≡ block_of p t
  stays_block t l c = either (later.blocks t l) (λ e. e) (λ e. absurd (omega (arith, c, e.0)))

  stays_to : (t : ℕ) → t < count s → 0 < block_of p t → confirmed_to q t ≡ confirmed_to p t
  stays_to t l c =
      let now : 0 < block_of q t = rw (stays_block t l c) c in
      either ((m.slots t).entries (confirmed_to q t) (confirmed_stands q t (confirmed_to q t) now refl))
      (λ y. sym (chain_to s u p g t l c (confirmed_to q t) y))
      (λ y. absurd (omega (arith, c, y.1.free t l (conflict_self s t))))

  -- what is new in the chain was in the block
  new_by : Passage s p q → (t : ℕ) → is_confirmed p t ≡ false → is_confirmed q t ≡ true
      → (in_block p t ≡ true) × (block_to p t ≡ confirmed_to q t) × (q ≡ after_mine s p)
  unfolding is_confirmed
  new_by (quiet y z) t n c = clash (rw (y.heights t) at c) n
  new_by (mined e) t n c =
      let few = wide s u ok p g in
      split (in_block p t)
      (λ b. (b, rw (e, mine_to s p few g.beyond, b), e))
      (λ b. clash (rw (e, mine_blocks s p few g.beyond, b) at c) n)

  new_block : (t : ℕ) → is_confirmed p t ≡ false → is_confirmed q t ≡ true → block_of q t ≡ p.mined + 1
  new_block t n c =
      let w = new_by passage t n c in
      rw (w.2, mine_blocks s p (wide s u ok p g) g.beyond, w.0)

  shown : (t : ℕ) → t < count s → is_confirmed p t ≡ false → is_confirmed q t ≡ true → (i : ℕ) → bit (secrets_of s t) i ≡ true → bit (secrets_shown s q) i ≡ true
  shown t l n c i h =
      let w = new_by passage t n c in
      let few = wide s u ok p g in
      rw w.2 (mined_secrets s p t l (omega (arith, few, l)) w.0 (right_small s t (block_to p t) (g.block_to_lem t l w.0)) i h)

  pool_stays_by : Passage s p q → (t : ℕ) → in_pool p t ≡ true → gone s q t ≡ false → (in_pool q t ≡ true) × (pool_to q t ≡ pool_to p t)
  unfolding gone
  pool_stays_by (quiet y z) t i n = z t i
  pool_stays_by (mined e) t i n =
      let w = or_neither (is_confirmed (after_mine s p) t) (invalidated s (is_confirmed (after_mine s p)) t) (rw e at n) in
      rw e (mine_in s u ok p g t i w.0 w.1)

  -- what waits then did so, or is sent
  waits_from : (t d : ℕ) → t < count s → waits_for q t d ≡ true → (waits_for p t d ≡ true) ⊎ (lock_height_in s u p t ≤ p.mined)
  waits_from t d l h =
      let w = waits_stands s u q on t d l h in
      either ((m.slots t).entries d w.0)
      (λ y. inl (stands_waits p t d y (λ c. omega (arith, c, stays_block t l c, w.1))))
      (λ y. inr y.1.lock)

  -- the soonest block of a parent that is confirmed then
  same_by : (t : ℕ) → t < count s → opening s t ≡ false → is_confirmed q (parent s t) ≡ true → soonest_above s u q t ≡ soonest_above s u p t
  same_by t l o c =
      let low = parent_below ok t l o in
      let there = parent_there ok (per_day u) (block_of q) q.mined t l o (has_block q (parent s t) c) in
      split (is_confirmed p (parent s t))
      (λ y.
      let b = has_block p (parent s t) y in
      there ∙ stays_block (parent s t) low b ∙ sym (parent_there ok (per_day u) (block_of p) p.mined t l o b))
      (λ n.
      let up = parent_rises ok (per_day u) (block_of p) p.mined (block_of q) q.mined later on.settled t l in
      let e = soonest_above s u p (parent s t) in
      let z : block_of p (parent s t) ≡ 0 = no_block p (parent s t) n in
      let is = parent_soonest s (per_day u) (block_of p) p.mined t (parent_lower ok t l o) ∙ soonest_open s (per_day u) (block_of p) p.mined (parent s t) z in
      let least = greater_left (p.mined + 1) (greater e (lock_at s (per_day u) e (parent s t) + 1)) in
      omega (arith, there, new_block (parent s t) n c, up, is, least))

  same : (t : ℕ) → t < count s → fixed s q t ≡ true → soonest_above s u q t ≡ soonest_above s u p t
  unfolding fixed has_parent
  same t l h =
      split (opening s t)
      (λ o. opening_none ok (per_day u) (block_of q) q.mined t l o ∙ sym (opening_none ok (per_day u) (block_of p) p.mined t l o))
      (λ o. same_by t l o (rw o at h))

module _ (s u : List ℕ) (h : sheet_refusal s ≡ 0) (k : setup_refusal s u ≡ 0) (p : Position) (g : Sound s u p) where
  abbrev ok : Checked s
  ok = sheet_checked s h

  passes : (b : FourBytes) → StepCase s u p b → Moved s u p (step s u p b).position × Passage s p (step s u p b).position
  passes b (taken y d f r e) =
      rw e (
        moved s u p y f r,
        either (lasting s u p (wide s u ok p g) g.beyond y f r)
            (λ z. either (pool_in s u ok p g y f r) (quiet z) mined)
            (λ z. mined z.0),
      )
  passes b (turned_down n m e) =
      rw e (moved_none s u p, quiet (record { mined = refl; heights = λ t. refl; pool = λ t i. i }) (λ t i. (i, refl)))

  pub step_moved : (b : FourBytes) → Moved s u p (step s u p b).position
  step_moved b = (passes b (step_case s u p b)).0

  -- an entry of the block comes for its destination
  block_came : Pooled s u p → (x : ℕ) → is_party s x ≡ true → (t : ℕ) → t < count s → in_block p t ≡ true → Came s u p x t (block_to p t)
  unfolding in_block block_to block_of
  block_came in_pool_lem x who t l i =
      record {
        small = right_small s t (block_to p t) (g.block_to_lem t l i);
        in_time_lem = inl (stands_waits p t (block_to p t) (filled i refl) (λ c. omega (arith, c, g.block.free t t l l i (conflict_self s t))));
        pooled = λ z. in_pool_lem z t l i;
        comes = λ a. block_comes s u h k p g x who a t l i;
        elsewhere = λ a n. block_elsewhere s u h k p g x who a t l i n;
      }

  -- a step of any four bytes, taken or refused, that is not X's
  pub onward : Early s u p → Pooled s u p → (x : ℕ) → is_party s x ≡ true → (b : FourBytes) → step_of x b ≡ false → Ahead s u p (step s u p b).position x
  onward early in_pool_lem x who b i =
      let q = (step s u p b).position in
      let on = sound_step s u h k p b g in
      let later = later_step s u h k p b g in
      let w = passes b (step_case s u p b) in
      record {
        before = linked s u p g;
        after = linked s u q on;
        waiting = pending s u p g early;
        stays = λ t l c.
            let y = has_block p t c in
            (stays_block s u ok p g q on later w.0 w.1 t l y, stays_to s u ok p g q on later w.0 w.1 t l y);
        came = λ t l n c.
            let y = new_by s u ok p g q on later w.0 w.1 w.1 t n c in
            rw y.1 at (block_came in_pool_lem x who t l y.0);
        rises = parent_rises ok (per_day u) (block_of p) p.mined (block_of q) q.mined later on.settled;
        same = same s u ok p g q on later w.0 w.1;
        pool_stays = λ t l y n. pool_stays_by s u ok p g q on later w.0 w.1 w.1 t y n;
        waits_from = λ t d l n y. waits_from s u ok p g q on later w.0 w.1 t d l y;
        keys = λ j n y. w.0.keys_kept x j y;
        shares = λ t d j l n m y. (w.0.slots t).kept d j n y;
        secrets = λ j n y. secrets_stay s u p q w.0 j y;
        shown = λ t l n c j m y. shown s u ok p g q on later w.0 w.1 t l n c j y;
        fewer = λ a c y. fewer s u h k p g x who b i a c y;
        fewer_elsewhere = λ a c y. fewer_elsewhere s u h k p g x who b i a c y;
      }
