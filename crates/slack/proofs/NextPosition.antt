-- A position and one that a step without X leads to compare.
-- Assumes nothing.
use Rattle.laws.proofs.Prelude.{ℕ, ◌+◌, ◌≤◌, ◌<◌, ◌≡◌, true, false, not, ◌&&◌, ◌||◌, List, ◌⊎◌, inl, inr, eqb, ltb, leb, ltb-true, ltb-false, leb-true, leb-false, ne_eqb}
use Rattle.laws.proofs.Prelude.{le-leb, arith, split, either, clash, and_parts, or_parts, or_right, fails_by, any_some, any_found, bit}
use Rattle.position.proofs.Rules.{count, parent, opening, per_day, stealth, never, lock_height, Checked, Fit, destinations, conflict, has_parent, shared_for}
use Rattle.position.specs.declared.Position.{Position}
use Rattle.position.proofs.Rules.{in_pool, pool_to, block_of, is_confirmed, shared, holds, lock_height_in, deadline_in}
use Rattle.slots.proofs.Conflicts.{conflict_self}
use Rattle.slots.proofs.Parents.{parent_below}
use Rattle.soonest.specs.Soonest.{greater}
use Rattle.soonest.proofs.Bounds.{greater_left, greater_le}
use Rattle.soonest.proofs.Deadlines.{deadline_le}
use Rattle.attainable.specs.Attainable.{gone, waits_for, attainable}
use Rattle.slack.specs.Beaten.{destination_of, fixed, runs, lock_beside, pooled, signs, waits_before, sooner}
use Rattle.slack.specs.Kept.{known_at}
use Rattle.slack.proofs.Onward.{Fewer, Steady}
use Rattle.slack.proofs.Ahead.{Ahead}
use Rattle.slack.proofs.Fixed.{open_parts, same_block, fixed_stays}
use Rattle.slack.proofs.Locks.{lock_met, not_since, own_small}
use Rattle.slack.proofs.AboveSets.{above_parts, above_from, Knows, held, shown, told, knows_parts, knows_from}
use Rattle.slack.proofs.Compared.{Parent, there, came, waits, Compared, same_locks, shifted}
use Rattle.slack.proofs.Comparing.{steady_by}

-- a parent that is there, and one that is not
module _ (s : List ℕ) (p : Position) (t : ℕ) where
  fixed_parts : fixed s p t ≡ true → (opening s t ≡ true) ⊎ (0 < block_of p (parent s t))
  unfolding fixed has_parent is_confirmed
  fixed_parts h =
      either (or_parts (opening s t) (ltb 0 (block_of p (parent s t))) h) inl (λ y. inr (ltb-true 0 (block_of p (parent s t)) y))

  open_none : fixed s p t ≡ false → block_of p (parent s t) ≡ 0
  unfolding is_confirmed
  open_none h = let y = ltb-false 0 (block_of p (parent s t)) (open_parts s p t h).1 in omega arith

-- a number that is no destination's has the last one's mask
shared_past : (p : Position) (t d : ℕ) → destinations ≤ d → shared p t d ≡ shared p t 3
unfolding shared shared_for
shared_past p t d h = rw (ne_eqb d 0 (λ e. omega arith), ne_eqb d 1 (λ e. omega arith), ne_eqb d 2 (λ e. omega arith))

module _ (s u : List ℕ) (fit : Fit s u) (p q : Position) (x : ℕ) (o : Ahead s u p q x) where
  abbrev ok : Checked s
  ok = fit.checked

  confirmed : (t : ℕ) → t < count s → is_confirmed p t ≡ true → is_confirmed q t ≡ true
  confirmed t l h = same_block p q t (o.stays t l h).0 h

  runs_first : (t : ℕ) → t < count s → fixed s p t ≡ false → fixed s q t ≡ true → runs s u p x t ≡ true
  unfolding runs fixed has_parent
  runs_first t l a b =
      let w = open_parts s p t a in
      let m = parent_below ok t l w.0 in
      let there = rw w.0 at b in
      rw a ((o.came (parent s t) m w.1 there).comes 0)

  runs_falls : (t : ℕ) → t < count s → fixed s p t ≡ false → runs s u q x t ≡ true → runs s u p x t ≡ true
  unfolding runs
  runs_falls t l a h =
      let w = and_parts (not (fixed s q t)) (bit (attainable s u q x (bit 0)) (parent s t)) h in
      rw a (o.fewer 0 0 (λ k m y. y) (parent s t) (parent_below ok t l (open_parts s p t a).0) w.1)

  parents : (t : ℕ) → t < count s → Parent s u p q x t
  parents t l =
      split (fixed s q t)
      (λ y.
      split (fixed s p t)
      (λ z. there z y (o.same t l y))
      (λ z. came z y (o.same t l y) (runs_first t l z y)))
      (λ y.
      let z = fails_by (fixed s p t) (λ k. clash (fixed_stays s ok p q confirmed t l k) y) in
      waits z y (o.rises t l) (runs_falls t l z))

  pool_stays : (t : ℕ) → t < count s → pooled s p x t ≡ true → gone s q t ≡ false → pooled s q x t ≡ true
  unfolding pooled
  pool_stays t l h live =
      let w = and_parts (in_pool p t) (eqb (pool_to p t) (destination_of s x t)) h in
      let v = o.pool_stays t l w.0 live in
      rw (v.0, v.1) w.1

  -- a pool entry's lock is met
  pool_in : (t : ℕ) → pooled s p x t ≡ true → in_pool p t ≡ true
  unfolding pooled
  pool_in t h = (and_parts (in_pool p t) (eqb (pool_to p t) (destination_of s x t)) h).0

  met_low : (k : ℕ) → lock_height_in s u p k ≤ p.mined → lock_height_in s u p k < never
  met_low k h = omega (arith, h, o.before.limit)

  pool_low : (t : ℕ) → t < count s → pooled s p x t ≡ true → lock_height_in s u p t < never
  pool_low t l h = met_low t (o.waiting.locks t l (pool_in t h))

  pool_locks : (t r : ℕ) → t < count s → r < count s → pooled s p x t ≡ true → Parent s u p q x t
      → lock_beside s u q t r ≤ lock_beside s u q t t → lock_beside s u p t r ≤ lock_beside s u p t t
  pool_locks t r lt lr h (there a b e) w = rw (same_locks s u p q t r e, same_locks s u p q t t e) at w
  pool_locks t r lt lr h (came a b e c) w = rw (same_locks s u p q t r e, same_locks s u p q t t e) at w
  pool_locks t r lt lr h (waits a b e c) w =
      let z = not_since s u ok p t t lt lt (conflict_self s t) (pool_low t lt h) (open_none s p t a) in
      let v = shifted s u ok p q t r lt lr a e in
      omega (arith, w, v.own_same z, v.his_rises)

  -- a rival that is sent with its lock met is sooner: it is no later than a pool entry, which is before its deadline
  no_later : (t r : ℕ) → t < count s → r < count s → conflict s r t ≡ true → in_pool p t ≡ true → lock_height_in s u p r ≤ p.mined
      → lock_height_in s u p r ≤ lock_height_in s u p t
  unfolding lock_height_in deadline_in
  no_later t r lt lr c h m =
      let mine = lock_height s (per_day u) (block_of p) t in
      let his = lock_height s (per_day u) (block_of p) r in
      split (leb his mine)
      (λ y. leb-true his mine y)
      (λ y.
      let d = deadline_le s (per_day u) (block_of p) t r lr c (leb-false his mine y) in
      absurd (omega (arith, d, m, o.waiting.early t lt h)))

  pub met_sooner : (more t r : ℕ) → t < count s → r < count s → conflict s r t ≡ true → p.mined ≤ more → lock_height_in s u p r ≤ p.mined
      → sooner s u p x more t r ≡ true
  unfolding sooner
  met_sooner more t r lt lr c m met =
      let his = lock_beside s u p t r in
      let own = lock_beside s u p t t in
      let e = lock_met s u ok p t r lt lr c (met_low r met) in
      split (pooled s p x t)
      (λ y.
      let f = lock_met s u ok p t t lt lt (conflict_self s t) (pool_low t lt y) in
      rw y (le-leb his own (omega (arith, e, f, no_later t r lt lr c (pool_in t y) met))))
      (λ y.
      split (fixed s p t)
      (λ z. rw (y, z) (le-leb his (greater more own) (omega (arith, e, met, m, greater_left more own))))
      (λ z. rw (y, z, not_since s u ok p t r lt lr c (met_low r met) (open_none s p t z))))

  waiting : (more t r : ℕ) → t < count s → r < count s → conflict s r t ≡ true → p.mined ≤ more → waits_before q x t r ≡ true
      → (waits_before p x t r || sooner s u p x more t r) ≡ true
  unfolding waits_before
  waiting more t r lt lr c m h =
      let w = any_some destinations (λ d. not (eqb r t && eqb d x) && waits_for q r d) h in
      let d = w.0 in
      let v = and_parts (not (eqb r t && eqb d x)) (waits_for q r d) w.2 in
      either (o.waits_from r d lr w.1 v.1)
      (λ y. rw (any_found destinations d (λ d. not (eqb r t && eqb d x) && waits_for p r d) w.1 (rw (v.0, y))))
      (λ y. or_right (waits_before p x t r) (sooner s u p x more t r) (met_sooner more t r lt lr c m y))

  shares : (t d i : ℕ) → t < count s → i < 32 → bit (shared p t d) i ≡ true → bit (shared q t d) i ≡ true
  shares t d i l m h =
      split (ltb d destinations)
      (λ y. o.shares t d i l (ltb-true d destinations y) m h)
      (λ y.
      let past = ltb-false d destinations y in
      rw (shared_past q t d past) (o.shares t 3 i l (omega arith) m (rw (shared_past p t d past) at h)))

  knows : (t i : ℕ) → t < count s → i < 32 → Knows s p x t i → Knows s q x t i
  unfolding holds
  knows t i l m (held h) = held (o.keys i m h)
  knows t i l m (shown h) = shown (o.secrets i m h)
  knows t i l m (told k n a h) =
      let w = above_parts s ok p t k n a in
      split (is_confirmed q k)
      (λ y. shown (o.shown k n w.0 y i m h))
      (λ y. told k n (above_from s ok q t k n y w.1 w.2) h)

  known_more : (t : ℕ) → t < count s → Fewer (known_at s p x t) (known_at s q x t)
  known_more t l i m h = knows_from s q x t i (knows t i l m (knows_parts s p x t i h))

  -- below never by far: a lock of up to 255 days of 1,000 blocks, after one of 10,001 blocks
  bounded : (off t : ℕ) → t < count s → off ≤ 20000 → fixed s q t ≡ true → greater off (lock_beside s u q t t) + stealth u ≤ never
  bounded off t l h f =
      let own = lock_beside s u q t t in
      let a = own_small s u ok fit.setup q o.after t l (fixed_parts s q t f) in
      let b = greater_le off own 285000 (omega arith) (omega arith) in
      omega (arith, b, fit.setup.stealth_flag)

  compared : Compared s u p q x 20000
  compared =
      record {
        parents = parents;
        confirmed = confirmed;
        pool_stays = pool_stays;
        pool_locks = λ t r lt lr h. pool_locks t r lt lr h (parents t lt);
        waiting = waiting;
        fewer = o.fewer;
        fewer_elsewhere = o.fewer_elsewhere;
        shares = shares;
        known_more = known_more;
        bounded = λ off t l h n y. bounded off t l h (and_parts (fixed s q t) (signs s q x (known_at s q x t) t) y).0;
      }

  pub steady : Steady s u p q x 20000
  steady = steady_by s u ok p q x 20000 compared
