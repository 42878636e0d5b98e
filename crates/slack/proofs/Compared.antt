-- What two positions p and q have in common where X can count on as much in q as in p, and that a rival which is late or sooner in q is so in p.
-- Assumes nothing.
use Rattle.laws.proofs.Prelude.{ℕ, ◌+◌, ◌≤◌, ◌<◌, ◌≡◌, refl, true, false, ◌&&◌, ◌||◌, List, or_neither, and_parts, any_some, any_found, bit}
use Rattle.position.proofs.Rules.{count, parent, opening, per_day, stealth, never, Checked, conflict, has_parent, block_of, is_confirmed, shared}
use Rattle.position.specs.declared.Position.{Position}
use Rattle.soonest.specs.Soonest.{greater, since_locked}
use Rattle.soonest.proofs.SoonestParents.{parent_some}
use Rattle.attainable.specs.Attainable.{gone, attainable, attainable_elsewhere}
use Rattle.slack.specs.Beaten.{fixed, runs, lock_beside, pooled, signs, late, any_late, waits_before, sooner}
use Rattle.slack.specs.Kept.{known_at}
use Rattle.slack.proofs.Onward.{Within, Fewer, soonest_above}
use Rattle.slack.proofs.Heights.{late_by, sooner_by, Shift, late_more, late_first, late_before, sooner_more, sooner_first, sooner_before, sooner_unpooled}
use Rattle.slack.proofs.Locks.{shift}

-- the parent of t: there in both; there in q, and it could come in p; in neither
pub data Parent (s u : List ℕ) (p q : Position) (x t : ℕ) : Type 0 where
  there : fixed s p t ≡ true → fixed s q t ≡ true → soonest_above s u q t ≡ soonest_above s u p t → Parent s u p q x t
  came : fixed s p t ≡ false → fixed s q t ≡ true → soonest_above s u q t ≡ soonest_above s u p t → runs s u p x t ≡ true → Parent s u p q x t
  waits : fixed s p t ≡ false → fixed s q t ≡ false → soonest_above s u p t ≤ soonest_above s u q t
      → (runs s u q x t ≡ true → runs s u p x t ≡ true) → Parent s u p q x t

pub record Compared (s u : List ℕ) (p q : Position) (x most : ℕ) : Type 0 where
  pub parents : (t : ℕ) → t < count s → Parent s u p q x t
  -- what is confirmed or in the pool stays; a rival's lock that is no later in q than that of a pool entry is so in p
  pub confirmed : (t : ℕ) → t < count s → is_confirmed p t ≡ true → is_confirmed q t ≡ true
  pub pool_stays : (t : ℕ) → t < count s → pooled s p x t ≡ true → gone s q t ≡ false → pooled s q x t ≡ true
  pub pool_locks : (t r : ℕ) → t < count s → r < count s → pooled s p x t ≡ true → lock_beside s u q t r ≤ lock_beside s u q t t
      → lock_beside s u p t r ≤ lock_beside s u p t t
  -- what waits did so, or comes in time
  pub waiting : (more t r : ℕ) → t < count s → r < count s → conflict s r t ≡ true → p.mined ≤ more → waits_before q x t r ≡ true
      → (waits_before p x t r || sooner s u p x more t r) ≡ true
  -- what can come could, and what X knows stays known
  pub fewer : (a b : ℕ) → Within s a b → Within s (attainable s u q x (bit a)) (attainable s u p x (bit b))
  pub fewer_elsewhere : (a b : ℕ) → Within s a b → Within s (attainable_elsewhere s u q x (bit a)) (attainable_elsewhere s u p x (bit b))
  pub shares : (t d i : ℕ) → t < count s → i < 32 → bit (shared p t d) i ≡ true → bit (shared q t d) i ≡ true
  pub known_more : (t : ℕ) → t < count s → Fewer (known_at s p x t) (known_at s q x t)
  -- a last height that is not there in p is below never in q
  pub bounded : (off t : ℕ) → t < count s → off ≤ most → (fixed s p t && signs s p x (known_at s p x t) t) ≡ false
      → (fixed s q t && signs s q x (known_at s q x t) t) ≡ true → greater off (lock_beside s u q t t) + stealth u ≤ never

-- the lock heights with the parent in one block
pub same_locks : (s u : List ℕ) (p q : Position) (t k : ℕ) → soonest_above s u q t ≡ soonest_above s u p t → lock_beside s u q t k ≡ lock_beside s u p t k
unfolding lock_beside
same_locks s u p q t k e = rw e

-- those with a parent that is in neither
pub shifted : (s u : List ℕ) → Checked s → (p q : Position) (t r : ℕ) → t < count s → r < count s → fixed s p t ≡ false
    → soonest_above s u p t ≤ soonest_above s u q t
    → Shift (since_locked s t) (since_locked s r) (lock_beside s u p t t) (lock_beside s u p t r) (lock_beside s u q t t) (lock_beside s u q t r)
unfolding lock_beside fixed has_parent
shifted s u ok p q t r lt lr a e =
    let o = (or_neither (opening s t) (is_confirmed p (parent s t)) a).0 in
    shift ok (per_day u) (soonest_above s u p t) (soonest_above s u q t) t r lt lr (parent_some ok (per_day u) (block_of p) p.mined t lt o) e

module _ (s u : List ℕ) (ok : Checked s) (p q : Position) (x off more t : ℕ) (l : off ≤ more) (lt : t < count s) where
  module _ (r : ℕ) (lr : r < count s) where
    late_is : (o : Position) (h : ℕ) → late s u o x h t r
        ≡ late_by (fixed s o t) (since_locked s r) (since_locked s t) (runs s u o x t) (lock_beside s u o t t) (lock_beside s u o t r) h
    unfolding late late_by
    late_is o h = refl

    sooner_is : (o : Position) (h : ℕ) → sooner s u o x h t r
        ≡ sooner_by (pooled s o x t) (fixed s o t) (since_locked s r) (runs s u o x t) (lock_beside s u o t t) (lock_beside s u o t r) h
    unfolding sooner sooner_by
    sooner_is o h = refl

    late_falls : Parent s u p q x t → late s u q x off t r ≡ true → late s u p x more t r ≡ true
    late_falls (there a b e) h =
        rw (late_is p more, a)
        (late_more (lock_beside s u p t t) (lock_beside s u p t r) off more l (since_locked s r) (since_locked s t) (runs s u q x t) (runs s u p x t)
        (rw (late_is q off, b, same_locks s u p q t t e, same_locks s u p q t r e) at h))
    late_falls (came a b e c) h =
        rw (late_is p more, a, c)
        (late_first (lock_beside s u p t t) (lock_beside s u p t r) off more l (since_locked s r) (since_locked s t) (runs s u q x t)
        (rw (late_is q off, b, same_locks s u p q t t e, same_locks s u p q t r e) at h))
    late_falls (waits a b e c) h =
        rw (late_is p more, a)
        (late_before (lock_beside s u p t t) (lock_beside s u p t r) (lock_beside s u q t t) (lock_beside s u q t r) off more l (runs s u p x t) (runs s u q x t) c
        (since_locked s r) (since_locked s t) (shifted s u ok p q t r lt lr a e)
        (rw (late_is q off, b) at h))

    -- where t is not in the pool of p
    unpooled : sooner s u q x off t r ≡ true
        → sooner_by false (fixed s q t) (since_locked s r) (runs s u q x t) (lock_beside s u q t t) (lock_beside s u q t r) off ≡ true
    unpooled h =
        sooner_unpooled (pooled s q x t) (fixed s q t) (since_locked s r) (runs s u q x t) (lock_beside s u q t t) (lock_beside s u q t r) off
        (rw (sooner_is q off) at h)

    pub sooner_falls : pooled s p x t ≡ false → Parent s u p q x t → sooner s u q x off t r ≡ true → sooner s u p x more t r ≡ true
    sooner_falls n (there a b e) h =
        rw (sooner_is p more, n, a)
        (sooner_more (lock_beside s u p t t) (lock_beside s u p t r) off more l (since_locked s r) (runs s u q x t) (runs s u p x t)
        (rw (b, same_locks s u p q t t e, same_locks s u p q t r e) at (unpooled h)))
    sooner_falls n (came a b e c) h =
        rw (sooner_is p more, n, a, c)
        (sooner_first (lock_beside s u p t t) (lock_beside s u p t r) off more l (since_locked s r) (runs s u q x t)
        (rw (b, same_locks s u p q t t e, same_locks s u p q t r e) at (unpooled h)))
    sooner_falls n (waits a b e c) h =
        rw (sooner_is p more, n, a)
        (sooner_before (lock_beside s u p t t) (lock_beside s u p t r) (lock_beside s u q t t) (lock_beside s u q t r) off more l (runs s u p x t) (runs s u q x t) c
        (since_locked s r) (since_locked s t) (shifted s u ok p q t r lt lr a e)
        (rw b at (unpooled h)))

  pub any_late_falls : Parent s u p q x t → any_late s u q x off t ≡ true → any_late s u p x more t ≡ true
  unfolding any_late
  any_late_falls c h =
      let w = any_some (count s) (λ r. conflict s r t && late s u q x off t r) h in
      let r = w.0 in
      let v = and_parts (conflict s r t) (late s u q x off t r) w.2 in
      any_found (count s) r (λ r. conflict s r t && late s u p x more t r) w.1 (rw (v.0, late_falls r w.1 c v.1))
