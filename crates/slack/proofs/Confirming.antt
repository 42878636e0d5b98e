-- What a step without X confirms was in the way of what X counted on.
-- Assumes nothing.
use Rattle.laws.proofs.Prelude.{ℕ, ◌≤◌, ◌<◌, ◌≡◌, refl, sym, ◌∙◌, true, false, not, ◌&&◌, ◌||◌, List, eqb, eqb-true, eq-eqb, le-leb, arith, bit_or, split, either}
use Rattle.laws.proofs.Prelude.{clash, and_parts, or_right, or_neither, fails_by, any_found, bit}
use Rattle.position.proofs.Rules.{count, stealth, Fit, destinations, is_contract, conflict, invalidated, in_pool, pool_to, is_confirmed, confirmed_to}
use Rattle.position.specs.declared.Position.{Position}
use Rattle.slots.proofs.Conflicts.{conflict_self}
use Rattle.soonest.specs.Soonest.{greater, since_locked}
use Rattle.soonest.proofs.Bounds.{greater_right}
use Rattle.attainable.specs.Attainable.{gone, waits_for}
use Rattle.slack.specs.Beaten.{destination_of, above, fixed, lock_beside, can_come, can_come_elsewhere, pooled, stands, waits_before, sooner, comes_beside, beats}
use Rattle.slack.proofs.Ahead.{Came, Ahead, Forth}
use Rattle.slack.proofs.NextPosition.{met_sooner}
use Rattle.slack.proofs.Parts.{stands_live}

-- what waits or is sooner beats
beats_from : (s u : List ℕ) (p : Position) (x also off t r : ℕ) → (eqb (stealth u) 0 && pooled s p x t) ≡ false → conflict s r t ≡ true
    → comes_beside s u p x also t r ≡ true → (waits_before p x t r || sooner s u p x off t r) ≡ true → beats s u p x also off t r ≡ true
unfolding beats
beats_from s u p x also off t r a b c d = rw (a, b, c, d)

-- t is as soon as itself
sooner_self : (s u : List ℕ) (p : Position) (x off t : ℕ) → sooner s u p x off t t ≡ true
unfolding sooner
sooner_self s u p x off t =
    let own = lock_beside s u p t t in
    let same = le-leb own own (omega arith) in
    split (pooled s p x t)
    (λ y. rw (y, same))
    (λ y.
    split (fixed s p t)
    (λ z. rw (y, z) (le-leb own (greater off own) (greater_right off own)))
    (λ z. rw (y, z, same) (or_right (not (since_locked s t)) true refl)))

-- what stands is not confirmed
pub stands_new : (s u : List ℕ) (p : Position) (x know off t : ℕ) → stands s u p x know off t ≡ true → is_confirmed p t ≡ false
unfolding gone
stands_new s u p x know off t h = (or_neither (is_confirmed p t) (invalidated s (is_confirmed p) t) (stands_live s u p x know off t h)).0

module _ (s u : List ℕ) (fit : Fit s u) (p q : Position) (x : ℕ) (o : Ahead s u p q x) where
  waits_before_lem : (t r d : ℕ) → d < destinations → eqb r t ≡ false → waits_for p r d ≡ true → waits_before p x t r ≡ true
  unfolding waits_before
  waits_before_lem t r d l n h = any_found destinations d (λ d. not (eqb r t && eqb d x) && waits_for p r d) l (rw (n, h))

  -- a rival that came waited, or its lock was met
  came_before : (off t r d : ℕ) → t < count s → r < count s → p.mined ≤ off → conflict s r t ≡ true → eqb r t ≡ false → Came s u p x r d
      → (waits_before p x t r || sooner s u p x off t r) ≡ true
  came_before off t r d lt lr late c n w =
      either w.in_time_lem
      (λ y. rw (waits_before_lem t r d w.small n y))
      (λ y. or_right (waits_before p x t r) (sooner s u p x off t r) (met_sooner s u fit p q x o off t r lt lr c late y))

  -- without stealth t is not in the pool with it
  pooled_parts : (t : ℕ) → (eqb (stealth u) 0 && pooled s p x t) ≡ true → (stealth u ≡ 0) × (in_pool p t ≡ true) × (pool_to p t ≡ destination_of s x t)
  unfolding pooled
  pooled_parts t h =
      let a = and_parts (eqb (stealth u) 0) (pooled s p x t) h in
      let b = and_parts (in_pool p t) (eqb (pool_to p t) (destination_of s x t)) a.1 in
      (eqb-true (stealth u) 0 a.0, b.0, eqb-true (pool_to p t) (destination_of s x t) b.1)

  in_the_way : (know b off t r : ℕ) → t < count s → r < count s → p.mined ≤ off → stands s u p x know off t ≡ true → conflict s r t ≡ true
      → eqb r t ≡ false → is_confirmed p r ≡ false → is_confirmed q r ≡ true → beats s u p x b off t r ≡ true
  unfolding comes_beside can_come
  in_the_way know b off t r lt lr late st c n f g =
      let w = o.came r lr f g in
      let apart = fails_by (eqb (stealth u) 0 && pooled s p x t)
      (λ y.
      let v = pooled_parts t y in
      clash (eq-eqb r t (o.waiting.alone t r lt lr v.1 (w.pooled v.0).0 c)) n) in
      beats_from s u p x b off t r apart c
      (rw n (w.comes (bit_or b (above s p t))))
      (came_before off t r (confirmed_to q r) lt lr late c n w)

  pays_other : (know b off t : ℕ) → t < count s → is_contract s t ≡ false → stands s u p x know off t ≡ true → is_confirmed q t ≡ true
      → eqb (confirmed_to q t) x ≡ false → beats s u p x b off t t ≡ true
  unfolding comes_beside can_come_elsewhere destination_of
  pays_other know b off t l pays st g other =
      let w = o.came t l (stands_new s u p x know off t st) g in
      let apart = fails_by (eqb (stealth u) 0 && pooled s p x t)
      (λ y.
      let v = pooled_parts t y in
      let e : pool_to p t ≡ x = rw pays at v.2 in
      clash (eq-eqb (confirmed_to q t) x (sym (w.pooled v.0).1 ∙ e)) other) in
      beats_from s u p x b off t t apart (conflict_self s t)
      (rw (eq-eqb t t refl, pays) (w.elsewhere (bit_or b (above s p t)) other))
      (or_right (waits_before p x t t) (sooner s u p x off t t) (sooner_self s u p x off t))

  pays_party : (t r : ℕ) → t < count s → r < count s → is_confirmed p r ≡ false → is_confirmed q r ≡ true
      → bit (can_come_elsewhere s u p x 0 t) r ≡ false → eqb (confirmed_to q r) x ≡ true
  unfolding can_come_elsewhere
  pays_party t r lt lr f g h =
      split (eqb (confirmed_to q r) x)
      (λ y. y)
      (λ y. clash ((o.came r lr f g).elsewhere (bit_or 0 (above s p t)) y) h)

  pub forth : Forth s u p q x
  forth =
      record {
        after = o.after;
        stays = o.stays;
        in_the_way = in_the_way;
        pays_other = pays_other;
        pays_party = pays_party;
        shown = o.shown;
      }
