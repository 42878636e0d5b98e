-- Where two positions compare, X can count on as much in the second.
-- Assumes nothing.
use Rattle.laws.proofs.Prelude.{ℕ, ◌≤◌, ◌<◌, ◌≡◌, true, false, not, ◌&&◌, ◌||◌, List, eqb, eqb-true, leb-true, le-leb, not-true, arith, bit_or, split, either, clash}
use Rattle.laws.proofs.Prelude.{and_parts, or_parts, or_right, fails_by, bit, or_bit, subset_bit}
use Rattle.position.proofs.Rules.{count, signatures, required, stealth, Checked, is_payee, is_contract, conflict, signed, is_confirmed, shared}
use Rattle.position.specs.declared.Position.{Position}
use Rattle.soonest.proofs.Bounds.{greater_mono}
use Rattle.attainable.specs.Attainable.{gone}
use Rattle.attainable.proofs.Masks.{or_left, or_last, subset_from}
use Rattle.slack.specs.Beaten.{destination_of, above, can_come, can_come_elsewhere, fixed, lock_beside, pooled, signs, any_late, stands, waits_before, sooner, comes_beside, beats, last}
use Rattle.slack.specs.Kept.{known_at}
use Rattle.slack.proofs.Onward.{Within, Fewer, Steady}
use Rattle.slack.proofs.AboveSets.{above_parts, above_from}
use Rattle.slack.proofs.Compared.{Parent, there, came, waits, Compared, same_locks, sooner_falls, any_late_falls}

module _ (s u : List ℕ) (ok : Checked s) (p q : Position) (x most : ℕ) (c : Compared s u p q x most) where
  above_fewer : (t : ℕ) → Within s (above s q t) (above s p t)
  above_fewer t k l h =
      let w = above_parts s ok q t k l h in
      above_from s ok p t k l (fails_by (is_confirmed p k) (λ y. clash (c.confirmed k l y) w.0)) w.1 w.2

  also_fewer : (a b t : ℕ) → Within s a b → Within s (bit_or a (above s q t)) (bit_or b (above s p t))
  also_fewer a b t w k l h =
      either (or_bit a (above s q t) k h)
      (λ y. or_left b (above s p t) k (w k l y))
      (λ y. or_last b (above s p t) k (above_fewer t k l y))

  elsewhere_fewer : (a b t r : ℕ) → r < count s → Within s a b → bit (can_come_elsewhere s u q x a t) r ≡ true → bit (can_come_elsewhere s u p x b t) r ≡ true
  unfolding can_come_elsewhere
  elsewhere_fewer a b t r l w h = c.fewer_elsewhere (bit_or a (above s q t)) (bit_or b (above s p t)) (also_fewer a b t w) r l h

  comes_fewer : (a b t r : ℕ) → r < count s → Within s a b → comes_beside s u q x a t r ≡ true → comes_beside s u p x b t r ≡ true
  unfolding comes_beside can_come
  comes_fewer a b t r l w h =
      split (eqb r t)
      (λ e.
      let v = and_parts (not (is_contract s t)) (bit (can_come_elsewhere s u q x a t) t) (rw e at h) in
      rw (e, v.0) (elsewhere_fewer a b t t (rw (eqb-true r t e) at l) w v.1))
      (λ e. rw e (c.fewer (bit_or a (above s q t)) (bit_or b (above s p t)) (also_fewer a b t w) r l (rw e at h)))

  pool_sooner : (off more t r : ℕ) → t < count s → r < count s → pooled s p x t ≡ true → pooled s q x t ≡ true → sooner s u q x off t r ≡ true → sooner s u p x more t r ≡ true
  unfolding sooner
  pool_sooner off more t r lt lr y z h =
      rw y
      (le-leb (lock_beside s u p t r) (lock_beside s u p t t)
      (c.pool_locks t r lt lr y (leb-true (lock_beside s u q t r) (lock_beside s u q t t) (rw z at h))))

  sooner_less : (off more t r : ℕ) → t < count s → r < count s → off ≤ more → gone s q t ≡ false → sooner s u q x off t r ≡ true → sooner s u p x more t r ≡ true
  sooner_less off more t r lt lr l live h =
      split (pooled s p x t)
      (λ y. pool_sooner off more t r lt lr y (c.pool_stays t lt y live) h)
      (λ y. sooner_falls s u ok p q x off more t l lt r lr y (c.parents t lt) h)

  beaten : (a b off more t r : ℕ) → t < count s → r < count s → Within s a b → off ≤ more → p.mined ≤ more → gone s q t ≡ false
      → beats s u q x a off t r ≡ true → beats s u p x b more t r ≡ true
  unfolding beats
  beaten a b off more t r lt lr w l m live h =
      let h1 = and_parts (not (eqb (stealth u) 0 && pooled s q x t)) _ h in
      let h2 = and_parts (conflict s r t) _ h1.1 in
      let h3 = and_parts (comes_beside s u q x a t r) (waits_before q x t r || sooner s u q x off t r) h2.1 in
      let n : (eqb (stealth u) 0 && pooled s p x t) ≡ false =
      fails_by (eqb (stealth u) 0 && pooled s p x t)
      (λ y.
      let z = and_parts (eqb (stealth u) 0) (pooled s p x t) y in
      clash {b = eqb (stealth u) 0 && pooled s q x t} (rw z.0 (c.pool_stays t lt z.1 live)) (not-true (eqb (stealth u) 0 && pooled s q x t) h1.0)) in
      rw (n, h2.0, comes_fewer a b t r lr w h3.0)
      (either (or_parts (waits_before q x t r) (sooner s u q x off t r) h3.1)
      (c.waiting more t r lt lr h2.0 m)
      (λ y. or_right (waits_before p x t r) (sooner s u p x more t r) (sooner_less off more t r lt lr l live y)))

  signs_more : (know known t : ℕ) → t < count s → Fewer know known → signs s p x know t ≡ true → signs s q x known t ≡ true
  unfolding signs signed
  signs_more know known t l f h =
      let d = destination_of s x t in
      subset_from (signatures s) (required s t) (bit_or known (shared q t d))
      (λ i m n.
      let small : i < 32 = omega (arith, m, ok.signatures_few) in
      either (or_bit know (shared p t d) i (subset_bit (signatures s) (required s t) (bit_or know (shared p t d)) h i m n))
      (λ y. or_left known (shared q t d) i (f i small y))
      (λ y. or_last known (shared q t d) i (c.shares t d i l small y)))

  standing : (know known off more t : ℕ) → t < count s → Fewer know known → off ≤ more → p.mined ≤ more → gone s q t ≡ false
      → stands s u p x know more t ≡ true → stands s u q x known off t ≡ true
  unfolding stands
  standing know known off more t lt f l m live h =
      let h1 = and_parts (not (gone s p t)) _ h in
      let h2 = and_parts (is_contract s t || is_payee s t x) _ h1.1 in
      let h3 = and_parts (signs s p x know t || pooled s p x t) _ h2.1 in
      let pool : pooled s p x t ≡ true → pooled s q x t ≡ true = λ y. c.pool_stays t lt y live in
      let sent : (signs s q x known t || pooled s q x t) ≡ true =
      either (or_parts (signs s p x know t) (pooled s p x t) h3.0)
      (λ y. rw (signs_more know known t lt f y))
      (λ y. or_right (signs s q x known t) (pooled s q x t) (pool y)) in
      rw (live, h2.0, sent)
      (either (or_parts (not (eqb (stealth u) 0)) (pooled s p x t || not (any_late s u p x more t)) h3.1)
      (λ y. rw y)
      (λ y.
      or_right (not (eqb (stealth u) 0)) (pooled s q x t || not (any_late s u q x off t))
      (either (or_parts (pooled s p x t) (not (any_late s u p x more t)) y)
      (λ z. rw (pool z))
      (λ z.
      let none : any_late s u q x off t ≡ false =
      fails_by (any_late s u q x off t)
      (λ k. clash (any_late_falls s u ok p q x off more t l lt (c.parents t lt) k) (not-true (any_late s u p x more t) z)) in
      or_right (pooled s q x t) (not (any_late s u q x off t)) (rw none)))))

  -- a parent that is there stays, in its block
  stays_fixed : (t : ℕ) → fixed s p t ≡ true → Parent s u p q x t → (fixed s q t ≡ true) × (lock_beside s u q t t ≡ lock_beside s u p t t)
  stays_fixed t f (there a b e) = (b, same_locks s u p q t t e)
  stays_fixed t f (came a b e r) = clash f a
  stays_fixed t f (waits a b e r) = clash f a

  last_less : (off more t : ℕ) → t < count s → off ≤ more → more ≤ most
      → last s u q x (known_at s q x t) off t ≤ last s u p x (known_at s p x t) more t
  unfolding last
  last_less off more t l h m =
      split (fixed s p t && signs s p x (known_at s p x t) t)
      (λ y.
      let w = and_parts (fixed s p t) (signs s p x (known_at s p x t) t) y in
      let v = stays_fixed t w.0 (c.parents t l) in
      let g = greater_mono off (lock_beside s u p t t) more (lock_beside s u p t t) h (omega arith) in
      rw (y, v.0, signs_more (known_at s p x t) (known_at s q x t) t l (c.known_more t l) w.1, v.1) (omega arith))
      (λ n.
      split (fixed s q t && signs s q x (known_at s q x t) t)
      (λ y. rw (n, y) (c.bounded off t l (omega arith) n y))
      (λ y. rw (n, y) (omega arith)))

  pub steady_by : Steady s u p q x most
  steady_by =
      record {
        beaten = beaten;
        standing = standing;
        above_fewer = λ t l. above_fewer t;
        elsewhere_fewer = λ t r lt lr. elsewhere_fewer 0 0 t r lr (λ k l h. h);
        known_more = c.known_more;
        last_less = last_less;
      }
