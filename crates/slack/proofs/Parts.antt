-- What X counts on, part by part: what a good transaction passes, a free line, and a good child.
-- Assumes nothing.
use Rattle.laws.proofs.Prelude.{ℕ, ◌<◌, ◌≡◌, Bool, true, false, not, ◌&&◌, ◌||◌, List, ◌⊎◌, inl, inr, eqb, eqb-true, eq-eqb, not-true, bit_or, split, either, and_parts}
use Rattle.laws.proofs.Prelude.{or_parts, or_right, implied, clash, any_below, all_below, all_at, all_from, any_some, any_none, any_found, any_all_false, bit}
use Rattle.position.proofs.Rules.{count, parent, opening, coin_of, is_payee, is_contract, is_self_or_ancestor, is_confirmed}
use Rattle.position.specs.declared.Position.{Position}
use Rattle.attainable.specs.Attainable.{gone, secrets_of}
use Rattle.slack.specs.Beaten.{above, fixed, stands, beats, last}
use Rattle.slack.specs.Kept.{known_at, unbeaten, free, comes_for_party, good_child, elsewhere_free, answered, good_by, good, paid, reached, kept_to}

-- what stands is not gone
pub stands_live : (s u : List ℕ) (p : Position) (x know off t : ℕ) → stands s u p x know off t ≡ true → gone s p t ≡ false
unfolding stands
stands_live s u p x know off t h = not-true (gone s p t) (and_parts (not (gone s p t)) _ h).0

-- a child in a set
pub record Child (s : List ℕ) (good r c : ℕ) : Type 0 where
  pub low : c < count s
  pub spends : opening s c ≡ false
  pub parent_is : parent s c ≡ r
  pub member : bit good c ≡ true

module _ (s : List ℕ) (good r : ℕ) where
  pub child_some : good_child s good r ≡ true → (c : ℕ) × Child s good r c
  unfolding good_child
  child_some h =
      let w = any_some (count s) (λ c. not (opening s c) && (eqb (parent s c) r && bit good c)) h in
      let a = and_parts (not (opening s w.0)) _ w.2 in
      let b = and_parts (eqb (parent s w.0) r) (bit good w.0) a.1 in
      (w.0, record { low = w.1; spends = not-true (opening s w.0) a.0; parent_is = eqb-true (parent s w.0) r b.0; member = b.1 })

  pub child_found : (c : ℕ) → Child s good r c → good_child s good r ≡ true
  unfolding good_child
  child_found c h =
      any_found (count s) c (λ k. not (opening s k) && (eqb (parent s k) r && bit good k)) h.low
      (rw (h.spends, eq-eqb (parent s c) r h.parent_is, h.member))

-- how one that comes before t is answered
pub data Answer (s u : List ℕ) (p : Position) (x off good t r : ℕ) : Type 0 where
  party : eqb r t ≡ false → comes_for_party s u p x t r ≡ true → Answer s u p x off good t r
  child : eqb r t ≡ false → good_child s good r ≡ true → Answer s u p x off good t r
  line : elsewhere_free s u p x off t r ≡ true → Answer s u p x off good t r

-- what a good transaction passes
pub record Good (s u : List ℕ) (p : Position) (x off good t : ℕ) : Type 0 where
  pub goes : (is_contract s t ≡ false) ⊎ (good_child s good t ≡ true)
  pub stood : stands s u p x (known_at s p x t) off t ≡ true
  pub answers : (r : ℕ) → r < count s → beats s u p x 0 off t r ≡ true → Answer s u p x off good t r

module _ (s u : List ℕ) (p : Position) (x off good t : ℕ) where
  module _ (r : ℕ) where
    answer_parts : answered s u p x off good t r ≡ true → Answer s u p x off good t r
    unfolding answered
    answer_parts h =
        either (or_parts (not (eqb r t) && (comes_for_party s u p x t r || good_child s good r)) (elsewhere_free s u p x off t r) h)
        (λ y.
        let w = and_parts (not (eqb r t)) _ y in
        let e = not-true (eqb r t) w.0 in
        either (or_parts (comes_for_party s u p x t r) (good_child s good r) w.1) (party e) (child e))
        line

    answer_from : Answer s u p x off good t r → answered s u p x off good t r ≡ true
    unfolding answered
    answer_from (party e h) = rw (e, h)
    answer_from (child e h) = rw (e, or_right (comes_for_party s u p x t r) (good_child s good r) h)
    answer_from (line h) = or_right (not (eqb r t) && (comes_for_party s u p x t r || good_child s good r)) (elsewhere_free s u p x off t r) h

  pub good_parts : good_by s u p x off good t ≡ true → Good s u p x off good t
  unfolding good_by
  good_parts h =
      let a = and_parts (not (is_contract s t) || good_child s good t) _ h in
      let b = and_parts (stands s u p x (known_at s p x t) off t) _ a.1 in
      record {
        goes = either (or_parts (not (is_contract s t)) (good_child s good t) a.0) (λ y. inl (not-true (is_contract s t) y)) inr;
        stood = b.0;
        answers = λ r l e.
            answer_parts r
            (implied (beats s u p x 0 off t r) (answered s u p x off good t r)
            (all_at (count s) (λ k. not (beats s u p x 0 off t k) || answered s u p x off good t k) b.1 r l) e);
      }

  goes_from : (is_contract s t ≡ false) ⊎ (good_child s good t ≡ true) → (not (is_contract s t) || good_child s good t) ≡ true
  goes_from (inl e) = rw e
  goes_from (inr e) = or_right (not (is_contract s t)) (good_child s good t) e

  pub good_from : Good s u p x off good t → good_by s u p x off good t ≡ true
  unfolding good_by
  good_from g =
      let all : all_below (count s) (λ r. not (beats s u p x 0 off t r) || answered s u p x off good t r) ≡ true =
      all_from (count s) (λ r. not (beats s u p x 0 off t r) || answered s u p x off good t r)
      (λ r l. split (beats s u p x 0 off t r) (λ e. rw (e, answer_from r (g.answers r l e))) (λ e. rw e)) in
      rw (goes_from g.goes, g.stood, all)

-- one that nothing comes before
pub record Unbeaten (s u : List ℕ) (p : Position) (x know also off t : ℕ) : Type 0 where
  pub stood : stands s u p x know off t ≡ true
  pub alone : (r : ℕ) → r < count s → beats s u p x also off t r ≡ false

-- a line of such
pub record Free (s u : List ℕ) (p : Position) (x know also off t : ℕ) : Type 0 where
  pub payee : is_payee s t x ≡ true
  pub fresh : is_confirmed p t ≡ false
  pub line : (w : ℕ) → w < count s → is_self_or_ancestor s w t ≡ true → is_confirmed p w ≡ false → Unbeaten s u p x know also off w

module _ (s u : List ℕ) (p : Position) (x know also off : ℕ) where
  unbeaten_parts : (t : ℕ) → unbeaten s u p x know also off t ≡ true → Unbeaten s u p x know also off t
  unfolding unbeaten
  unbeaten_parts t h =
      let a = and_parts (stands s u p x know off t) _ h in
      record { stood = a.0; alone = any_none (count s) (beats s u p x also off t) (not-true _ a.1) }

  unbeaten_from : (t : ℕ) → Unbeaten s u p x know also off t → unbeaten s u p x know also off t ≡ true
  unfolding unbeaten
  unbeaten_from t h = rw (h.stood, any_all_false (count s) (beats s u p x also off t) h.alone)

  along : ℕ → ℕ → Bool
  along t w = not (is_self_or_ancestor s w t) || (is_confirmed p w || unbeaten s u p x know also off w)

  pub free_parts : (t : ℕ) → free s u p x know also off t ≡ true → Free s u p x know also off t
  unfolding free along
  free_parts t h =
      let a = and_parts (is_payee s t x) _ h in
      let b = and_parts (not (is_confirmed p t)) (all_below (count s) (along t)) a.1 in
      record {
        payee = a.0;
        fresh = not-true (is_confirmed p t) b.0;
        line = λ w l up e.
            either (or_parts (is_confirmed p w) (unbeaten s u p x know also off w)
            (implied (is_self_or_ancestor s w t) (is_confirmed p w || unbeaten s u p x know also off w) (all_at (count s) (along t) b.1 w l) up))
            (λ y. clash y e)
            (unbeaten_parts w);
      }

  pub free_from : (t : ℕ) → Free s u p x know also off t → free s u p x know also off t ≡ true
  unfolding free along
  free_from t f =
      let all : all_below (count s) (along t) ≡ true =
      all_from (count s) (along t)
      (λ w l.
      split (is_self_or_ancestor s w t)
      (λ up. split (is_confirmed p w) (λ e. rw (up, e)) (λ e. rw (up, e, unbeaten_from w (f.line w l up e))))
      (λ e. rw e)) in
      rw (f.payee, f.fresh, all)

-- a free line of another coin
pub record Elsewhere (s u : List ℕ) (p : Position) (x off t r w : ℕ) : Type 0 where
  pub low : w < count s
  pub coin : not (eqb (coin_of s w) (coin_of s t)) ≡ true
  pub freed : free s u p x (bit_or (known_at s p x t) (secrets_of s r)) (above s p t) (last s u p x (known_at s p x t) off t) w ≡ true

module _ (s u : List ℕ) (p : Position) (x off t r : ℕ) where
  elsewhere : ℕ → Bool
  elsewhere w =
      not (eqb (coin_of s w) (coin_of s t))
      && free s u p x (bit_or (known_at s p x t) (secrets_of s r)) (above s p t) (last s u p x (known_at s p x t) off t) w

  pub elsewhere_some : elsewhere_free s u p x off t r ≡ true → (w : ℕ) × Elsewhere s u p x off t r w
  unfolding elsewhere_free elsewhere
  elsewhere_some h =
      let k = any_some (count s) elsewhere h in
      let c = and_parts (not (eqb (coin_of s k.0) (coin_of s t))) _ k.2 in
      (k.0, record { low = k.1; coin = c.0; freed = c.1 })

  pub elsewhere_found : (w : ℕ) → Elsewhere s u p x off t r w → elsewhere_free s u p x off t r ≡ true
  unfolding elsewhere_free elsewhere
  elsewhere_found w e = any_found (count s) w elsewhere e.low (rw (e.coin, e.freed))

-- kept: X is paid, or a good transaction has its parent confirmed or none
module _ (s u : List ℕ) (p : Position) (x off : ℕ) where
  pub kept_parts : kept_to s u p x off ≡ true → (paid s p x ≡ true) ⊎ ((t : ℕ) × (t < count s) × (fixed s p t ≡ true) × (bit (good s u p x off) t ≡ true))
  unfolding kept_to reached
  kept_parts h =
      either (or_parts (paid s p x) (any_below (count s) (reached s u p x off)) h)
      inl
      (λ y.
      let k = any_some (count s) (reached s u p x off) y in
      let c = and_parts (fixed s p k.0) (bit (good s u p x off) k.0) k.2 in
      inr (k.0, k.1, c.0, c.1))

  pub kept_paid : paid s p x ≡ true → kept_to s u p x off ≡ true
  unfolding kept_to
  kept_paid h = rw h

  pub kept_good : (t : ℕ) → t < count s → fixed s p t ≡ true → bit (good s u p x off) t ≡ true → kept_to s u p x off ≡ true
  unfolding kept_to reached
  kept_good t l f g = or_right (paid s p x) _ (any_found (count s) t (reached s u p x off) l (rw (f, g)))
