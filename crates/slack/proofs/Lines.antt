-- Where a free line of p answers what is confirmed in q for a t whose parent is, X counts in q on that line.
-- Assumes nothing.
use Rattle.laws.proofs.Prelude.{ℕ, zero, suc, ◌+◌, ◌≤◌, ◌<◌, ◌≡◌, refl, true, false, List, ◌⊎◌, inl, inr, eq-eqb, arith, not-suc-le-zero, bit_or, split, either, clash}
use Rattle.laws.proofs.Prelude.{fails_by, bit, no_bit, or_bit}
use Rattle.position.proofs.Rules.{count, parent, never, Checked, is_contract, is_confirmed}
use Rattle.position.specs.declared.Position.{Position}
use Rattle.slots.proofs.Ancestors.{Above, here, up, above_le, above_all, holds_above, ancestor_above, above_ancestor}
use Rattle.slots.proofs.Conflicts.{parent_member}
use Rattle.slots.proofs.Parents.{parent_lower, parent_below, parent_has}
use Rattle.attainable.specs.Attainable.{secrets_of}
use Rattle.slack.specs.Beaten.{above, fixed, last}
use Rattle.slack.specs.Kept.{known_at, good_child, good_rounds, good, paid, kept_to}
use Rattle.slack.proofs.Onward.{Fewer, Steady}
use Rattle.slack.proofs.Ahead.{Linked, Forth}
use Rattle.slack.proofs.Fixed.{open_parts}
use Rattle.slack.proofs.AboveSets.{above_parts, Knows, held, shown, told, knows_parts, knows_from}
use Rattle.slack.proofs.Parts.{child_found, Unbeaten, free_parts, Elsewhere, kept_good}
use Rattle.slack.proofs.Rounds.{round_from_lem}
use Rattle.slack.proofs.Living.{payee_pays, still_confirmed, alive}
use Rattle.slack.proofs.Carried.{last_late, unbeaten_carried}

-- with its parent confirmed, or none, all above t but t is confirmed
module _ (s : List ℕ) (ok : Checked s) (q : Position) (linked : Linked s q) (t : ℕ) (l : t < count s) (f : fixed s q t ≡ true) where
  pub above_fixed : (h : ℕ) → Above s h t → (h ≡ t) ⊎ (is_confirmed q h ≡ true)
  unfolding fixed
  above_fixed h here = inl refl
  above_fixed h (up a r) =
      let o = parent_has ok t l a in
      inr
      (holds_above (λ k. is_confirmed q k ≡ true) (λ k i b c. linked.parents k i c (parent_has ok k i b)) r (parent_below ok t l o)
      (parent_member s (is_confirmed q) t f o))

  -- so what X knows at t is known at each other transaction
  known_anywhere : (x h i : ℕ) → Knows s q x t i → Knows s q x h i
  known_anywhere x h i (held b) = held b
  known_anywhere x h i (shown b) = shown b
  known_anywhere x h i (told k m a b) =
      let w = above_parts s ok q t k m a in
      either (above_fixed k (ancestor_above s k t w.2))
      (λ e. clash (eq-eqb k t e) w.1)
      (λ c. clash c w.0)

module _ (s u : List ℕ) (ok : Checked s) (p q : Position) (x most : ℕ) (steady : Steady s u p q x most) (forth : Forth s u p q x)
    (unpaid : paid s q x ≡ false) (off : ℕ) (late : p.mined ≤ off) (limit : off ≤ never)
    (t r w : ℕ) (l : t < count s) (m : r < count s) (f : fixed s q t ≡ true) (new : is_confirmed p r ≡ false) (now : is_confirmed q r ≡ true)
    (e : Elsewhere s u p x off t r w) where
  -- what X knows then at each transaction is no less
  knows : (h : ℕ) → Fewer (bit_or (known_at s p x t) (secrets_of s r)) (known_at s q x h)
  knows h i n b =
      knows_from s q x h i
      (either (or_bit (known_at s p x t) (secrets_of s r) i b)
      (λ y. known_anywhere s ok q forth.after t l f x h i (knows_parts s q x t i (steady.known_more t l i n y)))
      (λ y. shown (forth.shown r m new now i n y)))

  -- nothing comes before one of the line
  stood : (h : ℕ) → Above s h w → is_confirmed q h ≡ false → Unbeaten s u q x (known_at s q x h) 0 off h
  stood h a n =
      let know = bit_or (known_at s p x t) (secrets_of s r) in
      let b = above s p t in
      let until = last s u p x (known_at s p x t) off t in
      let long : off ≤ until = last_late s u p x (known_at s p x t) off t off (omega arith) limit in
      let low : h < count s = omega (arith, above_le a, e.low) in
      let on = above_ancestor s a in
      let live = alive s u p q x forth in
      let before : is_confirmed p h ≡ false = fails_by (is_confirmed p h) (λ y. clash (still_confirmed s u p q x forth h low y) n) in
      let late' : p.mined ≤ until = omega (arith, late, long) in
      unbeaten_carried s u p q x most steady know (known_at s q x h) 0 b off until (knows h) (λ k i y. clash y (no_bit k)) long late' h low
      (live.line know b until w h e.low low late' e.freed on n)
      ((free_parts s u p x know b until w e.freed).line h low on before)

  good_up : (n h : ℕ) → Above s h w → is_confirmed q h ≡ false → (is_contract s h ≡ false) ⊎ (good_child s (good_rounds s u q x off n) h ≡ true)
      → bit (good_rounds s u q x off (suc n)) h ≡ true
  good_up n h a c goes =
      let b = stood h a c in
      round_from_lem s u ok q x off n h (omega (arith, above_le a, e.low))
      (record { goes = goes; stood = b.stood; answers = λ k i y. clash y (b.alone k i) })

  -- so each of the line is good, by as many rounds as there are numbers up to its end
  Counted : ℕ → Type 0
  Counted h = Above s h w × ((n : ℕ) → w < h + n → is_confirmed q h ≡ false → bit (good_rounds s u q x off n) h ≡ true)

  end_good : (n : ℕ) → w < w + n → is_confirmed q w ≡ false → bit (good_rounds s u q x off n) w ≡ true
  end_good zero i c = absurd (omega arith)
  end_good (suc n) i c = good_up n w here c (inl (payee_pays s w x (free_parts s u p x _ _ _ w e.freed).payee))

  next_good : (h : ℕ) → h < count s → parent s h < h → Counted h → (n : ℕ) → w < parent s h + n → is_confirmed q (parent s h) ≡ false
      → bit (good_rounds s u q x off n) (parent s h) ≡ true
  unfolding Counted
  next_good h low a g zero i c = absurd (omega (arith, i, a, above_le g.0))
  next_good h low a g (suc n) i c =
      let o = parent_has ok h low a in
      let still : is_confirmed q h ≡ false = fails_by (is_confirmed q h) (λ y. clash (forth.after.parents h low y o) c) in
      good_up n (parent s h) (above_all (up a here) g.0) c
      (inr
      (child_found s (good_rounds s u q x off n) (parent s h) h
      (record { low = low; spends = o; parent_is = refl; member = g.1 n (omega (arith, i, a)) still })))

  line_good : (h : ℕ) → Above s h w → is_confirmed q h ≡ false → bit (good s u q x off) h ≡ true
  unfolding Counted good
  line_good h a c =
      (holds_above Counted (λ k i b g. (above_all (up b here) g.0, next_good k i b g)) a e.low (here, end_good)).1 (count s)
      (omega (arith, e.low)) c

  -- and the topmost that is not confirmed has its parent confirmed, or none
  topmost : (k h : ℕ) → h < k → Above s h w → is_confirmed q h ≡ false → kept_to s u q x off ≡ true
  topmost zero h i a c = absurd (not-suc-le-zero i)
  topmost (suc k) h i a c =
      let low : h < count s = omega (arith, above_le a, e.low) in
      split (fixed s q h)
      (λ y. kept_good s u q x off h low y (line_good h a c))
      (λ y.
      let z = open_parts s q h y in
      let b = parent_lower ok h low z.0 in
      topmost k (parent s h) (omega (arith, i, b)) (above_all (up b here) a) z.1)

  pub line_kept : kept_to s u q x off ≡ true
  line_kept = topmost (suc w) w (omega arith) here ((alive s u p q x forth).unpaid _ _ _ w e.low e.freed unpaid)
