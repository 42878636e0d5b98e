-- What X keeps up to a height, it keeps after a step without it.
-- Assumes nothing.
use Rattle.laws.proofs.Prelude.{ℕ, zero, suc, ◌≤◌, ◌<◌, ◌≡◌, refl, true, false, not, ◌&&◌, List, eqb, eqb-false, eq-eqb, not-true, arith, split, either, clash, and_parts}
use Rattle.laws.proofs.Prelude.{fails_by, any_some, bit, no_bit}
use Rattle.position.proofs.Rules.{count, never, Checked, Fit, is_contract, conflict, is_confirmed, confirmed_to}
use Rattle.position.specs.declared.Position.{Position}
use Rattle.slots.proofs.Ancestors.{here, above_le}
use Rattle.attainable.specs.Attainable.{gone}
use Rattle.slack.specs.Beaten.{fixed, can_come_elsewhere}
use Rattle.slack.specs.Kept.{known_at, comes_for_party, good_child, elsewhere_free, good_rounds, good, paid, kept_to}
use Rattle.slack.proofs.Onward.{Steady}
use Rattle.slack.proofs.Ahead.{Ahead, Forth}
use Rattle.slack.proofs.Fixed.{fixed_from, fixed_stays}
use Rattle.slack.proofs.NextPosition.{steady}
use Rattle.slack.proofs.Confirming.{stands_new, forth}
use Rattle.slack.proofs.Parts.{stands_live, child_some, Answer, party, child, line, Good, elsewhere_some, kept_parts, kept_paid, kept_good}
use Rattle.slack.proofs.Rounds.{round_parts, round_good}
use Rattle.slack.proofs.Dead.{gone_met, gone_find}
use Rattle.slack.proofs.Living.{paid_by, still_confirmed, alive}
use Rattle.slack.proofs.Carried.{round_carried}
use Rattle.slack.proofs.Lines.{above_fixed, line_kept}

module _ (s u : List ℕ) (ok : Checked s) (p q : Position) (x most : ℕ) (steady : Steady s u p q x most) (forth : Forth s u p q x)
    (off : ℕ) (small : off ≤ most) (late : p.mined ≤ off) (limit : off ≤ never) where
  module _ (unpaid : paid s q x ≡ false) (n : ℕ)
      (rest : (t : ℕ) → t < count s → fixed s q t ≡ true → bit (good_rounds s u p x off n) t ≡ true → kept_to s u q x off ≡ true)
      (t : ℕ) (l : t < count s) (f : fixed s q t ≡ true) (g : Good s u p x off (good_rounds s u p x off n) t) where
    -- a good child of what is confirmed
    child_kept : (r : ℕ) → is_confirmed q r ≡ true → good_child s (good_rounds s u p x off n) r ≡ true → kept_to s u q x off ≡ true
    child_kept r y h =
        let w = child_some s (good_rounds s u p x off n) r h in
        let c = w.0 in
        let k = w.1 in
        rest c k.low (fixed_from s q c (rw k.parent_is y)) k.member

    elsewhere_kept : (r : ℕ) → r < count s → is_confirmed p r ≡ false → is_confirmed q r ≡ true → elsewhere_free s u p x off t r ≡ true
        → kept_to s u q x off ≡ true
    elsewhere_kept r m new now h =
        let w = elsewhere_some s u p x off t r h in
        line_kept s u ok p q x most steady forth unpaid off late limit t r w.0 l m f new now w.1

    -- what was in the way is answered
    answer_kept : (r : ℕ) → r < count s → is_confirmed p r ≡ false → is_confirmed q r ≡ true → Answer s u p x off (good_rounds s u p x off n) t r
        → kept_to s u q x off ≡ true
    unfolding comes_for_party
    answer_kept r m new now (party e h) =
        let none = not-true (bit (can_come_elsewhere s u p x 0 t) r) (and_parts (not (is_contract s r)) _ h).1 in
        kept_paid s u q x off (paid_by s q x r m now (forth.pays_party t r l m new now none))
    answer_kept r m new now (child e h) = child_kept r now h
    answer_kept r m new now (line h) = elsewhere_kept r m new now h

    -- t was not gone, so no rival of it was confirmed
    fresh : (r : ℕ) → r < count s → conflict s r t ≡ true → eqb r t ≡ false → is_confirmed p r ≡ false
    fresh r m c e =
        fails_by (is_confirmed p r)
        (λ y. clash (gone_met s p t t r here m c y e) (stands_live s u p x (known_at s p x t) off t g.stood))

    -- t is confirmed for another than X: only a free line answers
    self_answer : Answer s u p x off (good_rounds s u p x off n) t t → elsewhere_free s u p x off t t ≡ true
    self_answer (party e h) = clash (eq-eqb t t refl) e
    self_answer (child e h) = clash (eq-eqb t t refl) e
    self_answer (line h) = h

    confirmed_kept : is_confirmed q t ≡ true → kept_to s u q x off ≡ true
    confirmed_kept now =
        either g.goes
        (λ pays.
        split (eqb (confirmed_to q t) x)
        (λ e. kept_paid s u q x off (paid_by s q x t l now e))
        (λ e.
        elsewhere_kept t l (stands_new s u p x (known_at s p x t) off t g.stood) now
        (self_answer (g.answers t l (forth.pays_other (known_at s p x t) 0 off t l pays g.stood now e)))))
        (child_kept t now)

    dead_kept : gone s q t ≡ true → is_confirmed q t ≡ false → kept_to s u q x off ≡ true
    dead_kept y not_yet =
        let w = gone_find s q t y not_yet in
        let h = w.0 in
        let r = w.1 in
        either (above_fixed s ok q forth.after t l f h w.2)
        (λ e.
        let c : conflict s r t ≡ true = rw e at w.4 in
        let apart : eqb r t ≡ false = rw e at w.6 in
        let new = fresh r w.3 c apart in
        answer_kept r w.3 new w.5
        (g.answers r w.3 (forth.in_the_way (known_at s p x t) 0 off t r l w.3 late g.stood c apart new w.5)))
        (λ c.
        let low : h < count s = omega (arith, above_le w.2, l) in
        absurd (eqb-false r h w.6 (forth.after.alone h r low w.3 c w.5 w.4)))

  -- what is good in p, by so many rounds, with its parent confirmed in q, or none
  round_kept : paid s q x ≡ false → (n : ℕ) → n ≤ count s → (t : ℕ) → t < count s → fixed s q t ≡ true → bit (good_rounds s u p x off n) t ≡ true
      → kept_to s u q x off ≡ true
  unfolding good_rounds
  round_kept unpaid zero i t l f b = clash b (no_bit t)
  round_kept unpaid (suc n) i t l f b =
      let g = round_parts s u ok p x off n t l b in
      let rest = round_kept unpaid n (omega arith) in
      split (gone s q t)
      (λ y. split (is_confirmed q t) (confirmed_kept unpaid n rest t l f g) (dead_kept unpaid n rest t l f g y))
      (λ y.
      kept_good s u q x off t l f
      (round_good s u ok q x off (suc n) i t l
      (round_carried s u ok p q x most steady (alive s u p q x forth) unpaid off off (omega arith) small late (omega arith) (suc n) t l y b)))

  still_paid : paid s p x ≡ true → paid s q x ≡ true
  unfolding paid
  still_paid h =
      let w = any_some (count s) (λ t. is_confirmed p t && eqb (confirmed_to p t) x) h in
      let c = and_parts (is_confirmed p w.0) (eqb (confirmed_to p w.0) x) w.2 in
      paid_by s q x w.0 w.1 (still_confirmed s u p q x forth w.0 w.1 c.0) (rw (forth.stays w.0 w.1 c.0).1 c.1)

  kept_by : kept_to s u p x off ≡ true → kept_to s u q x off ≡ true
  unfolding good
  kept_by h =
      split (paid s q x)
      (kept_paid s u q x off)
      (λ unpaid.
      either (kept_parts s u p x off h)
      (λ y. kept_paid s u q x off (still_paid y))
      (λ k. round_kept unpaid (count s) (omega arith) k.0 k.1 (fixed_stays s ok p q (still_confirmed s u p q x forth) k.0 k.1 k.2) k.3))

pub keeping : (s u : List ℕ) → Fit s u → (p q : Position) (x : ℕ) → Ahead s u p q x → (off : ℕ) → p.mined ≤ off → off ≤ 20000
    → kept_to s u p x off ≡ true → kept_to s u q x off ≡ true
keeping s u fit p q x o off late small h =
    kept_by s u fit.checked p q x 20000 (steady s u fit p q x o) (forth s u fit p q x o) off small late (omega arith) h
