-- What X counts on in p, up to a height, it counts on in q, up to one that is no greater, where it is not gone there.
-- Assumes nothing.
use Rattle.laws.proofs.Prelude.{ℕ, zero, suc, ◌≤◌, ◌<◌, ◌≡◌, true, false, not, ◌&&◌, List, inl, inr, not-true, arith, bit_or, split, either, clash, and_parts, fails_by}
use Rattle.laws.proofs.Prelude.{bit, or_bit}
use Rattle.position.proofs.Rules.{count, never, Checked, is_contract, is_confirmed}
use Rattle.position.specs.declared.Position.{Position}
use Rattle.soonest.proofs.Bounds.{greater_left}
use Rattle.attainable.specs.Attainable.{gone, secrets_of}
use Rattle.attainable.proofs.Masks.{or_left, or_last}
use Rattle.slack.specs.Beaten.{above, fixed, signs, lock_beside, can_come_elsewhere, beats, last}
use Rattle.slack.specs.Kept.{known_at, free, comes_for_party, good_child, elsewhere_free, good_rounds, paid}
use Rattle.slack.proofs.Onward.{Within, Fewer, Steady, Alive}
use Rattle.slack.proofs.Parts.{child_some, child_found, Answer, party, child, line, Good, Unbeaten, Free, free_parts, free_from, elsewhere_some, elsewhere_found}
use Rattle.slack.proofs.Rounds.{round_parts, round_from_lem, round_stood}
use Rattle.slack.proofs.Dead.{beats_live}

-- a height up to which X counts on t is no later than the last one at which it answers
pub last_late : (s u : List ℕ) (p : Position) (x know off t m : ℕ) → m ≤ off → m ≤ never → m ≤ last s u p x know off t
unfolding last
last_late s u p x know off t m h k =
    let own = lock_beside s u p t t in
    split (fixed s p t && signs s p x know t)
    (λ e. rw e (omega (arith, greater_left off own, h)))
    (λ e. rw e k)

-- a free line is carried
module _ (s u : List ℕ) (p q : Position) (x most : ℕ) (steady : Steady s u p q x most)
    (know known a b off more : ℕ) (knows : Fewer know known) (w : Within s a b) (less : off ≤ more) (late : p.mined ≤ more) where
  pub unbeaten_carried : (t : ℕ) → t < count s → gone s q t ≡ false → Unbeaten s u p x know b more t → Unbeaten s u q x known a off t
  unbeaten_carried t l g h =
      record {
        stood = steady.standing know known off more t l knows less late g h.stood;
        alone = λ r m. fails_by (beats s u q x a off t r) (λ y. clash (steady.beaten a b off more t r l m w less late g y) (h.alone r m));
      }

  free_carried : Alive s u p q x → paid s q x ≡ false → (t : ℕ) → t < count s → free s u p x know b more t ≡ true → Free s u q x known a off t
  free_carried alive unpaid t l h =
      let f = free_parts s u p x know b more t h in
      record {
        payee = f.payee;
        fresh = alive.unpaid know b more t l h unpaid;
        line = λ k m up n.
            let before : is_confirmed p k ≡ false = fails_by (is_confirmed p k) (λ y. clash (alive.stays k m y) n) in
            unbeaten_carried k m (alive.line know b more t k l m late h up n) (f.line k m up before);
      }

module _ (s u : List ℕ) (ok : Checked s) (p q : Position) (x most : ℕ) (steady : Steady s u p q x most) (alive : Alive s u p q x)
    (unpaid : paid s q x ≡ false) (off more : ℕ) (less : off ≤ more) (small : more ≤ most) (late : p.mined ≤ more) (limit : p.mined ≤ never) where
  elsewhere_carried : (t r : ℕ) → t < count s → elsewhere_free s u p x more t r ≡ true → elsewhere_free s u q x off t r ≡ true
  elsewhere_carried t r l h =
      let k = elsewhere_some s u p x more t r h in
      let have = known_at s p x t in
      let had = known_at s q x t in
      let shows = secrets_of s r in
      let until = last s u p x have more t in
      let then = last s u q x had off t in
      let knows : Fewer (bit_or have shows) (bit_or had shows) =
      λ i j b. either (or_bit have shows i b) (λ y. or_left had shows i (steady.known_more t l i j y)) (or_last had shows i) in
      let f =
      free_carried s u p q x most steady (bit_or have shows) (bit_or had shows) (above s q t) (above s p t) then until
      knows (steady.above_fewer t l) (steady.last_less off more t l less small)
      (last_late s u p x have more t p.mined late limit) alive unpaid k.0 k.1.low k.1.freed in
      elsewhere_found s u q x off t r k.0
      (record { low = k.1.low; coin = k.1.coin; freed = free_from s u q x (bit_or had shows) (above s q t) then k.0 f })

  party_carried : (t r : ℕ) → t < count s → r < count s → comes_for_party s u p x t r ≡ true → comes_for_party s u q x t r ≡ true
  unfolding comes_for_party
  party_carried t r l m h =
      let c = and_parts (not (is_contract s r)) (not (bit (can_come_elsewhere s u p x 0 t) r)) h in
      let n =
      fails_by (bit (can_come_elsewhere s u q x 0 t) r)
      (λ y. clash (steady.elsewhere_fewer t r l m y) (not-true (bit (can_come_elsewhere s u p x 0 t) r) c.1)) in
      rw (c.0, n)

  -- what is good by the next round, where what is good by this one is carried
  module _ (n : ℕ)
      (rest : (t : ℕ) → t < count s → gone s q t ≡ false → bit (good_rounds s u p x more n) t ≡ true → bit (good_rounds s u q x off n) t ≡ true) where
    child_carried : (r : ℕ) → gone s q r ≡ false → good_child s (good_rounds s u p x more n) r ≡ true → good_child s (good_rounds s u q x off n) r ≡ true
    child_carried r g h =
        let w = child_some s (good_rounds s u p x more n) r h in
        let c = w.0 in
        let k = w.1 in
        let lives = alive.child (known_at s p x c) more c k.low k.spends (round_stood s u ok p x more n c k.low k.member) (rw k.parent_is g) in
        child_found s (good_rounds s u q x off n) r c
        (record { low = k.low; spends = k.spends; parent_is = k.parent_is; member = rest c k.low lives k.member })

    answer_carried : (t r : ℕ) → t < count s → r < count s → beats s u q x 0 off t r ≡ true → Answer s u p x more (good_rounds s u p x more n) t r
        → Answer s u q x off (good_rounds s u q x off n) t r
    answer_carried t r l m b (party e h) = party e (party_carried t r l m h)
    answer_carried t r l m b (child e h) = child e (child_carried r (beats_live s u ok q x 0 off t r m e b) h)
    answer_carried t r l m b (line h) = line (elsewhere_carried t r l h)

    good_carried : (t : ℕ) → t < count s → gone s q t ≡ false → Good s u p x more (good_rounds s u p x more n) t → Good s u q x off (good_rounds s u q x off n) t
    good_carried t l g h =
        record {
          goes = either h.goes inl (λ y. inr (child_carried t g y));
          stood = steady.standing (known_at s p x t) (known_at s q x t) off more t l (steady.known_more t l) less late g h.stood;
          answers = λ r m b.
              answer_carried t r l m b (h.answers r m (steady.beaten 0 0 off more t r l m (λ k i y. y) less late g b));
        }

  pub round_carried : (n t : ℕ) → t < count s → gone s q t ≡ false → bit (good_rounds s u p x more n) t ≡ true → bit (good_rounds s u q x off n) t ≡ true
  unfolding good_rounds
  round_carried zero t l g h = h
  round_carried (suc n) t l g h =
      round_from_lem s u ok q x off n t l (good_carried n (round_carried n) t l g (round_parts s u ok p x more n t l h))
