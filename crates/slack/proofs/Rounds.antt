-- The rounds of what X counts on grow: each has what the one before has.
-- Assumes nothing.
use Rattle.laws.proofs.Prelude.{ℕ, zero, suc, ◌≤◌, ◌<◌, ◌≡◌, sym, ◌∙◌, true, List, inl, inr, arith, eq-or-lt_of_le, le_of_suc-le-suc, either, clash, bit, no_bit, set_bit}
use Rattle.position.proofs.Rules.{count, Checked}
use Rattle.position.specs.declared.Position.{Position}
use Rattle.slack.specs.Beaten.{stands}
use Rattle.slack.specs.Kept.{known_at, good_child, good_by, good_rounds, good}
use Rattle.slack.proofs.Onward.{Within}
use Rattle.slack.proofs.Parts.{child_some, child_found, Answer, party, child, line, Good, good_parts, good_from}

module _ (s u : List ℕ) (ok : Checked s) (p : Position) (x off : ℕ) where
  -- a member of a round is good by the round before
  pub round_parts : (n t : ℕ) → t < count s → bit (good_rounds s u p x off (suc n)) t ≡ true → Good s u p x off (good_rounds s u p x off n) t
  unfolding good_rounds
  round_parts n t l h =
      let before = good_rounds s u p x off n in
      good_parts s u p x off before t (sym (set_bit (count s) (good_by s u p x off before) ok.sized.few t l) ∙ h)

  pub round_from_lem : (n t : ℕ) → t < count s → Good s u p x off (good_rounds s u p x off n) t → bit (good_rounds s u p x off (suc n)) t ≡ true
  unfolding good_rounds
  round_from_lem n t l g =
      let before = good_rounds s u p x off n in
      set_bit (count s) (good_by s u p x off before) ok.sized.few t l ∙ good_from s u p x off before t g

  pub round_stood : (n t : ℕ) → t < count s → bit (good_rounds s u p x off n) t ≡ true → stands s u p x (known_at s p x t) off t ≡ true
  unfolding good_rounds
  round_stood zero t l h = clash h (no_bit t)
  round_stood (suc n) t l h = (round_parts n t l h).stood

  module _ (a b : ℕ) (w : Within s a b) where
    child_more : (r : ℕ) → good_child s a r ≡ true → good_child s b r ≡ true
    child_more r h =
        let c = child_some s a r h in
        let k = c.1 in
        child_found s b r c.0
        (record { low = k.low; spends = k.spends; parent_is = k.parent_is; member = w c.0 k.low k.member })

    answer_more : (t r : ℕ) → Answer s u p x off a t r → Answer s u p x off b t r
    answer_more t r (party e h) = party e h
    answer_more t r (child e h) = child e (child_more r h)
    answer_more t r (line h) = line h

    good_more : (t : ℕ) → Good s u p x off a t → Good s u p x off b t
    good_more t g =
        record {
          goes = either g.goes inl (λ y. inr (child_more t y));
          stood = g.stood;
          answers = λ r l e. answer_more t r (g.answers r l e);
        }

  round_next : (n : ℕ) → Within s (good_rounds s u p x off n) (good_rounds s u p x off (suc n))
  unfolding good_rounds
  round_next zero t l h = clash h (no_bit t)
  round_next (suc n) t l h =
      round_from_lem (suc n) t l
      (good_more (good_rounds s u p x off n) (good_rounds s u p x off (suc n)) (round_next n) t (round_parts n t l h))

  rounds_within : (n m : ℕ) → n ≤ m → Within s (good_rounds s u p x off n) (good_rounds s u p x off m)
  rounds_within n zero h t l b = let e : n ≡ 0 = omega arith in rw e at b
  rounds_within n (suc m) h t l b =
      either (eq-or-lt_of_le h)
      (λ e. rw e at b)
      (λ k. round_next m t l (rounds_within n m (le_of_suc-le-suc k) t l b))

  pub round_good : (n : ℕ) → n ≤ count s → Within s (good_rounds s u p x off n) (good s u p x off)
  unfolding good
  round_good n h = rounds_within n (count s) h
