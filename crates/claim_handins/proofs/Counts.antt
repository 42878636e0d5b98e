-- Slip 9's counts beside a position and beside that whose block is emptied: a step of kind 1, 2 or 3, and a row of them.
-- Assumes nothing.
use Rattle.laws.proofs.Prelude.{ℕ, ◌≡◌, refl, sym, ◌∙◌, fun_ext, true, List, [], ◌∷◌, eqb, split, and_parts, every}
use Rattle.position.proofs.Rules.{accepted, FourBytes, step}
use Rattle.position.specs.declared.Position.{Position}
use Rattle.dated.specs.declared.Dated.{Dated}
use Rattle.dated.specs.Opens.{at_hand, opens}
use Rattle.dated.specs.Dated.{first_open, noted, dated_step}
use Rattle.dated.proofs.Stepping.{step_taken, step_refused}
use Rattle.dated.proofs.Forgetting.{step_number_lem}
use Rattle.claim_handins.specs.Early.{early}
use Rattle.claim_handins.specs.Claim.{emptied, emptied_dated, Unwatched, play_dated}
use Rattle.claim_handins.proofs.Emptied.{mined_same, confirmed_same, has_same, lock_same}
use Rattle.claim_handins.proofs.Rows.{refused_emptied, position_emptied}

-- what is open, and so the counts once a position is seen
module _ (s u : List ℕ) (p : Position) where
  hand_same : at_hand s (emptied p) ≡ at_hand s p
  unfolding at_hand
  hand_same = fun_ext (λ t. fun_ext (λ party. rw (has_same p s)))

  opens_same : opens s u (emptied p) ≡ opens s u p
  unfolding opens
  opens_same = fun_ext (λ t. rw (hand_same, confirmed_same p, lock_same p s u, mined_same p))

  first_same : first_open s u (emptied p) ≡ first_open s u p
  unfolding first_open
  first_same = fun_ext (λ t. fun_ext (λ c. rw (opens_same, mined_same p)))

  noted_same : (counts : List ℕ) → noted s u (emptied p) counts ≡ noted s u p counts
  unfolding noted
  noted_same counts = rw first_same

module _ (s u : List ℕ) (w : Unwatched u) where
  dated_emptied : (b : FourBytes) → early b ≡ true → (d : Dated) → (dated_step s u (emptied_dated d) b).dated ≡ emptied_dated (dated_step s u d b).dated
  unfolding emptied_dated
  dated_emptied b e d =
      let same : (step s u d.position b).refusal ≡ (step s u (emptied d.position) b).refusal = refused_emptied s u w b e d.position in
      split (eqb (step s u d.position b).refusal accepted)
      (λ y.
      rw (
        step_taken s u d b y,
        step_taken s u (emptied_dated d) b (rw same at y),
        position_emptied s u w b e d.position,
        noted_same s u (step s u d.position b).position d.opened,
      ))
      (λ y. rw (step_refused s u d b y, step_refused s u (emptied_dated d) b (rw same at y)))

  pub number_emptied : (b : FourBytes) → early b ≡ true → (d : Dated) → (dated_step s u d b).refusal ≡ (dated_step s u (emptied_dated d) b).refusal
  unfolding emptied_dated
  number_emptied b e d = step_number_lem s u d b ∙ refused_emptied s u w b e d.position ∙ sym (step_number_lem s u (emptied_dated d) b)

  pub played_emptied : (bs : List FourBytes) → every early bs ≡ true → (d : Dated) → emptied_dated (play_dated s u bs d) ≡ play_dated s u bs (emptied_dated d)
  unfolding play_dated every
  played_emptied [] e d = refl
  played_emptied (b ∷ bs) e d =
      let h = and_parts (early b) (every early bs) e in
      rw (dated_emptied b h.0 d) (played_emptied bs h.1 (dated_step s u d b).dated)
