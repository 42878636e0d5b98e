-- A round is the same where each step is tried from the position before it.
-- Assumes nothing.
use Rattle.laws.proofs.Prelude.{ℕ, ◌≡◌, refl, sym, ap, ◌∙◌, Bool, true, false, List, [], ◌∷◌, ◌++◌, append_assoc, append-nil, length, arith, split, either}
use Rattle.position.proofs.Rules.{start, FourBytes, step, run_from}
use Rattle.position.specs.declared.Position.{Position}
use Rattle.position.proofs.RowSteps.{run_ends}
use Rattle.call_shrink.specs.Shrink.{still_refused, can_go, round_from, round}
use Rattle.call_shrink.specs.Forms.Round.{goes_at, kept_step, position_past, round_at}
use Rattle.call_shrink.proofs.Rows.{row_longer, still_append, first_accepted}
use Rattle.call_shrink.proofs.Rounding.{round_drops, round_keeps, round_ends, can_still}

module _ (s u : List ℕ) (number : ℕ) where
  -- a turn of the form
  pub at_none : (p : Position) → round_at s u number p [] ≡ []
  unfolding round_at
  at_none p = refl

  at_drops : (p : Position) (b : FourBytes) (after : List FourBytes) → goes_at s u number p after ≡ true → round_at s u number p (b ∷ after) ≡ round_at s u number p after
  unfolding round_at kept_step position_past
  at_drops p b after h = rw (h, round_at)

  at_keeps : (p : Position) (b : FourBytes) (after : List FourBytes) → goes_at s u number p after ≡ false
      → round_at s u number p (b ∷ after) ≡ b ∷ round_at s u number (step s u p b).position after
  unfolding round_at kept_step position_past
  at_keeps p b after h = rw (h, round_at)

  pub at_turn : (p : Position) (b : FourBytes) (after : List FourBytes) (goes : Bool) (q : Position) → goes ≡ goes_at s u number p after → q ≡ position_past s u goes p b
      → round_at s u number p (b ∷ after) ≡ kept_step goes b ++ round_at s u number q after
  unfolding round_at
  at_turn p b after goes q e f = rw (f, e) refl

  -- the kept steps are accepted, and lead to the position from which the rest is tried
  module _ (kept : List FourBytes) (h : (run_from s u kept 0 (start s)).refusal ≡ 0) where
    can_goes : (after : List FourBytes) → can_go s u number kept after ≡ goes_at s u number (run_from s u kept 0 (start s)).position after
    unfolding can_go goes_at
    can_goes after = rw (still_append s u number kept after (start s) h)

  only : (l : List FourBytes) → length l ≡ 0 → l ≡ []
  only [] h = refl
  only (b ∷ l) h = absurd (omega arith)

  pub round_at_lem : (kept row : List FourBytes) → (run_from s u kept 0 (start s)).refusal ≡ 0 → still_refused s u number (start s) (kept ++ row) ≡ true
      → round_from s u number kept row ≡ kept ++ round_at s u number (run_from s u kept 0 (start s)).position row
  round_at_lem kept [] h g = let p = (run_from s u kept 0 (start s)).position in rw (round_ends s u number kept, at_none p, append-nil kept)
  round_at_lem kept (b ∷ after) h g =
      let p = (run_from s u kept 0 (start s)).position in
      split (goes_at s u number p after)
      (λ e.
      let c = can_goes kept h after ∙ e in
      round_drops s u number kept after b c
      ∙ round_at_lem kept after h (can_still s u number kept after c)
      ∙ ap (λ r. kept ++ r) (sym (at_drops p b after e)))
      (λ e.
      let c = can_goes kept h after ∙ e in
      let k = append_assoc kept (b ∷ []) after in
      round_keeps s u number kept after b c
      ∙ either (first_accepted s u number b after p (sym (still_append s u number kept (b ∷ after) (start s) h) ∙ g))
      (λ z. let n = only after z in rw (at_keeps p b after e, n) (round_ends s u number (kept ++ (b ∷ [])) ∙ rw (at_none (step s u p b).position)))
      (λ a.
      let w = row_longer s u kept b (start s) h a in
      let r = round_at_lem (kept ++ (b ∷ [])) after w.0 (rw k g) in
      rw (at_keeps p b after e) ((rw w.1 at r) ∙ append_assoc kept (b ∷ []) (round_at s u number (step s u p b).position after))))

  -- from the start on
  pub round_from_start : (row : List FourBytes) → still_refused s u number (start s) row ≡ true → round s u number row ≡ round_at s u number (start s) row
  unfolding round
  round_from_start row h =
      let e = run_ends s u 0 (start s) in
      let r = round_at_lem [] row (rw e refl) h in
      rw e at r
