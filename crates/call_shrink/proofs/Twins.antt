-- A step that could not go, and the same step right after it: that one cannot go either, so it need not be tried.
-- Assumes nothing.
use Rattle.laws.proofs.Prelude.{ℕ, ◌+◌, ◌-◌, ◌*◌, ◌≤◌, ◌≡◌, refl, sym, ◌∙◌, Bool, true, false, not, ◌&&◌, and-false, and-true, List, [], ◌∷◌, eqb, ltb, length, take, drop, eqb-true, eq-eqb}
use Rattle.laws.proofs.Prelude.{lt-ltb, arith, split, either, clash, and_parts}
use Rattle.std.specs.Prelude.{nat_eq}
use Rattle.std.specs.Cmp.Lexicographic.{pointwise}
use Rattle.position.proofs.Rules.{byte, accepted, start, FourBytes, journal_steps, step, run_from, step_at}
use Rattle.position.specs.declared.Position.{Position}
use Rattle.position.proofs.RowSteps.{run_next, run_ends}
use Rattle.call_run.proofs.Groups.{four_bytes, groups_from, groups_all, groups_next}
use Rattle.call_shrink.specs.Shrink.{still_refused}
use Rattle.call_shrink.specs.Forms.Round.{same_step, goes_at, position_past}
use Rattle.call_shrink.proofs.Rows.{still_append, first_accepted}

same_four : (a b : FourBytes) → a.kind ≡ b.kind → a.party ≡ b.party → a.transaction ≡ b.transaction → a.destination ≡ b.destination
    → ◌≡◌ {A = FourBytes} (record { kind = a.kind; party = a.party; transaction = a.transaction; destination = a.destination })
    (record { kind = b.kind; party = b.party; transaction = b.transaction; destination = b.destination })
same_four a b i j k l = rw (i, j, k, l) refl

-- the bytes of two steps, compared as slices
pub same_slices : (l : List ℕ) (i j m n : ℕ) → i + 4 ≤ length l → j + 4 ≤ length l → m ≡ 4 → n ≡ 4
    → pointwise nat_eq (take m (drop i l)) (take n (drop j l)) ≡ same_step (step_at l i) (step_at l j)
unfolding same_step step_at
same_slices l i j m n a b e f = rw (e, f, four_bytes l i a, four_bytes l j b, and-true (eqb (byte l (i + 3)) (byte l (j + 3)))) refl

same_bytes : (a b : FourBytes) → same_step a b ≡ true → a ≡ b
unfolding same_step
same_bytes a b h =
    let w = and_parts (eqb a.kind b.kind) _ h in
    let x = and_parts (eqb a.party b.party) _ w.1 in
    let y = and_parts (eqb a.transaction b.transaction) (eqb a.destination b.destination) x.1 in
    same_four a b
    (eqb-true a.kind b.kind w.0)
    (eqb-true a.party b.party x.0)
    (eqb-true a.transaction b.transaction y.0)
    (eqb-true a.destination b.destination y.1)

module _ (s u : List ℕ) (number : ℕ) where
  -- a row from an accepted step on
  still_next : (a : FourBytes) (row : List FourBytes) (p : Position) → (step s u p a).refusal ≡ 0
      → still_refused s u number p (a ∷ row) ≡ still_refused s u number (step s u p a).position row
  still_next a row p z =
      let e = eq-eqb (step s u p a).refusal accepted z in
      let n : run_from s u (a ∷ []) 0 p ≡ record { refusal = accepted; accepted = 1; position = (step s u p a).position } = run_next s u a [] 0 p e ∙ run_ends s u 1 (step s u p a).position in
      let w = still_append s u number (a ∷ []) row p (rw n refl) in
      rw n at w

  -- the first of two steps is accepted
  first_of_two : (a b : FourBytes) (after : List FourBytes) (p : Position) → still_refused s u number p (a ∷ b ∷ after) ≡ true → (step s u p a).refusal ≡ 0
  first_of_two a b after p h = either (first_accepted s u number a (b ∷ after) p h) (λ z. absurd (omega (arith, z))) (λ z. z)

  twin_stays : (a b : FourBytes) (after : List FourBytes) (p : Position) → still_refused s u number p (a ∷ b ∷ after) ≡ true → same_step a b ≡ true → goes_at s u number p (b ∷ after) ≡ false
      → goes_at s u number (step s u p a).position after ≡ false
  unfolding goes_at
  twin_stays a b after p h t g =
      let e = same_bytes a b t in
      let l = lt-ltb 0 (length (b ∷ after)) (omega arith) in
      let f : still_refused s u number p (b ∷ after) ≡ false = rw l at g in
      let n = still_next a after p (first_of_two a b after p h) in
      rw (← n, e, f) (and-false (ltb 0 (length after)))

  module _ (j : List ℕ) where
    -- what holds before group k, in position p, where it is told whether the step before went: the steps that are left are still refused; if
    -- the step before could not go, its twin cannot
    pub record Twins (p : Position) (went : Bool) (k : ℕ) : Type 0 where
      pub still : 4 * k + 4 ≤ length j → still_refused s u number p (groups_from j k) ≡ true
      pub later : went ≡ false → 4 ≤ 4 * k
      pub stays : went ≡ false → 4 * k + 4 ≤ length j → same_step (step_at j (4 * k - 4)) (step_at j (4 * k)) ≡ true → goes_at s u number p (groups_from j (k + 1)) ≡ false

    pub twins_start : (p : Position) → p ≡ start s → still_refused s u number (start s) (journal_steps j) ≡ true → Twins p true 0
    twins_start p e h = record { still = λ l. rw (groups_all j, e) h; later = λ f. clash refl f; stays = λ f l t. clash refl f }

    module _ (p : Position) (k : ℕ) (went : Bool) where
      -- a twin cannot go
      pub twin_stays_too : (twin : Bool) → Twins p went k → 4 * k + 4 ≤ length j → twin ≡ (not went && same_step (step_at j (4 * k - 4)) (step_at j (4 * k)))
          → twin ≡ true → goes_at s u number p (groups_from j (k + 1)) ≡ false
      twin_stays_too twin w h d y =
          let a = and_parts (not went) (same_step (step_at j (4 * k - 4)) (step_at j (4 * k))) (sym d ∙ y) in
          split went (λ z. clash (rw z at a.0) refl) (λ z. w.stays z h a.1)

    module _ (p : Position) (k : ℕ) (went going : Bool) (w : Twins p went k) (h : 4 * k + 4 ≤ length j) where
      pub twins_more : (q : Position) → going ≡ goes_at s u number p (groups_from j (k + 1)) → q ≡ position_past s u going p (step_at j (4 * k)) → Twins q going (k + 1)
      unfolding position_past goes_at
      twins_more q e f =
          let b = step_at j (4 * k) in
          let after = groups_from j (k + 1) in
          split going
          (λ y.
          let o : q ≡ p = f ∙ rw y refl in
          record {
            still = λ l. rw o (and_parts (ltb 0 (length after)) (still_refused s u number p after) (sym e ∙ y)).1;
            later = λ z. clash y z;
            stays = λ z l t. clash y z;
          })
          (λ y.
          let o : q ≡ (step s u p b).position = f ∙ rw y refl in
          let a : still_refused s u number p (b ∷ after) ≡ true = rw (groups_next j k h) at (w.still h) in
          record {
            still = λ l.
                let n = groups_next j (k + 1) (omega (arith, l)) in
                rw o (sym (still_next b after p (first_of_two b (step_at j (4 * (k + 1))) (groups_from j (k + 1 + 1)) p (rw n at a))) ∙ a);
            later = λ z. omega arith;
            stays = λ z l t.
                let n = groups_next j (k + 1) (omega (arith, l)) in
                let i : 4 * (k + 1) - 4 ≡ 4 * k = omega arith in
                rw o
                (twin_stays b (step_at j (4 * (k + 1))) (groups_from j (k + 1 + 1)) p (rw n at a) (rw i at t) (rw n at (sym e ∙ y)));
          })
