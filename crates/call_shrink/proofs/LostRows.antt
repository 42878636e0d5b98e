-- A row that does not come to the number: a step after which it has the position before that step cannot go either.
-- Assumes nothing.
use Rattle.laws.proofs.Prelude.{ℕ, zero, suc, ◌+◌, ◌-◌, ◌*◌, ◌≤◌, ◌≡◌, refl, sym, ap, ◌∙◌, Bool, true, false, not, ◌&&◌, List, [], ◌∷◌, ◌++◌, ◌⊎◌, eqb, ltb, length, take}
use Rattle.laws.proofs.Prelude.{drop, length-append, ltb-true, lt-ltb, not-true, arith, drop-drop, split, either, and_parts}
use Rattle.std.specs.Prelude.{Option, None, Some}
use Rattle.std.proofs.lemmas.Option.{none-some, same_Some}
use Rattle.position.proofs.Rules.{FourBytes, journal_steps, run_from, step_at}
use Rattle.position.specs.declared.Position.{Position}
use Rattle.position.specs.declared.Ran.{Ran}
use Rattle.call_run.proofs.Groups.{groups_from}
use Rattle.call_shrink.specs.declared.round.Lost.{Lost}
use Rattle.call_shrink.specs.Shrink.{still_refused}
use Rattle.call_shrink.specs.Forms.Round.{same_step, goes_at, tried_at, Meets, lost_from, lost_after}
use Rattle.call_shrink.proofs.Rows.{still_append}
use Rattle.call_shrink.proofs.Twins.{Twins, twin_stays_too}
use Rattle.call_shrink.proofs.Writing.{goes_after}

-- the first m steps, and the rest
part_steps : (m : ℕ) (l : List ℕ) → journal_steps l ≡ journal_steps (take (4 * m) l) ++ journal_steps (drop (4 * m) l)
unfolding journal_steps
part_steps zero l = refl
part_steps (suc m) [] = let e : 4 * suc m ≡ suc (suc (suc (suc (4 * m)))) = omega arith in rw e refl
part_steps (suc m) (k ∷ []) = let e : 4 * suc m ≡ suc (suc (suc (suc (4 * m)))) = omega arith in rw e refl
part_steps (suc m) (k ∷ a ∷ []) = let e : 4 * suc m ≡ suc (suc (suc (suc (4 * m)))) = omega arith in rw e refl
part_steps (suc m) (k ∷ a ∷ t ∷ []) = let e : 4 * suc m ≡ suc (suc (suc (suc (4 * m)))) = omega arith in rw e refl
part_steps (suc m) (k ∷ a ∷ t ∷ d ∷ l) =
    let e : 4 * suc m ≡ suc (suc (suc (suc (4 * m)))) = omega arith in
    rw e (ap (λ (r : List FourBytes). record { kind = k; party = a; transaction = t; destination = d } ∷ r) (part_steps m l))

-- where r is what the code got from the steps
pub meets_found : (s u : List ℕ) (lost : Option Lost) (row : Lost) (here : Position) (passed : List FourBytes) (r : Ran) → r ≡ run_from s u passed 0 row.position → lost ≡ Some row → r.refusal ≡ 0
    → r.position ≡ here → Meets s u lost here passed
meets_found s u lost row here passed r e h z f = record { row = row; held = h; accepted = rw (← e) z; there = rw (← e) f }

module _ (s u : List ℕ) (number : ℕ) (j : List ℕ) where
  -- what holds of it before group k
  pub record Losing (lost : Option Lost) (k : ℕ) : Type 0 where
    pub early : lost_from lost ≤ k
    pub fails : (row : Lost) → lost ≡ Some row → goes_at s u number row.position (groups_from j (lost_from lost)) ≡ false

  pub losing_start : Losing None 0
  losing_start = record { early = omega arith; fails = λ row h. absurd (none-some row h) }

  module _ (lost : Option Lost) (k : ℕ) (w : Losing lost k) (here : Position) where
    -- its steps up to group k and with it
    abbrev passed : List FourBytes
    passed = journal_steps (take (4 * k + 4 - 4 * lost_from lost) (drop (4 * lost_from lost) j))

    passed_rest : groups_from j (lost_from lost) ≡ passed ++ groups_from j (k + 1)
    unfolding groups_from
    passed_rest =
        let a : 4 * k + 4 - 4 * lost_from lost ≡ 4 * (k + 1 - lost_from lost) = omega (arith, w.early) in
        let b : 4 * lost_from lost + 4 * (k + 1 - lost_from lost) ≡ 4 * (k + 1) = omega (arith, w.early) in
        let c : drop (4 * (k + 1 - lost_from lost)) (drop (4 * lost_from lost) j) ≡ drop (4 * (k + 1)) j = drop-drop (4 * (k + 1 - lost_from lost)) (4 * lost_from lost) j ∙ ap (λ (n : ℕ). drop n j) b in
        part_steps (k + 1 - lost_from lost) (drop (4 * lost_from lost) j) ∙ rw (a, c) refl

    meets_stays : Meets s u lost here passed → goes_at s u number here (groups_from j (k + 1)) ≡ false
    unfolding goes_at
    meets_stays m =
        let rest = groups_from j (k + 1) in
        split (ltb 0 (length rest))
        (λ y.
        let g : (ltb 0 (length (passed ++ rest)) && still_refused s u number m.row.position (passed ++ rest)) ≡ false = rw passed_rest at (w.fails m.row m.held) in
        let l = lt-ltb 0 (length (passed ++ rest)) (omega (arith, length-append passed rest, ltb-true 0 (length rest) y)) in
        let f : still_refused s u number m.row.position (passed ++ rest) ≡ false = rw l at g in
        rw (y, ← m.there) (sym (still_append s u number passed rest m.row.position m.accepted) ∙ f))
        (λ y. rw y refl)

    -- where it is told whether the step of group k stays in any case, what the code found of it is right
    pub tried : (went twin stay going : Bool) → Twins s u number j here went k → 4 * k + 4 ≤ length j
        → twin ≡ (not went && same_step (step_at j (4 * k - 4)) (step_at j (4 * k))) → (stay ≡ true → (twin ≡ true) ⊎ Meets s u lost here passed)
        → going ≡ tried_at s u number stay here (journal_steps (take (length j - (4 * k + 4)) (drop (4 * k + 4) j))) → going ≡ goes_at s u number here (groups_from j (k + 1))
    unfolding tried_at
    tried went twin stay going t h d f e =
        split stay
        (λ y. (rw y at e) ∙ sym (either (f y) (λ z. twin_stays_too s u number j here k went twin t h d z) (λ m. meets_stays m)))
        (λ y. goes_after s u number j k here going (rw y at e))

    pub losing_more : (going : Bool) (kind : ℕ) (l : Option Lost) → going ≡ goes_at s u number here (groups_from j (k + 1)) → l ≡ lost_after lost going kind here (k + 1) → Losing l (k + 1)
    unfolding lost_after
    losing_more going kind l e f =
        split (not going && eqb kind 6)
        (λ y. rw (f, y) (record {
          early = omega arith;
          fails = λ row h. rw (← ap (λ (r : Lost). r.position) (same_Some _ row h)) (sym e ∙ not-true going (and_parts (not going) (eqb kind 6) y).0);
        }))
        (λ y. rw (f, y) (record { early = omega (arith, w.early); fails = w.fails }))
