-- A list of steps played group by group: what is left to do from each group on comes to the whole.
-- Assumes nothing.
use Rattle.laws.proofs.Prelude.{ℕ, ◌+◌, ◌*◌, ◌≤◌, ◌<◌, ◌≡◌, refl, sym, ap, ◌∙◌, Bool, true, false, List, [], ◌∷◌, ◌++◌, eqb, length, length-append, arith, zero-add, add-zero, pick, split}
use Rattle.std.specs.Int.{from_bool}
use Rattle.position.proofs.Rules.{step_at, start, FourBytes, journal_steps, step, play, accepted_of}
use Rattle.position.specs.declared.Position.{Position}
use Rattle.position.specs.declared.Stepped.{Stepped}
use Rattle.call_run.proofs.Bounds.{steps_bytes}
use Rattle.claim_history.specs.declared.play.Played.{Played}
use Rattle.claim_history.specs.Forms.Steps.{taken, played_one}
use Rattle.call_run.proofs.Groups.{groups_from, groups_all, groups_next, groups_none}
use Rattle.position.proofs.RowSteps.{play_next}

pub taken_length : (n : ℕ) (b : FourBytes) → length (taken n b) ≡ pick (eqb n 0) 1 0
unfolding taken
taken_length n b = split (eqb n 0) (λ e. rw e) (λ e. rw e)

-- what the code counts for a step
pub one_or_none : (b : Bool) → from_bool b ≡ pick b 1 0
one_or_none true = refl
one_or_none false = refl

pub one_at_most : (b : Bool) (m : ℕ) → m ≡ from_bool b → m ≤ 1
one_at_most true m e = omega (arith, e)
one_at_most false m e = omega (arith, e)

module _ (s u : List ℕ) where
  play_none : (p : Position) → play s u [] p ≡ p
  unfolding play
  play_none p = refl

  accepted_next : (b : FourBytes) (bs : List FourBytes) (p : Position) → accepted_of s u (b ∷ bs) p ≡ taken (step s u p b).refusal b ++ accepted_of s u bs (step s u p b).position
  unfolding accepted_of taken
  accepted_next b bs p = refl

  pub accepted_none : (p : Position) → accepted_of s u [] p ≡ []
  unfolding accepted_of
  accepted_none p = refl

  at_most_one : (n : ℕ) (b : FourBytes) → length (taken n b) ≤ 1
  unfolding taken
  at_most_one n b = split (eqb n 0) (λ e. rw e (omega arith)) (λ e. rw e (omega arith))

  -- no more steps are accepted than there are
  accepted_few : (bs : List FourBytes) (p : Position) → length (accepted_of s u bs p) ≤ length bs
  accepted_few [] p = rw (accepted_none p) (omega arith)
  accepted_few (b ∷ bs) p =
      let q = (step s u p b).position in
      let v = taken (step s u p b).refusal b in
      rw (accepted_next b bs p) (omega (arith, length-append v (accepted_of s u bs q), at_most_one (step s u p b).refusal b, accepted_few bs q))

  -- c accepted steps have no more bytes than the list
  pub accepted_fits : (j : List ℕ) (p : Position) (c : ℕ) → c ≡ length (accepted_of s u (journal_steps j) p) → 4 * c ≤ length j
  accepted_fits j p c e = omega (arith, e, accepted_few (journal_steps j) p, steps_bytes j)

  module _ (j : List ℕ) where
    -- a turn, where r is what the code got from group k
    play_turn : (k : ℕ) (p : Position) (r : Stepped) → 4 * k + 4 ≤ length j → r ≡ step s u p (step_at j (4 * k))
        → play s u (groups_from j k) p ≡ play s u (groups_from j (k + 1)) r.position
    play_turn k p r h e = rw (groups_next j k h, e) (play_next s u (step_at j (4 * k)) (groups_from j (k + 1)) p)

    pub accepted_turn : (k : ℕ) (p : Position) (r : Stepped) → 4 * k + 4 ≤ length j → r ≡ step s u p (step_at j (4 * k))
        → accepted_of s u (groups_from j k) p ≡ taken r.refusal (step_at j (4 * k)) ++ accepted_of s u (groups_from j (k + 1)) r.position
    accepted_turn k p r h e = rw (groups_next j k h, e) (accepted_next (step_at j (4 * k)) (groups_from j (k + 1)) p)

    -- what holds before group k, after x
    pub record Playing (x : Played) (k : ℕ) : Type 0 where
      pub low : x.accepted ≤ k
      pub position : play s u (groups_from j k) x.position ≡ play s u (journal_steps j) (start s)
      pub accepted : x.accepted + length (accepted_of s u (groups_from j k) x.position) ≡ length (accepted_of s u (journal_steps j) (start s))

    pub playing_start : (p : Position) → p ≡ start s → Playing (record { position = p; accepted = 0 }) 0
    playing_start p e =
        record {
          low = omega arith;
          position = rw (groups_all j, e);
          accepted = rw (groups_all j, e) (zero-add (length (accepted_of s u (journal_steps j) (start s))));
        }

    one_more : (x : Played) (k : ℕ) → Playing x k → 4 * k + 4 ≤ length j → Playing (played_one s u x (step_at j (4 * k))) (k + 1)
    unfolding played_one
    one_more x k w h =
        let b = step_at j (4 * k) in
        let r = step s u x.position b in
        let v = taken r.refusal b in
        let t : length (accepted_of s u (groups_from j k) x.position) ≡ length v + length (accepted_of s u (groups_from j (k + 1)) r.position) =
        ap length (accepted_turn k x.position r h refl) ∙ length-append v (accepted_of s u (groups_from j (k + 1)) r.position) in
        record {
          low = omega (arith, w.low, taken_length r.refusal b, at_most_one r.refusal b);
          position = sym (play_turn k x.position r h refl) ∙ w.position;
          accepted = omega (arith, w.accepted, taken_length r.refusal b, t);
        }

    -- a turn, where y is what the code has after group k
    pub playing_more : (x y : Played) (k : ℕ) → Playing x k → 4 * k + 4 ≤ length j → y ≡ played_one s u x (step_at j (4 * k)) → Playing y (k + 1)
    playing_more x y k w h e = rw e (one_more x k w h)

    pub playing_done : (x : Played) (k : ℕ) → Playing x k → length j < 4 * k + 4
        → (x.position ≡ play s u (journal_steps j) (start s)) × (x.accepted ≡ length (accepted_of s u (journal_steps j) (start s)))
    playing_done x k w h =
        let e = groups_none j k h in
        (sym (play_none x.position) ∙ rw e at w.position, sym (add-zero x.accepted) ∙ rw (e, accepted_none x.position) at w.accepted)
