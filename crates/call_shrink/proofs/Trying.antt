-- A try as the code makes it, and the bytes of a step that is kept.
-- Assumes nothing.
use Rattle.laws.proofs.Prelude.{ℕ, ◌+◌, ◌/◌, ◌<◌, ◌≡◌, sym, Bool, false, not, and-false, List, eqb, ltb, length, eq-eqb, ne_eqb, lt-ltb, le-ltb, arith, split}
use Rattle.position.proofs.Rules.{byte, journal_steps, journal_bytes, run_from, step_at}
use Rattle.position.specs.declared.Position.{Position}
use Rattle.position.specs.declared.Ran.{Ran}
use Rattle.output.specs.Forms.Emitted.{emitted}
use Rattle.call_shrink.specs.Shrink.{still_refused}
use Rattle.call_shrink.specs.Forms.Round.{goes_at, kept_step}
use Rattle.call_shrink.proofs.Rows.{steps_count}

module _ (s u : List ℕ) (number : ℕ) (p : Position) (j : List ℕ) where
  -- no step follows
  pub goes_none : length j / 4 ≡ 0 → false ≡ goes_at s u number p (journal_steps j)
  unfolding goes_at
  goes_none h = rw (le-ltb 0 (length (journal_steps j)) (omega (arith, steps_count j)))

  module _ (r : Ran) (e : r ≡ run_from s u (journal_steps j) 0 p) where
    -- another number
    pub goes_other : (r.refusal ≡ number → ⊥) → false ≡ goes_at s u number p (journal_steps j)
    unfolding goes_at still_refused
    goes_other h = rw (← e, ne_eqb r.refusal number h) (sym (and-false (ltb 0 (length (journal_steps j)))))

    -- the same number, at the last step or not
    pub goes_count : (length j / 4 ≡ 0 → ⊥) → r.refusal ≡ number → eqb (r.accepted + 1) (length j / 4) ≡ goes_at s u number p (journal_steps j)
    unfolding goes_at still_refused
    goes_count n h =
        let some : 0 < length (journal_steps j) = rw (steps_count j) (omega arith) in
        rw (← e, lt-ltb 0 (length (journal_steps j)) some, eq-eqb r.refusal number h, steps_count j)

-- the bytes of the step at place i, unless it goes
pub kept_bytes : (j : List ℕ) (i : ℕ) (going : Bool)
    → emitted (not going) (byte j i) (byte j (i + 1)) (byte j (i + 2)) (byte j (i + 3)) ≡ journal_bytes (kept_step going (step_at j i))
unfolding emitted journal_bytes kept_step step_at
kept_bytes j i going = split going (λ h. rw h) (λ h. rw h)
