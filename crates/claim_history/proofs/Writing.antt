-- The bytes of the accepted steps, group by group.
-- Assumes nothing.
use Rattle.laws.proofs.Prelude.{ℕ, ◌+◌, ◌-◌, ◌*◌, ◌≤◌, ◌<◌, ◌≡◌, ap, ◌∙◌, List, [], ◌++◌, eqb, length, take, drop, split}
use Rattle.position.proofs.Rules.{byte, start, journal_steps, journal_bytes, step, accepted_of, step_at}
use Rattle.position.specs.declared.Position.{Position}
use Rattle.position.specs.declared.Stepped.{Stepped}
use Rattle.output.specs.Forms.Emitted.{emitted}
use Rattle.output.proofs.Writing.{Writing, writing_room, writing_end}
use Rattle.claim_history.specs.Forms.Steps.{taken}
use Rattle.call_run.proofs.Groups.{bytes_append, no_bytes, groups_from, groups_all, groups_none}
use Rattle.claim_history.proofs.Playing.{accepted_none, accepted_turn}

-- the bytes of the step at place i where it was accepted
pub taken_bytes : (j : List ℕ) (i n : ℕ)
    → emitted (eqb n 0) (byte j i) (byte j (i + 1)) (byte j (i + 2)) (byte j (i + 3)) ≡ journal_bytes (taken n (step_at j i))
unfolding emitted journal_bytes taken step_at
taken_bytes j i n = split (eqb n 0) (λ h. rw h) (λ h. rw h)

module _ (s u j : List ℕ) where
  -- the bytes of the accepted steps from group k on, and those of all of them
  unfoldable pub bytes_from : ℕ → Position → List ℕ
  bytes_from k p = journal_bytes (accepted_of s u (groups_from j k) p)

  abbrev pub bytes_all : List ℕ
  bytes_all = journal_bytes (accepted_of s u (journal_steps j) (start s))

  pub bytes_start : (p : Position) → p ≡ start s → bytes_from 0 p ≡ bytes_all
  unfolding bytes_from
  bytes_start p e = rw (groups_all j, e)

  pub bytes_turn : (k : ℕ) (p : Position) (r : Stepped) → 4 * k + 4 ≤ length j → r ≡ step s u p (step_at j (4 * k))
      → bytes_from k p ≡ journal_bytes (taken r.refusal (step_at j (4 * k))) ++ bytes_from (k + 1) r.position
  unfolding bytes_from
  bytes_turn k p r h e =
      ap journal_bytes (accepted_turn s u j k p r h e) ∙ bytes_append (taken r.refusal (step_at j (4 * k))) (accepted_of s u (groups_from j (k + 1)) r.position)

  pub bytes_none : (k : ℕ) (p : Position) → length j < 4 * k + 4 → bytes_from k p ≡ []
  unfolding bytes_from
  bytes_none k p h = rw (groups_none j k h, accepted_none s u p) no_bytes

  -- a turn's part has room, and does not end beyond the buffer
  module _ {l₀ l : List ℕ} {p : Position} {at k : ℕ} (w : Writing bytes_from bytes_all l₀ l p at k) (r : Stepped) (h : 4 * k + 4 ≤ length j)
      (e : r ≡ step s u p (step_at j (4 * k))) where
    abbrev now : List ℕ
    now = journal_bytes (taken r.refusal (step_at j (4 * k)))

    pub turn_room : length now ≤ length (take (length l - at) (drop at l))
    turn_room = writing_room w now r.position (bytes_turn k p r h e)

    pub turn_end : (m : ℕ) → m ≡ length now → at + m ≤ length l₀
    turn_end m g = writing_end w now r.position (bytes_turn k p r h e) m (length l₀) g w.room
