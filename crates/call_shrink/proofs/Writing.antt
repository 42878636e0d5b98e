-- The bytes that a round keeps, group by group.
-- Assumes nothing.
use Rattle.laws.proofs.Prelude.{ℕ, ◌+◌, ◌-◌, ◌*◌, ◌/◌, ◌≤◌, ◌<◌, ◌≡◌, refl, Bool, true, List, [], ◌++◌, length, take, drop, arith, over, Wrote, to_end}
use Rattle.position.proofs.Rules.{start, journal_steps, journal_bytes, step_at}
use Rattle.position.specs.declared.Position.{Position}
use Rattle.output.proofs.Writing.{Writing, writing_room, writing_end}
use Rattle.step_laws.proofs.Journals.{journal_length_lem}
use Rattle.call_run.proofs.Groups.{bytes_append, no_bytes, groups_from, groups_all, groups_next, groups_none}
use Rattle.call_run.proofs.Bounds.{steps_bytes}
use Rattle.call_shrink.specs.Shrink.{still_refused, round}
use Rattle.call_shrink.specs.Forms.Round.{goes_at, kept_step, position_past, round_at}
use Rattle.call_shrink.proofs.Positions.{at_none, at_turn, round_from_start}
use Rattle.call_shrink.proofs.Rounding.{next_length}

module _ (s u : List ℕ) (number : ℕ) (j : List ℕ) where
  -- the bytes that are kept from group k on, and all of them
  unfoldable pub bytes_from : ℕ → Position → List ℕ
  bytes_from k p = journal_bytes (round_at s u number p (groups_from j k))

  abbrev pub bytes_all : List ℕ
  bytes_all = journal_bytes (round s u number (journal_steps j))

  pub bytes_start : (p : Position) → p ≡ start s → still_refused s u number (start s) (journal_steps j) ≡ true → bytes_from 0 p ≡ bytes_all
  unfolding bytes_from
  bytes_start p e g = rw (groups_all j, e, round_from_start s u number (journal_steps j) g)

  pub bytes_turn : (k : ℕ) (p q : Position) (going : Bool) → 4 * k + 4 ≤ length j → going ≡ goes_at s u number p (groups_from j (k + 1)) → q ≡ position_past s u going p (step_at j (4 * k))
      → bytes_from k p ≡ journal_bytes (kept_step going (step_at j (4 * k))) ++ bytes_from (k + 1) q
  unfolding bytes_from
  bytes_turn k p q going h e f =
      rw (groups_next j k h, at_turn s u number p (step_at j (4 * k)) (groups_from j (k + 1)) going q e f)
      (bytes_append (kept_step going (step_at j (4 * k))) (round_at s u number q (groups_from j (k + 1))))

  pub bytes_none : (k : ℕ) (p : Position) → length j < 4 * k + 4 → bytes_from k p ≡ []
  unfolding bytes_from
  bytes_none k p h = rw (groups_none j k h, at_none s u number p) no_bytes

  -- no more are kept than there are
  all_few : length bytes_all ≤ length j
  all_few = omega (arith, journal_length_lem (round s u number (journal_steps j)), next_length s u number (journal_steps j), steps_bytes j)

  pub all_room : (n : ℕ) → length j ≤ n → length bytes_all ≤ n
  all_room n h = omega (arith, all_few)

  -- the part of the steps that a try is given
  pub after_this : (k : ℕ) → take (length j - (4 * k + 4)) (drop (4 * k + 4) j) ≡ drop (4 * (k + 1)) j
  after_this k = let e : 4 * k + 4 ≡ 4 * (k + 1) = omega arith in rw e (to_end j (4 * (k + 1)))

  pub goes_after : (k : ℕ) (p : Position) (going : Bool) → going ≡ goes_at s u number p (journal_steps (take (length j - (4 * k + 4)) (drop (4 * k + 4) j))) → going ≡ goes_at s u number p (groups_from j (k + 1))
  unfolding groups_from
  goes_after k p going e = rw (after_this k) at e

  -- a turn's part has room, and no more is written than there is
  module _ {l₀ l : List ℕ} {p : Position} {at k : ℕ} (w : Writing bytes_from bytes_all l₀ l p at k) (going : Bool) (h : 4 * k + 4 ≤ length j)
      (e : going ≡ goes_at s u number p (groups_from j (k + 1))) where
    abbrev now : List ℕ
    now = journal_bytes (kept_step going (step_at j (4 * k)))

    turn : bytes_from k p ≡ now ++ bytes_from (k + 1) (position_past s u going p (step_at j (4 * k)))
    turn = bytes_turn k p (position_past s u going p (step_at j (4 * k))) going h e refl

    pub turn_room : length now ≤ length (take (length l - at) (drop at l))
    turn_room = writing_room w now (position_past s u going p (step_at j (4 * k))) turn

    pub turn_end : (m : ℕ) → m ≡ length now → at + m ≤ length j
    turn_end m g = writing_end w now (position_past s u going p (step_at j (4 * k))) turn m (length j) g all_few

  -- what was written, in steps and in bytes
  pub round_written : {l₀ l : List ℕ} {at : ℕ} → Wrote bytes_all l₀ l at → (at / 4 ≡ length (round s u number (journal_steps j))) × (l ≡ over bytes_all l₀)
  round_written w = (omega (arith, w.at, journal_length_lem (round s u number (journal_steps j))), w.is)
