-- Rounds on a part that is kept in bytes: each is written aside and copied back.
-- Assumes nothing.
use Rattle.laws.proofs.Prelude.{ℕ, ◌*◌, ◌≤◌, ◌<◌, ◌≡◌, sym, ap, ◌∙◌, true, List, length, take, arith, length-take, over, take_over, length_over}
use Rattle.position.proofs.Rules.{start, FourBytes, journal_steps, journal_bytes}
use Rattle.step_laws.proofs.Journals.{journal_steps_lem, journal_length_lem}
use Rattle.call_shrink.specs.Shrink.{still_refused, round, shrunk}
use Rattle.call_shrink.specs.Forms.Round.{Starts}
use Rattle.call_shrink.proofs.Rows.{steps_count, bytes_steps}
use Rattle.call_shrink.proofs.Rounding.{next_still, next_length, shrunk_settled, shrunk_next}

module _ (s u : List ℕ) (number : ℕ) (whole : List FourBytes) where
  -- what holds before a round on the first `left` steps of the part: what they shrink to is the whole
  pub record Going (part₀ spare₀ part spare : List ℕ) (left : ℕ) : Type 0 where
    pub few : left ≤ 1024
    pub fits : 4 * left ≤ length part
    pub room : length part ≤ length spare
    pub part_long : length part ≡ length part₀
    pub spare_long : length spare ≡ length spare₀
    pub still : still_refused s u number (start s) (journal_steps (take (4 * left) part)) ≡ true
    pub comes_to : shrunk s u number (journal_steps (take (4 * left) part)) ≡ whole

  module _ (part₀ spare₀ part spare : List ℕ) (left : ℕ) (g : Going part₀ spare₀ part spare left) where
    abbrev row : List FourBytes
    row = journal_steps (take (4 * left) part)

    pub front_length : length (take (4 * left) part) ≡ 4 * left
    front_length = omega (arith, length-take (4 * left) part, g.fits)

    row_length : length row ≡ left
    row_length = omega (arith, steps_count (take (4 * left) part), front_length)

    module _ (kept : ℕ) (spare' : List ℕ) (e : kept ≡ length (round s u number row)) (o : spare' ≡ over (journal_bytes (round s u number row)) spare) where
      -- no step was dropped
      pub going_done : kept ≡ left → Starts whole part left
      going_done h =
          let z = shrunk_settled s u number row (omega (arith, e, h, row_length)) in
          let w : row ≡ whole = sym z ∙ g.comes_to in
          record {
            count = rw (← w) (omega (arith, row_length));
            front = rw (← w) (sym (bytes_steps (take (4 * left) part) (omega (arith, front_length))));
          }

      -- some were
      pub going_less : (kept ≡ left → ⊥) → kept < left
      going_less h = omega (arith, e, row_length, next_length s u number row)

      pub spare_kept : length spare' ≡ length spare
      spare_kept = ap length o ∙ length_over (journal_bytes (round s u number row)) spare

      pub kept_fits : 4 * kept ≤ length spare'
      kept_fits = omega (arith, e, row_length, next_length s u number row, spare_kept, g.fits, g.room)

      written : take (4 * kept) spare' ≡ journal_bytes (round s u number row)
      written =
          let l : 4 * kept ≡ length (journal_bytes (round s u number row)) = omega (arith, e, journal_length_lem (round s u number row)) in
          rw (l, o) (take_over (journal_bytes (round s u number row)) spare (omega (arith, l, kept_fits, spare_kept)))

      pub kept_length : length (take (4 * kept) spare') ≡ 4 * kept
      kept_length = omega (arith, length-take (4 * kept) spare', kept_fits)

      -- and the rest is copied back
      module _ (part' : List ℕ) (c : part' ≡ over (take (4 * kept) spare') part) (h : kept ≡ left → ⊥) where
        copied : take (4 * kept) part' ≡ journal_bytes (round s u number row)
        copied =
            let t = take_over (take (4 * kept) spare') part (omega (arith, kept_length, g.fits, going_less h)) in
            rw c (rw kept_length at t) ∙ written

        next_row : journal_steps (take (4 * kept) part') ≡ round s u number row
        next_row = rw copied (journal_steps_lem (round s u number row))

        pub going_on : Going part₀ spare₀ part' spare' kept
        going_on =
            let l : length part' ≡ length part = ap length c ∙ length_over (take (4 * kept) spare') part in
            record {
              few = omega (arith, going_less h, g.few);
              fits = omega (arith, going_less h, g.fits, l);
              room = omega (arith, l, spare_kept, g.room);
              part_long = l ∙ g.part_long;
              spare_long = spare_kept ∙ g.spare_long;
              still = rw next_row (next_still s u number row g.still);
              comes_to = rw next_row (sym (shrunk_next s u number row (λ z. h (omega (arith, e, z, row_length)))) ∙ g.comes_to);
            }
