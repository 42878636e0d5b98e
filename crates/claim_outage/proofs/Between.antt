-- What is claimed between a position and those that it leads to.
-- Assumes nothing.
use Rattle.laws.proofs.Prelude.{ℕ, ◌+◌, ◌≤◌, ◌<◌, ◌≡◌, true, List, ◌⊎◌, inl, inr, ltb, ltb-true, ltb-false, arith, split, either}
use Rattle.position.proofs.Rules.{accepted, count, parent, opening, sheet_refusal, per_day, setup_refusal, Checked, conflict, is_confirmed, block_of, lock_height_in}
use Rattle.position.specs.declared.Position.{Position}
use Rattle.position.proofs.Rules.{deadline_in, FourBytes, play}
use Rattle.sheet.proofs.Theorems.{sheet_checked}
use Rattle.claim_ledger.proofs.Sound.{Sound}
use Rattle.claim_ledger.proofs.SoundSteps.{sound_play}
use Rattle.call_outage.specs.Verdict.{soonest_block_in, soonest_deadline_in}
use Rattle.claim_outage.specs.Claim.{Fixed, Below, Between}
use Rattle.soonest.proofs.SoonestParents.{soonest_there}
use Rattle.claim_outage.proofs.Chain.{soonest_rises}
use Rattle.claim_outage.proofs.Sandwich.{soonest_under, soonest_meets, soonest_deadline_rises, deadline_falls, no_surprise}
use Rattle.claim_outage.proofs.Play.{LaterIn, later_play}

module _ (s u : List ℕ) (ok : Checked s) (p : Position) (t : ℕ) (l : t < count s) where
  pub fixed_now : Fixed s p t → (opening s t ≡ true) ⊎ (0 < block_of p (parent s t))
  unfolding is_confirmed
  fixed_now f = either f inl (λ y. inr (ltb-true 0 (block_of p (parent s t)) y))

  pub below : Below s u p t
  unfolding soonest_deadline_in deadline_in
  below =
      record {
        below = soonest_under ok (per_day u) (block_of p) p.mined t l;
        meet = λ f. soonest_meets ok (per_day u) (block_of p) p.mined t l (fixed_now f);
      }

  module _ (q : Position) (later : LaterIn s p q) (g : Sound s u q) where
    surprise : (r : ℕ) → r < count s → conflict s r t ≡ true → is_confirmed q r ≡ true → lock_height_in s u q t < lock_height_in s u q r → soonest_deadline_in s u p t + 1 ≤ block_of q r
    unfolding soonest_deadline_in is_confirmed lock_height_in
    surprise r lr c y h =
        no_surprise ok (per_day u) (block_of p) p.mined (block_of q) q.mined later g.settled t l r lr c (ltb-true 0 (block_of q r) y) h

    before_block : is_confirmed q t ≡ true → soonest_block_in s u p t ≤ block_of q t
    unfolding soonest_block_in is_confirmed
    before_block y =
        let a = soonest_rises ok (per_day u) (block_of p) p.mined (block_of q) q.mined later g.settled t l in
        let b = soonest_there s (per_day u) (block_of q) q.mined t (ltb-true 0 (block_of q t) y) in
        omega arith

    pub between : Between s u p q t
    unfolding soonest_block_in soonest_deadline_in deadline_in
    between =
        record {
          block_rises = soonest_rises ok (per_day u) (block_of p) p.mined (block_of q) q.mined later g.settled t l;
          deadline_rises = soonest_deadline_rises ok (per_day u) (block_of p) p.mined (block_of q) q.mined later g.settled t l;
          deadline_falls = deadline_falls ok (per_day u) (block_of p) p.mined (block_of q) q.mined later g.settled t l;
          no_surprise = surprise;
          none_until = λ m r lr c y.
              split (ltb (lock_height_in s u q t) (lock_height_in s u q r))
              (λ z.
              let a = surprise r lr c y (ltb-true (lock_height_in s u q t) (lock_height_in s u q r) z) in
              let b = g.settled.numbered r lr in
              absurd (omega arith))
              (λ z. ltb-false (lock_height_in s u q t) (lock_height_in s u q r) z);
          none_before = before_block;
        }

module _ (s u : List ℕ) (h : sheet_refusal s ≡ accepted) (k : setup_refusal s u ≡ accepted) where
  -- any list of steps, from a sound position
  pub any_list : (p : Position) (bs : List FourBytes) → Sound s u p → (t : ℕ) → t < count s → Between s u p (play s u bs p) t
  any_list p bs g t l = between s u (sheet_checked s h) p t l (play s u bs p) (later_play s u h k bs p g) (sound_play s u h k bs p g)
