-- What is found over the tables of a prospect is what is kept for how many blocks, and what is counted on.
-- Assumes nothing.
use Rattle.laws.proofs.Prelude.{ℕ, suc, ◌+◌, ◌*◌, ◌≤◌, ◌<◌, ◌≡◌, refl, sym, ap, ◌∙◌, Bool, not, ◌&&◌, List, eqb, leb, get_or, arith}
use Rattle.laws.specs.Booleans.{pick}
use Rattle.laws.specs.Below.{any_below, any_same}
use Rattle.laws.specs.Greatest.{greatest_to, greatest_same}
use Rattle.laws.specs.Mask.{bit}
use Rattle.laws.specs.Sets.{set_below, set_bit, set_same}
use Rattle.sheet.specs.Field.{count}
use Rattle.sheet.specs.LockHeight.{never}
use Rattle.sheet.specs.Checked.{Checked}
use Rattle.position.specs.declared.Position.{Position}
use Rattle.slack.specs.Beaten.{beats}
use Rattle.slack.specs.Kept.{reached, kept, longest, kept_for}
use Rattle.slack.specs.Counted.{lowest, sure, counted_on}
use Rattle.slack.proofs.Falling.{kept_falls}
use Rattle.kept.specs.declared.Prospect.{Prospect}
use Rattle.kept.specs.Forms.Prospect.{Seen}
use Rattle.kept.specs.Forms.Evaluation.{reached_in, sure_in, lowest_in, counted_in, kept_over, Falls}
use Rattle.kept.proofs.Evaluated.{reached_is, kept_is}
use Rattle.kept.proofs.LeastPassing.{least_same}

module _ (s u : List ℕ) (ok : Checked s) (p : Position) (x : ℕ) (q : Prospect) (see : Seen s u p x q) where
  early : p.mined < 65536
  early = rw see.mined_is at see.bounded.early

  kept_over_is : (k : ℕ) → k ≤ longest → kept_over q k ≡ kept s u p x k
  unfolding kept_over kept
  kept_over_is k l =
      kept_is s u ok p x q see (q.mined + k) (omega (arith, see.bounded.early, l)) ∙ rw see.mined_is refl

  pub falls : Falls q
  falls k l h =
      kept_over_is k (omega (arith, l)) ∙ kept_falls s u ok p (omega (arith, early)) x k (sym (kept_over_is (suc k) l) ∙ h)

  pub kept_for_is : greatest_to longest (kept_over q) never ≡ kept_for s u p x
  unfolding kept_for
  kept_for_is = greatest_same longest (kept_over q) (kept s u p x) never kept_over_is

  lowest_is : (set : ℕ) (f : ℕ → Bool) → set ≡ set_below (count s) f → lowest_in q.count set ≡ lowest s f
  unfolding lowest_in lowest
  lowest_is set f e =
      rw (e, see.count_is) (least_same (count s) (bit (set_below (count s) f)) f (λ t. t) 255 (λ k l. set_bit (count s) f ok.sized.few k l))

  sure_is : (off : ℕ) → off + 1 < never → sure_in q.beat q.count (reached_in q off) off ≡ set_below (count s) (sure s u p x off)
  unfolding sure_in sure
  sure_is off h =
      rw (reached_is s u ok p x q see off h, see.count_is)
      (set_same (count s) (λ t. bit (set_below (count s) (reached s u p x off)) t && not (any_below (count s) (λ r. leb (get_or q.beat (32 * t + r) 0) off)))
      (λ t. reached s u p x off t && not (any_below (count s) (beats s u p x 0 off t)))
      (λ t l.
      rw (
        set_bit (count s) (reached s u p x off) ok.sized.few t l,
        any_same (count s) (λ r. leb (get_or q.beat (32 * t + r) 0) off) (beats s u p x 0 off t) (λ r m. (see.each t l).beat_tells r m off (omega arith)),
      ) refl))

  pub counted_is : (off : ℕ) → off + 1 < never → counted_in q off ≡ counted_on s u p x off
  unfolding counted_in counted_on
  counted_is off h =
      rw (
        lowest_is (sure_in q.beat q.count (reached_in q off) off) (sure s u p x off) (sure_is off h),
        lowest_is (reached_in q off) (reached s u p x off) (reached_is s u ok p x q see off h),
      )
      (ap (λ (b : Bool). pick b 255 (pick (eqb (lowest s (sure s u p x off)) 255) (lowest s (reached s u p x off)) (lowest s (sure s u p x off)))) see.paid_is)
