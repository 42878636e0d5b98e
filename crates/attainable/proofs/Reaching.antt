-- The lines within a set, parents first.
-- Assumes nothing.
use Rattle.laws.proofs.Prelude.{ℕ, ◌≤◌, ◌<◌, ◌≡◌, ap, Bool, false, ◌&&◌, ◌||◌, List, ltb, lt-ltb, arith, bit_or, pick, split, climb_step, bit, bit_or_lem, set_below, set_bit}
use Rattle.position.proofs.Rules.{count, parent, opening, Checked, has_parent}
use Rattle.slots.proofs.Parents.{parent_lower}
use Rattle.attainable.specs.Forms.Round.{reach_in}

module _ (s : List ℕ) (ok : Checked s) (confirmed can : ℕ) where
  pub reach_step : (t : ℕ) → reach_in s confirmed can t
      ≡ (bit can t && (has_parent s (bit confirmed) t || pick (ltb (parent s t) t) (reach_in s confirmed can (parent s t)) false))
  unfolding reach_in
  reach_step t = climb_step (parent s) (λ k above. bit can k && (has_parent s (bit confirmed) k || above)) false t

  -- over a set of those below k, among them the parent
  pub reach_turn : (k found t : ℕ) (r : Bool) → found ≡ set_below k (reach_in s confirmed can) → k ≤ 32 → t < count s → t ≤ k
      → r ≡ (bit can t && has_parent s (bit (bit_or confirmed found)) t) → r ≡ reach_in s confirmed can t
  unfolding has_parent
  reach_turn k found t r e few l m h =
      rw (h, reach_step t)
      (ap (λ b. bit can t && b)
      (split (opening s t)
      (λ y. rw y)
      (λ y.
      let up : parent s t < t = parent_lower ok t l y in
      rw (y, lt-ltb (parent s t) t up, bit_or_lem confirmed found (parent s t), e, set_bit k (reach_in s confirmed can) few (parent s t) (omega (arith, up, m))))))
