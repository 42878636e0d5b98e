-- What the masks that are read off the sheet and the position tell.
-- Assumes nothing.
use Rattle.laws.proofs.Prelude.{ℕ, zero, suc, ◌-◌, ◌^◌, ◌<◌, ◌≡◌, refl, ap, ◌∙◌, List, Bool, true, false, not, ◌&&◌, ◌||◌, eqb, ltb, ltb-true, arith}
use native.Mathlib.Nat.{not-suc-le-zero}
use lib.Bits.{bit_and, and_le_l, or_lt}
use lib.Pow.{pow_pos, pow-lt}
use Rattle.laws.specs.Booleans.{pick, split}
use Rattle.laws.specs.Mask.{bit}
use Rattle.laws.specs.Sets.{joined, removed, set_below, bit_removed, set_bit, set_small, set_same}
use Rattle.sheet.specs.Field.{count, parent, opening}
use Rattle.sheet.specs.Checked.{Checked}
use Rattle.ledger.specs.Coin.{coin_of}
use Rattle.slots.specs.Destination.{is_payee}
use Rattle.slots.specs.Ancestry.{is_self_or_ancestor, has_parent}
use Rattle.slots.specs.Forms.Line.{line_set}
use Rattle.slots.proofs.LineSets.{line_set_step, line_bit}
use Rattle.slots.proofs.Parents.{parent_lower}
use Rattle.position.specs.declared.Position.{Position}
use Rattle.position.specs.Position.{is_confirmed}
use Rattle.slack.specs.Beaten.{above, fixed}
use Rattle.kept.specs.Forms.Prospect.{line_of, aims_of}
use Rattle.kept.proofs.WithinSets.{set_and}

with_one : (m t : ℕ) → t < 32 → m < 2 ^ 32 → joined m true t < 2 ^ 32
unfolding joined
with_one m t h k = or_lt 32 m (2 ^ t) k (pow-lt h)

less_one : (m t : ℕ) → m < 2 ^ 32 → removed m t < 4294967296
unfolding removed
less_one m t h = omega (arith, h, and_le_l m (4294967295 - 2 ^ t))

-- a line is a word of 32 bits
line_word : (s : List ℕ) (n t : ℕ) → t < n → t < 32 → line_set s t < 2 ^ 32
line_word s zero t l h = absurd (not-suc-le-zero l)
line_word s (suc n) t l h =
    rw (line_set_step s t)
    (with_one (pick (ltb (parent s t) t) (line_set s (parent s t)) 0) t h
    (split (ltb (parent s t) t)
    (λ e. let j = ltb-true (parent s t) t e in rw e (line_word s n (parent s t) (omega arith) (omega arith)))
    (λ e. rw e (pow_pos 32))))

and_swap : (a b : Bool) → (a && b) ≡ (b && a)
and_swap true true = refl
and_swap true false = refl
and_swap false true = refl
and_swap false false = refl

module _ (s : List ℕ) (p : Position) (ok : Checked s) (confirmed : ℕ) (is : confirmed ≡ set_below (count s) (is_confirmed p)) where
  there : (k : ℕ) → k < count s → bit confirmed k ≡ is_confirmed p k
  there k l = rw is (set_bit (count s) (is_confirmed p) ok.sized.few k l)

  module _ (members : ℕ) (are : members ≡ set_below (count s) (λ k. not (bit confirmed k))) (t : ℕ) (l : t < count s) where
    small : t < 32
    small = omega (arith, l, ok.sized.few)

    -- the unconfirmed ones of t's line
    pub line_is : bit_and members (line_set s t) ≡ line_of s p t
    unfolding line_of
    line_is =
        ap (λ m. bit_and m (line_set s t)) are
        ∙ set_and (count s) (λ k. not (bit confirmed k)) (line_set s t) ok.sized.few (line_word s (suc t) t (omega arith) small)
        ∙ set_same (count s) (λ k. not (bit confirmed k) && bit (line_set s t) k) (λ k. is_self_or_ancestor s k t && not (is_confirmed p k))
        (λ k m. rw (there k m, line_bit s t k small (omega (arith, m, ok.sized.few))) (and_swap (not (is_confirmed p k)) (is_self_or_ancestor s k t)))

    -- those above t
    pub above_is : bit_and members (removed (line_set s t) t) ≡ above s p t
    unfolding above
    above_is =
        ap (λ m. bit_and m (removed (line_set s t) t)) are
        ∙ set_and (count s) (λ k. not (bit confirmed k)) (removed (line_set s t) t) ok.sized.few (less_one (line_set s t) t (line_word s (suc t) t (omega arith) small))
        ∙ set_same (count s) (λ k. not (bit confirmed k) && bit (removed (line_set s t) t) k) (λ k. not (is_confirmed p k) && (not (eqb k t) && is_self_or_ancestor s k t))
        (λ k m.
        let w : k < 32 = omega (arith, m, ok.sized.few) in
        rw (there k m, bit_removed (line_set s t) t k small w, line_bit s t k small w, and_swap (is_self_or_ancestor s k t) (not (eqb k t))))

  -- what pays X in another coin
  pub aims_are : (x sets awaited t : ℕ) → sets ≡ set_below (count s) (λ k. not (eqb (coin_of s k) (coin_of s t)))
      → awaited ≡ set_below (count s) (λ k. is_payee s k x && not (bit confirmed k)) → bit_and sets awaited ≡ aims_of s p x t
  unfolding aims_of
  aims_are x sets awaited t e f =
      rw (e, f)
      (set_and (count s) (λ k. not (eqb (coin_of s k) (coin_of s t))) (set_below (count s) (λ k. is_payee s k x && not (bit confirmed k))) ok.sized.few
      (set_small 32 (count s) (λ k. is_payee s k x && not (bit confirmed k)) ok.sized.few)
      ∙ set_same (count s) (λ k. not (eqb (coin_of s k) (coin_of s t)) && bit (set_below (count s) (λ j. is_payee s j x && not (bit confirmed j))) k)
      (λ k. not (eqb (coin_of s k) (coin_of s t)) && (is_payee s k x && not (is_confirmed p k)))
      (λ k m. rw (set_bit (count s) (λ j. is_payee s j x && not (bit confirmed j)) ok.sized.few k m, there k m)))

  -- the parent is confirmed or none
  pub fixed_is : (set : ℕ) → set ≡ set_below (count s) (has_parent s (bit confirmed)) → set ≡ set_below (count s) (fixed s p)
  unfolding fixed has_parent
  fixed_is set e =
      e ∙ set_same (count s) (λ t. opening s t || bit confirmed (parent s t)) (λ t. opening s t || is_confirmed p (parent s t))
      (λ t l.
      split (opening s t)
      (λ y. rw y)
      (λ y. let a = parent_lower ok t l y in rw (there (parent s t) (omega (arith, a, l)))))
