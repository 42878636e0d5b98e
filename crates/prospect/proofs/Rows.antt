-- What a prospect's rows are to have, from what is read: what is lacking, who comes for X only, the parent.
-- Assumes nothing.
use Rattle.laws.proofs.Prelude.{ℕ, zero, suc, ◌*◌, ◌-◌, ◌/◌, ◌%◌, ◌^◌, ◌≤◌, ◌<◌, ◌≡◌, refl, sym, ap, ◌∙◌, List, Bool, true, false, not, ◌&&◌, ◌||◌, eqb, ltb, eqb-true, eq-eqb, ne_eqb, lt-ltb, le-ltb, not-true, arith}
use Prim.Native.Nat.{min}
use lib.Bits.{bit_and, bit_or, and_step, and_le_l, and_zero_l, or_zero_l}
use native.Mathlib.Nat.{pow-succ', not-suc-le-zero, eq-or-lt_of_le, le_of_suc-le-suc}
use mathlib.Core.Bool.{beq, or-true, or-false}
use Rattle.laws.specs.Below.{all_below, all_at}
use Rattle.attainable.proofs.Lacking.{both_ways}
use Rattle.attainable.proofs.Masks.{subset_from, or_left, or_last}
use lib.Pow.{pow-lt}
use Rattle.laws.specs.Booleans.{pick, split, either, and_parts, clash, beq_same}
use Rattle.laws.specs.Mask.{bit, subset, without}
use Rattle.laws.specs.Bits.{bit_and_lem, bit_half, no_bit, zero_or_one, or_bit, subset_bit}
use Rattle.laws.specs.Sets.{joined, removed, set_below, bit_first, bit_joined, set_same, set_outside, none_set}
use Rattle.sheet.specs.Field.{count, parent, opening, signatures, required}
use Rattle.sheet.specs.Checked.{Checked}
use Rattle.slots.specs.Destination.{is_contract}
use Rattle.slots.proofs.Parents.{parent_lower}
use Rattle.slots.specs.Signatures.{signed}
use Rattle.position.specs.declared.Position.{Position}
use Rattle.position.specs.Position.{shared}
use Rattle.slack.specs.Beaten.{destination_of, signs, pooled, can_come_elsewhere}
use Rattle.slack.specs.Kept.{comes_for_party}
use Rattle.kept.specs.Forms.Prospect.{parent_of, only_of}
use Rattle.kept.specs.Forms.Evaluation.{within}

bit_one : (t k : ℕ) → t < 32 → k < 32 → bit (2 ^ t) k ≡ eqb k t
unfolding joined
bit_one t k l m = ap (λ (w : ℕ). bit w k) (sym (or_zero_l (2 ^ t))) ∙ bit_joined 0 true t k l m ∙ rw (no_bit k)

order : (a b c : Bool) → ((a && b) && c) ≡ (c && (a && b))
order true true true = refl
order true true false = refl
order true false true = refl
order true false false = refl
order false b true = refl
order false b false = refl

one_small : (t : ℕ) → t < 32 → 2 ^ t < 4294967296
one_small t l = pow-lt l

alone_set : (n up : ℕ) → up < n → set_below n (λ r. eqb up r) ≡ joined 0 true up
unfolding set_below joined
alone_set zero up l = absurd (not-suc-le-zero l)
alone_set (suc n) up l =
    either (eq-or-lt_of_le (le_of_suc-le-suc l))
    (λ e. rw (eq-eqb up n e, none_set n (λ r. eqb up r) (λ k m. ne_eqb up k (λ f. omega (arith, f, m, e))), e))
    (λ m. rw (ne_eqb up n (λ f. omega (arith, f, m))) (alone_set n up m))

-- the bits of what a byte leaves
bytes : all_below 256 (λ m. all_below 8 (λ k. beq (bit (255 - m) k) (not (bit m k)))) ≡ true
unfolding all_below bit
bytes = refl

left_bit : (m k : ℕ) → m < 256 → k < 8 → bit (255 - m) k ≡ not (bit m k)
left_bit m k h l =
    beq_same _ _
    (all_at 8 (λ j. beq (bit (255 - m) j) (not (bit m j))) (all_at 256 (λ i. all_below 8 (λ j. beq (bit (255 - i) j) (not (bit i j)))) bytes m h) k l)

-- a word whose bits another has
all_had : (n a b : ℕ) → a < 2 ^ n → ((k : ℕ) → k < n → bit a k ≡ true → bit b k ≡ true) → bit_and a b ≡ a
all_had zero a b h f = let z : a ≡ 0 = omega (arith, h) in rw (z, and_zero_l b)
all_had (suc n) a b h f =
    let l : a < 2 * 2 ^ n = rw (pow-succ' 2 n) at h in
    let high = all_had n (a / 2) (b / 2) (omega (arith, l)) (λ k i e. sym (bit_half b k) ∙ f (suc k) (omega (arith, i)) (bit_half a k ∙ e)) in
    let low : min (a % 2) (b % 2) ≡ a % 2 =
    either (zero_or_one (a % 2) (omega arith))
    (λ e. rw e (omega arith))
    (λ e. let o = eqb-true (b % 2) 1 (sym (bit_first b) ∙ f 0 (omega arith) (bit_first a ∙ rw e)) in rw (e, o)) in
    rw (and_step a b, high, low) (omega arith)

-- what is needed and not given is known where all that is needed is known or given
module _ (n need given know : ℕ) (few : n ≤ 8) (word : need < 2 ^ n) (byte : given < 256) where
  rest : (k : ℕ) → k < n → bit (without need given) k ≡ (bit need k && not (bit given k))
  unfolding without
  rest k l = rw (bit_and_lem need (255 - given) k, left_bit given k byte (omega (arith, l, few)))

  below : without need given < 2 ^ n
  unfolding without
  below = omega (arith, word, and_le_l need (255 - given))

  pub rest_known : within (without need given) know ≡ subset n need (bit_or know given)
  unfolding within
  rest_known =
      both_ways (eqb (bit_and (without need given) know) (without need given)) (subset n need (bit_or know given))
      (λ y.
      let e = eqb-true (bit_and (without need given) know) (without need given) y in
      subset_from n need (bit_or know given)
      (λ k l i.
      split (bit given k)
      (λ a. or_last know given k a)
      (λ a.
      or_left know given k
      (and_parts (bit (without need given) k) (bit know k) (sym (bit_and_lem (without need given) know k) ∙ ap (λ (m : ℕ). bit m k) e ∙ rest k l ∙ rw (i, a))).1)))
      (λ y.
      eq-eqb (bit_and (without need given) know) (without need given)
      (all_had n (without need given) know below
      (λ k l i.
      let w = and_parts (bit need k) (not (bit given k)) (sym (rest k l) ∙ i) in
      either (or_bit know given k (subset_bit n need (bit_or know given) y k l w.0))
      (λ z. z)
      (λ z. clash z (not-true (bit given k) w.1)))))

module _ (s u : List ℕ) (p : Position) (x : ℕ) (ok : Checked s) (t : ℕ) (l : t < count s) where
  -- the others that can come for X only
  pub only_is : (paying elsewhere : ℕ) → paying ≡ set_below (count s) (λ r. not (is_contract s r)) → elsewhere ≡ can_come_elsewhere s u p x 0 t → elsewhere < 4294967296
      → removed (bit_and paying (4294967295 - elsewhere)) t ≡ only_of s u p x t
  unfolding removed only_of comes_for_party
  only_is paying elsewhere e f h =
      let w : t < 32 = omega (arith, l, ok.sized.few) in
      rw (
        e,
        set_outside (count s) (λ r. not (is_contract s r)) elsewhere ok.sized.few h,
        set_outside (count s) (λ r. not (is_contract s r) && not (bit elsewhere r)) (2 ^ t) ok.sized.few (one_small t w),
        f,
      )
      (set_same (count s) (λ r. (not (is_contract s r) && not (bit (can_come_elsewhere s u p x 0 t) r)) && not (bit (2 ^ t) r))
      (λ r. not (eqb r t) && (not (is_contract s r) && not (bit (can_come_elsewhere s u p x 0 t) r)))
      (λ r m. rw (bit_one t r w (omega (arith, m, ok.sized.few))) (order (not (is_contract s r)) (not (bit (can_come_elsewhere s u p x 0 t) r)) (not (eqb r t)))))

  -- the parent as a set
  pub up_is : pick (ltb (parent s t) t) (joined 0 true (parent s t)) 0 ≡ parent_of s t
  unfolding parent_of opening
  up_is =
      split (opening s t)
      (λ y. rw (y, le-ltb (parent s t) t (let o = eqb-true (parent s t) 255 y in omega (arith, o, l, ok.sized.few))) (sym (none_set (count s) (λ r. false) (λ k m. refl))))
      (λ y.
      let a = parent_lower ok t l y in
      rw (y, lt-ltb (parent s t) t a) (sym (alone_set (count s) (parent s t) (omega (arith, a, l)))))

  -- what is lacking of t, none where it is in the pool
  pub lacks_tell : (held : Bool) (need given : ℕ) → held ≡ pooled s p x t → need ≡ required s t → given ≡ shared p t (destination_of s x t) → given < 256
      → (v : ℕ) → v ≡ pick held 0 (without need given) → (know : ℕ) → within v know ≡ (signs s p x know t || pooled s p x t)
  unfolding signs signed within
  lacks_tell held need given a b c byte v e know =
      split held
      (λ y. rw (e, ← a, y, and_zero_l know) (sym (or-true (subset (signatures s) (required s t) (bit_or know (shared p t (destination_of s x t)))))))
      (λ y.
      rw (e, ← a, y, ← c, ← b)
      (rest_known (signatures s) need given know ok.signatures_few (rw b (ok.entries t l).required_within) byte ∙ sym (or-false (subset (signatures s) need (bit_or know given)))))
