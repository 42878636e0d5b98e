-- One set within another, and the bits of sets that others are made of.
-- Assumes nothing.
use Rattle.laws.proofs.Prelude.{ℕ, zero, suc, ◌-◌, ◌≤◌, ◌<◌, ◌≡◌, refl, sym, ap, ◌∙◌, Bool, true, false, not, ◌&&◌, ◌||◌, eqb-true, eq-eqb, ne_eqb, arith}
use lib.Bits.{bit_and}
use Rattle.laws.specs.Booleans.{split, clash, and_parts, fails_by}
use Rattle.laws.specs.Below.{all_below, any_below, all_at, all_fails}
use Rattle.laws.specs.Mask.{bit, union_below}
use Rattle.laws.specs.Bits.{bit_or_lem, bit_and_lem, no_bit}
use Rattle.laws.specs.Sets.{joined, removed, set_below, bit_joined, bit_removed, bit_outside, set_bit, set_same, set_outside}
use Rattle.kept.specs.Forms.Evaluation.{within}

-- what one set is within has its bits
pub within_bit : (a b k : ℕ) → within a b ≡ true → bit a k ≡ true → bit b k ≡ true
unfolding within
within_bit a b k h e =
    let q : bit_and a b ≡ a = eqb-true (bit_and a b) a h in
    (and_parts (bit a k) (bit b k) (sym (bit_and_lem a b k) ∙ ap (λ (m : ℕ). bit m k) q ∙ e)).1

-- the members that another has
pub set_and : (n : ℕ) (f : ℕ → Bool) (b : ℕ) → n ≤ 32 → b < 4294967296 → bit_and (set_below n f) b ≡ set_below n (λ k. f k && bit b k)
set_and n f b few h =
    let q : b ≡ 4294967295 - (4294967295 - b) = omega arith in
    ap (bit_and (set_below n f)) q
    ∙ set_outside n f (4294967295 - b) few (omega arith)
    ∙ set_same n (λ k. f k && not (bit (4294967295 - b) k)) (λ k. f k && bit b k)
    (λ k l. ap (λ (x : Bool). f k && x) (sym (bit_outside (4294967295 - b) k (omega arith) (omega (arith, l, few))) ∙ ap (λ (m : ℕ). bit m k) (sym q)))

-- each member is the other's
pub set_within : (n : ℕ) (f : ℕ → Bool) (b : ℕ) → n ≤ 32 → b < 4294967296 → within (set_below n f) b ≡ all_below n (λ k. not (f k) || bit b k)
unfolding within
set_within n f b few h =
    split (all_below n (λ k. not (f k) || bit b k))
    (λ y.
    let e : bit_and (set_below n f) b ≡ set_below n f =
    set_and n f b few h ∙ set_same n (λ k. f k && bit b k) f (λ k l. both (f k) (bit b k) (all_at n (λ j. not (f j) || bit b j) y k l)) in
    eq-eqb (bit_and (set_below n f) b) (set_below n f) e ∙ sym y)
    (λ y.
    let w = all_fails n (λ k. not (f k) || bit b k) y in
    let v = neither (f w.0) (bit b w.0) w.2 in
    ne_eqb (bit_and (set_below n f) b) (set_below n f)
    (λ e.
    clash
    (within_bit (set_below n f) b w.0 (eq-eqb (bit_and (set_below n f) b) (set_below n f) e) (set_bit n f few w.0 w.1 ∙ v.0))
    v.1)
    ∙ sym y)
  where
    both : (a b : Bool) → (not a || b) ≡ true → (a && b) ≡ a
    both true b h = h
    both false b h = refl

    neither : (a b : Bool) → (not a || b) ≡ false → (a ≡ true) × (b ≡ false)
    neither true b h = (refl, h)
    neither false b h = clash {b = true} refl h

-- a set that needs t itself is not within one without it
pub alone_within : (t b : ℕ) → t < 32 → within (joined 0 true t) (removed b t) ≡ false
alone_within t b l =
    fails_by (within (joined 0 true t) (removed b t))
    (λ h.
    clash
    (within_bit (joined 0 true t) (removed b t) t h (bit_joined 0 true t t l l ∙ rw (no_bit t, eq-eqb t t refl)))
    (bit_removed b t t l l ∙ rw (eq-eqb t t refl) (none (bit b t))))
  where
    none : (a : Bool) → (a && false) ≡ false
    none true = refl
    none false = refl

-- a bit of a union is some member's
pub bit_union : (n : ℕ) (f : ℕ → ℕ) (k : ℕ) → bit (union_below n f) k ≡ any_below n (λ c. bit (f c) k)
unfolding union_below any_below
bit_union zero f k = no_bit k
bit_union (suc n) f k = bit_or_lem (union_below n f) (f n) k ∙ rw (bit_union n f k)
